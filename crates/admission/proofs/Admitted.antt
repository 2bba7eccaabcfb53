-- The list of admitted rows: by cases, and by way of the rule's card.
use mathlib.Core.Path.{◌≡◌, refl, sym, ap, ◌∙◌}
use mathlib.Core.Bool.{Bool, true, false, not}
use mathlib.Core.List.{List, [], ◌++◌}
use mathlib.Core.Option.{Option, some}
use Prim.Native.Nat.{ℕ, ◌≤◌}
use native.Mathlib.Omega.{arith}
use borrow.Author.Tests.{ltb-true, ltb-false}
use lib.Dec.{ltb}
use lib.ListN.{length, take, drop, replicate, length-append, length-replicate}
use lib.Seq.{take_at}
use Rattle.tables.specs.Tables.{columns_of, same_columns}
use Rattle.tables.specs.Refusals.{first_applying, Refused, Given, Lent, lend, tables_refusals}
use Rattle.tables.proofs.Refusals.{first_nil, first_none, lend_short, lend_long, lend_refused}
use Rattle.tables.proofs.Sizes.{same_refl}
use Rattle.tables.proofs.Tests.{is_true}
use Rattle.card.specs.Sound.{most_card_bytes}
use Rattle.card.specs.Calls.{list_call}
use Rattle.rule.specs.Condition.{Rule}
use Rattle.rule.specs.Calls.{rule_of, reading_refusals, Accepted, with_rule, true_rows, admit_call}
use Rattle.rule.proofs.Accepted.{accepted_named}
use Rattle.parser.proofs.Known.{known}
use Rattle.translation.specs.Calls.{rule_bytes, card_call}
use Rattle.translation.specs.Demand3.{Later, published_length, Demand3For}
use Rattle.translation.proofs.Demand3.{card_bytes_few, demand_3_claim}
use Rattle.std.specs.Prelude.{Result, Ok, Err}
use Rattle.cells.specs.Reasons.{reason_number, answer_of}
use Rattle.cells.specs.declared.Reason.{Reason}
use Rattle.admission.specs.Claims.{AdmitClaim}
use Rattle.admission.proofs.Lent.{lent_given, lent_refused}

-- ---- by cases

admits : (text file buffer : List ℕ) (r : Rule) → rule_of text (columns_of file) ≡ some r
    → admit_call text file buffer ≡ lend (reading_refusals text file) (true_rows file r) buffer
unfolding admit_call
admits text file buffer r e = ap (λ (o : Option Rule). lend (reading_refusals text file) (with_rule o [] (true_rows file)) buffer) e

pub admit_claim : AdmitClaim
unfolding admit_call
admit_claim = record {
  admit_refused = λ text file buffer n e. lend_refused (reading_refusals text file) _ buffer e;
  admit_short = λ text file buffer a r e h. admits text file buffer r e ∙ lend_short (reading_refusals text file) (true_rows file r) buffer a h;
  admit_given = λ text file buffer a r e h. admits text file buffer r e ∙ lend_long (reading_refusals text file) (true_rows file r) buffer a h;
}

-- ---- the card of an accepted text

module _ (text file : List ℕ) (accepted : Accepted text file) where
  abbrev demand_3 : Demand3For text file
  demand_3 = demand_3_claim text file accepted

  abbrev rule : Rule
  rule = demand_3.rule

  -- the longest card has 2,891 bytes
  card_short : published_length file rule ≤ most_card_bytes
  card_short =
      let k = known text file rule accepted demand_3.is_rule in
      card_bytes_few file rule k.sized.tables_high k.few_entries

  -- the file that the text is accepted with comes later than itself
  later : Later file file
  unfolding tables_refusals same_columns
  later =
      let w = accepted_named text file accepted in
      record {
        no_refusal = first_none 1 _ _ (ap not w.tables_sized) (first_none 2 _ _ (ap not w.tables_marked) first_nil);
        same_columns_lem = is_true _ (same_refl (columns_of file));
      }

  -- LIST with the rule's card gives the admitted rows
  lists_admitted : (buffer : List ℕ) → list_call (rule_bytes file rule) file buffer ≡ admit_call text file buffer
  lists_admitted buffer = go (ltb (length buffer) (length (true_rows file rule))) refl
    where
      go : (b : Bool) → ltb (length buffer) (length (true_rows file rule)) ≡ b → list_call (rule_bytes file rule) file buffer ≡ admit_call text file buffer
      go true e =
          let h = ltb-true (length buffer) (length (true_rows file rule)) e in
          (demand_3.listings file later buffer).short h ∙ sym (admit_claim.admit_short text file buffer accepted rule demand_3.is_rule h)
      go false e =
          let h = ltb-false (length buffer) (length (true_rows file rule)) e in
          (demand_3.listings file later buffer).long h ∙ sym (admit_claim.admit_given text file buffer accepted rule demand_3.is_rule h)

  -- CARD with room for the longest card
  module _ (room : List ℕ) (size : length room ≡ most_card_bytes) where
    card_made : card_call text file room
        ≡ record { result = Given (published_length file rule); buffer = rule_bytes file rule ++ drop (published_length file rule) room }
    card_made = (demand_3.cards room).long (omega (arith, card_short))

    card_room : length (with_rule (rule_of text (columns_of file)) [] (rule_bytes file)) ≤ length room
    card_room = rw demand_3.is_rule (omega (arith, (demand_3.cards room).length_is, card_short))

-- ---- in the code

module _ (text file room : List ℕ) (size : length room ≡ most_card_bytes) (made : Result ℕ Reason) (answer : answer_of made ≡ (card_call text file room).result) where
  reading_accepted : (n : ℕ) → made ≡ Ok n → Accepted text file
  unfolding card_call
  reading_accepted n e = lent_given (reading_refusals text file) _ room n (sym (ap answer_of e) ∙ answer)

  -- with room enough, CARD refuses only what reading refuses
  reading_refused : (x : Reason) → made ≡ Err x → first_applying (reading_refusals text file) ≡ some (reason_number x)
  unfolding card_call
  reading_refused x e =
      lent_refused (reading_refusals text file) _ room (reason_number x) (λ a. card_room text file a room size) (sym (ap answer_of e) ∙ answer)

  module _ (n : ℕ) (e : made ≡ Ok n) (card : List ℕ) (written : card ≡ (card_call text file room).buffer) where
    abbrev accepts : Accepted text file
    accepts = reading_accepted n e

    is_length : n ≡ length (rule_bytes file (rule text file accepts))
    is_length =
        let a : Given n ≡ Given _ = sym (ap answer_of e) ∙ answer ∙ ap (λ (a : Lent ℕ). a.result) (card_made text file accepts room size) in
        let z : n ≡ published_length file (rule text file accepts) = cc in
        z ∙ sym ((demand_3 text file accepts).cards room).length_is

    holds_card : card ≡ rule_bytes file (rule text file accepts) ++ drop (published_length file (rule text file accepts)) room
    holds_card = written ∙ ap (λ (a : Lent ℕ). a.buffer) (card_made text file accepts room size)

    pub card_within : n ≤ length card
    card_within = omega (arith, is_length, ap length holds_card, length-append (rule_bytes file (rule text file accepts)) (drop (published_length file (rule text file accepts)) room))

    card_is : take n card ≡ rule_bytes file (rule text file accepts)
    card_is = ap (take n) holds_card ∙ take_at (rule_bytes file (rule text file accepts)) _ n (sym is_length)

    pub lists_rows : (buffer : List ℕ) → list_call (take n card) file buffer ≡ admit_call text file buffer
    lists_rows buffer = ap (λ (c : List ℕ). list_call c file buffer) card_is ∙ lists_admitted text file accepts buffer

  passed_refusal : (buffer : List ℕ) (x : Reason) → made ≡ Err x → (Refused (reason_number x) ≡ (admit_call text file buffer).result) × (buffer ≡ (admit_call text file buffer).buffer)
  passed_refusal buffer x e =
      let is = admit_claim.admit_refused text file buffer (reason_number x) (reading_refused x e) in
      (sym (ap (λ (a : Lent ℕ). a.result) is), sym (ap (λ (a : Lent ℕ). a.buffer) is))

-- a refusal is passed up; the room for the card is an array of zeros
pub card_refused : (text file buffer : List ℕ) (x : Reason) → Refused (reason_number x) ≡ (card_call text file (replicate most_card_bytes 0)).result
    → (Refused (reason_number x) ≡ (admit_call text file buffer).result) × (buffer ≡ (admit_call text file buffer).buffer)
card_refused text file buffer x e = passed_refusal text file (replicate most_card_bytes 0) (length-replicate {A = ℕ} most_card_bytes 0) (Err x) e buffer x refl
