-- Demand 3, over the definitions of the calls.
use mathlib.Core.Path.{◌≡◌, refl, sym, ap, ap₂, fun_ext, ◌∙◌}
use mathlib.Core.Bool.{true, false, not}
use mathlib.Core.List.{List, [], ◌∷◌, ◌++◌}
use mathlib.Core.Option.{Option, none}
use Prim.Native.Nat.{ℕ, ◌+◌, ◌≤◌}
use native.Mathlib.Omega.{arith}
use borrow.Author.Tests.{lt-ltb}
use lib.Dec.{T, ltb, leb, le→leb}
use lib.Ieee.Fits.{and_i}
use lib.ListN.{length, drop}
use Rattle.tables.specs.Bytes.{between, byte_at}
use Rattle.tables.specs.Tables.{most_tables, table_count, columns_of, row_count, tables_of, rows_where}
use Rattle.tables.specs.Values.{most_entries, judged_levels, judged_row}
use Rattle.tables.specs.Refusals.{Given, first_applying, lend, tables_refusals, row_refusal}
use Rattle.tables.proofs.Refusals.{first_nil, first_none, first_append, lend_short, lend_long, lend_refused, unless_none}
use Rattle.tables.proofs.Rows.{rows_claim}
use Rattle.tables.proofs.Tabulated.{tabulate_length}
use Rattle.tables.proofs.Sizes.{columns_count, columns_fit, same_refl, same_columns_is}
use Rattle.card.specs.Card.{Card, LeafEntry, PairEntry, RowEntry, entries}
use Rattle.card.specs.declared.Interpretation.TheVariants.{AsNo}
use Rattle.card.specs.Layout.{card_length, tables_in, columns_in}
use Rattle.card.specs.Sound.{most_card_bytes, sound, Sound}
use Rattle.card.specs.Calls.{card_says, says_yes, check_refusals, check_call, fits_tables, gate_refusals, run_refusals, run_call, list_call}
use Rattle.tables.proofs.Tests.{is_true, is_so}
use Rattle.card.proofs.Claims.{sound_claim, length_claim}
use Rattle.rule.specs.Condition.{Rule}
use Rattle.rule.specs.Sum.{entry_sum}
use Rattle.rule.specs.Meaning.{judged}
use Rattle.rule.specs.Calls.{reading_refusals, Accepted, with_rule, true_at, true_rows}
use Rattle.rule.specs.Claims.{AcceptedAs}
use Rattle.rule.proofs.Accepted.{accepted_named, parts_claim}
use Rattle.translation.specs.Translation.{rule_card}
use Rattle.translation.specs.Calls.{rule_bytes, card_call}
use Rattle.translation.specs.Claims.{CardRefusedClaim, Demand3Claim}
use Rattle.translation.specs.Demand3.{Later, published_length, SoundFor, CardClaim, RunClaim, ListClaim}
use Rattle.translation.proofs.Sums.{card_sum, sum_claim}
use Rattle.translation.proofs.Says.{translation_claim}
use Rattle.translation.proofs.Fits.{card_fits_lem}

-- a card has an entry at least
pub some_entries : (c : Card) → 1 ≤ entries c
unfolding entries
some_entries (LeafEntry x) = omega arith
some_entries (PairEntry j a b) = omega arith
some_entries (RowEntry q t c) = omega arith

few_entries : (r : Rule) → entry_sum r ≤ most_entries → T (between 1 most_entries (entries (rule_card r)))
few_entries r h =
    let n = entries (rule_card r) in
    let most : n ≤ most_entries = omega (arith, card_sum AsNo r) in
    and_i (leb 1 n) (leb n most_entries) (le→leb 1 n (some_entries (rule_card r))) (le→leb n most_entries most)

-- no rule's card is longer than the longest
pub card_bytes_few : (file : List ℕ) (r : Rule) → table_count file ≤ most_tables → entry_sum r ≤ most_entries → published_length file r ≤ most_card_bytes
card_bytes_few file r tables few = omega arith

module _ (text file : List ℕ) (accepted : Accepted text file) where
  abbrev accepted_as : AcceptedAs text file
  accepted_as = parts_claim text file accepted

  abbrev rule : Rule
  rule = accepted_as.rule

  abbrev card : List ℕ
  card = rule_bytes file rule

  is_sound : Sound card
  unfolding rule_bytes
  is_sound = record {
    columns = columns_of file;
    card = rule_card rule;
    bytes = refl;
    few = few_entries rule accepted_as.few_entries;
    sized = columns_fit file (is_so _ (accepted_named text file accepted).tables_sized);
    fits = card_fits_lem (columns_of file) rule AsNo judged_levels (omega (arith, accepted_as.few_froms)) accepted_as.fits;
  }

  made_for : columns_in card ≡ columns_of file
  unfolding is_sound
  made_for = sound_claim.holds_columns card is_sound

  sound_for : SoundFor card file
  unfolding check_call check_refusals columns_in
  sound_for = record {
    is_sound = unless_none _ (λ _. tt) (first_none 9 (not (sound card)) [] (ap not (sound_claim.passes card is_sound)) first_nil);
    tables_are = sym (tabulate_length (tables_in card) (λ j. byte_at card (3 + j))) ∙ ap length made_for ∙ columns_count file;
    columns_are = made_for;
  }

  card_claim : (buffer : List ℕ) → CardClaim text file rule buffer
  unfolding card_call rule_bytes
  card_claim buffer =
      let long : length card ≡ published_length file rule = length_claim (columns_of file) (rule_card rule) ∙ ap₂ card_length (columns_count file) (sum_claim rule) in
      let is : card_call text file buffer ≡ lend (reading_refusals text file) card buffer = ap (λ (o : Option Rule). lend (reading_refusals text file) (with_rule o [] (rule_bytes file)) buffer) accepted_as.is_rule in
      record {
        length_is = long;
        short = λ h. is ∙ lend_short (reading_refusals text file) card buffer accepted (rw long h);
        long = λ h. is ∙ lend_long (reading_refusals text file) card buffer accepted (rw long h) ∙ ap (λ (n : ℕ). record { result = Given n; buffer = card ++ drop n buffer }) long;
      }

  module _ (later : List ℕ) (h : Later file later) where
    columns_are : columns_in card ≡ columns_of later
    columns_are = made_for ∙ same_columns_is file later (is_so _ h.same_columns_lem)

    fits_later : fits_tables card later ≡ true
    unfolding fits_tables
    fits_later = rw columns_are (is_true _ (same_refl (columns_of later)))

    no_refusal : first_applying (gate_refusals card later) ≡ none
    unfolding gate_refusals check_refusals
    no_refusal =
        first_append (tables_refusals later) _ h.no_refusal
        ∙ first_none 9 (not (sound card)) _ (ap not (sound_claim.passes card is_sound)) (first_none 10 (not (fits_tables card later)) [] (ap not fits_later) first_nil)

    says_true : (row : ℕ) → says_yes card later row ≡ true_at later rule row
    unfolding says_yes judged is_sound
    says_true row =
        ap (card_says later row) (sound_claim.holds_card card is_sound) ∙ translation_claim.yes_is_true (tables_of later) (judged_row (tables_of later) row) rule accepted_as.scoped

    runs : (row : ℕ) → RunClaim card later rule row
    unfolding run_call run_refusals row_refusal
    runs row l =
        let inside : not (ltb row (row_count later 1)) ≡ false = ap not (lt-ltb row (row_count later 1) l) in
        unless_none _ (λ _. says_yes card later row) (first_append (gate_refusals card later) (row_refusal later row ∷ []) no_refusal ∙ first_none 11 _ [] inside first_nil) ∙ ap Given (says_true row)

    listing : (buffer : List ℕ) → ListClaim card later rule buffer
    unfolding list_call
    listing buffer =
        let rows : rows_where later (says_yes card later) ≡ true_rows later rule = ap (rows_where later) (fun_ext says_true) in
        let is : list_call card later buffer ≡ lend (gate_refusals card later) (true_rows later rule) buffer = ap (λ (l : List ℕ). lend (gate_refusals card later) l buffer) rows in
        record {
          short = λ l. is ∙ lend_short (gate_refusals card later) (true_rows later rule) buffer no_refusal l;
          long = λ l. is ∙ lend_long (gate_refusals card later) (true_rows later rule) buffer no_refusal l;
        }

pub demand_3_claim : Demand3Claim
demand_3_claim text file e = record {
  rule = rule text file e;
  is_rule = (parts_claim text file e).is_rule;
  sound_for = sound_for text file e;
  cards = card_claim text file e;
  runs = runs text file e;
  rows = λ later h. record { exactly = rows_claim.exactly later (true_at later (rule text file e)); rising = rows_claim.rising later (true_at later (rule text file e)) };
  listings = listing text file e;
}

pub card_refused_claim : CardRefusedClaim
unfolding card_call
card_refused_claim text file buffer n e = lend_refused (reading_refusals text file) _ buffer e
