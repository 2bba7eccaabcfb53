-- Demand 3 of the code's results, from demand 3 of the definitions that their contracts cite.
use mathlib.Core.Path.{◌≡◌, refl, sym, ap, ◌∙◌}
use mathlib.Core.Bool.{Bool, true, false}
use mathlib.Core.List.{List}
use Prim.Native.Nat.{ℕ, ◌<◌}
use native.Mathlib.Omega.{arith}
use borrow.Author.Tests.{ltb-true, ltb-false}
use lib.Dec.{ltb}
use lib.ListN.{length, take}
use lib.Seq.{take_at}
use Rattle.tables.specs.Tables.{row_count}
use Rattle.tables.specs.Refusals.{Answer, Refused, Given, Lent}
use Rattle.card.specs.Calls.{run_call, list_call}
use Rattle.rule.specs.Calls.{true_at, true_rows}
use Rattle.translation.specs.Calls.{rule_bytes, card_call}
use Rattle.translation.specs.Demand3.{Later, published_length, Demand3For}
use Rattle.translation.proofs.Demand3.{demand_3_claim}
use Rattle.std.specs.Prelude.{Result, Ok, Err}
use Rattle.cells.specs.Reasons.{answer_of}
use Rattle.cells.specs.declared.Reason.{Reason}
use Rattle.cells.specs.declared.Reason.TheVariants.{Short}
use Rattle.cells.proofs.Told.{reasons_claim}
use Rattle.admission.specs.Promise.{CardKept, ListKept}
use Rattle.admission.specs.Claims.{PromiseClaim}

abbrev result_is : {A : Type 0} {x y : Lent A} → x ≡ y → x.result ≡ y.result
result_is e = ap (λ z. z.result) e

abbrev buffer_is : {A : Type 0} {x y : Lent A} → x ≡ y → x.buffer ≡ y.buffer
buffer_is e = ap (λ z. z.buffer) e

given_not_refused : {A : Type 0} {m k : ℕ} → ◌≡◌ {A = Answer ℕ} (Given m) (Refused k) → A
given_not_refused e = let z : ◌≡◌ {A = ℕ} 0 1 = cc in absurd (omega arith)

given_same : {m n : ℕ} → ◌≡◌ {A = Answer ℕ} (Given m) (Given n) → m ≡ n
given_same e = cc

module _ (text file : List ℕ) (d : Demand3For text file) where
  kept : (buffer : List ℕ) (made : Result ℕ Reason) → answer_of made ≡ (card_call text file buffer).result → CardKept text file d.rule buffer made
  kept buffer made e =
      record {
        fits = λ l. reasons_claim.answers made (Ok (published_length file d.rule)) (e ∙ result_is ((d.cards buffer).long l));
        bytes = λ l. buffer_is ((d.cards buffer).long l);
        short = λ l. reasons_claim.answers made (Err Short) (e ∙ result_is ((d.cards buffer).short l));
        untouched = λ l. buffer_is ((d.cards buffer).short l);
      }

  -- the bytes that CARD gave
  card_is : (buffer : List ℕ) (n : ℕ) → answer_of (Ok n) ≡ (card_call text file buffer).result
      → take n (card_call text file buffer).buffer ≡ rule_bytes file d.rule
  card_is buffer n e = go (ltb (length buffer) (published_length file d.rule)) refl
    where
      go : (b : Bool) → ltb (length buffer) (published_length file d.rule) ≡ b → take n (card_call text file buffer).buffer ≡ rule_bytes file d.rule
      go true t = given_not_refused (e ∙ result_is ((d.cards buffer).short (ltb-true _ _ t)))
      go false t =
          let long = (d.cards buffer).long (ltb-false _ _ t) in
          let count : n ≡ published_length file d.rule = given_same (e ∙ result_is long) in
          ap (take n) (buffer_is long) ∙ take_at (rule_bytes file d.rule) _ n ((d.cards buffer).length_is ∙ sym count)

  module _ (buffer : List ℕ) (n : ℕ) (e : answer_of (Ok n) ≡ (card_call text file buffer).result) (later : List ℕ) (h : Later file later) where
    runs : (row : ℕ) → row < row_count later 1 → (ran : Result Bool Reason) → answer_of ran ≡ run_call (take n (card_call text file buffer).buffer) later row
        → ran ≡ Ok (true_at later d.rule row)
    runs row l ran z =
        reasons_claim.answers ran (Ok (true_at later d.rule row)) (z ∙ ap (λ (c : List ℕ). run_call c later row) (card_is buffer n e) ∙ d.runs later h row l)

    lists : (list : List ℕ) (listed : Result ℕ Reason) → answer_of listed ≡ (list_call (take n (card_call text file buffer).buffer) later list).result
        → ListKept (take n (card_call text file buffer).buffer) later d.rule list listed
    lists list listed z =
        let is : list_call (take n (card_call text file buffer).buffer) later list ≡ list_call (rule_bytes file d.rule) later list
        = ap (λ (c : List ℕ). list_call c later list) (card_is buffer n e) in
        record {
          fits = λ l. reasons_claim.answers listed (Ok (length (true_rows later d.rule))) (z ∙ result_is (is ∙ (d.listings later h list).long l));
          rows = λ l. buffer_is (is ∙ (d.listings later h list).long l);
          short = λ l. reasons_claim.answers listed (Err Short) (z ∙ result_is (is ∙ (d.listings later h list).short l));
          untouched = λ l. buffer_is (is ∙ (d.listings later h list).short l);
        }

pub promise_claim : PromiseClaim
promise_claim text file accepted =
    let d = demand_3_claim text file accepted in
    record { rule = d.rule; is_rule = d.is_rule; makes = kept text file d; runs = runs text file d; lists = lists text file d }
