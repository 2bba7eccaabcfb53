-- What is printed: a list of 1,000 elements holds all admitted rows, so that reading alone refuses.
use mathlib.Core.Path.{◌≡◌, refl, sym, ap, ap₂, subst, ◌∙◌}
use mathlib.Core.Bool.{Bool}
use mathlib.Core.List.{List, [], ◌∷◌, ◌++◌, Memᴰ}
use mathlib.Core.Option.{Option}
use Prim.Native.Nat.{ℕ, zero, suc, ◌≤◌, ◌<◌}
use native.Mathlib.Nat.{le_of_suc-le-suc, not-suc-le-zero}
use native.Mathlib.Omega.{arith}
use lib.ListN.{length, get_or, take, drop}
use lib.Seq.{take_at}
use Rattle.std.proofs.lemmas.List.Elements.{All-from_get_or}
use Rattle.tables.specs.Tables.{most_rows, columns_of, size_at, row_count, rows_where}
use Rattle.tables.specs.Refusals.{Given, Lent}
use Rattle.tables.proofs.Rows.{rows_few, rows_claim}
use Rattle.tables.proofs.Sizes.{count_at}
use Rattle.cells.specs.Code.{Sized}
use Rattle.cells.specs.Reasons.{reason_number, answer_of}
use Rattle.cells.specs.declared.Reason.{Reason}
use Rattle.cells.proofs.Cells.{sized_is}
use Rattle.rule.specs.Condition.{Rule}
use Rattle.rule.specs.Calls.{rule_of, reading_refusals, Accepted, with_rule, true_at, true_rows, admit_call}
use Rattle.rule.proofs.Accepted.{accepted_named, parts_claim}
use Rattle.std.specs.Prelude.{Result, Ok, Err, All}
use Rattle.admission.specs.Output.{rows_text, refusal_text, output_for, output}
use Rattle.admission.proofs.Lent.{lent_given, lent_refused}
use Rattle.admission.proofs.Admitted.{admit_claim}
use Rattle.admission.proofs.Whole.{output_refused}

-- ---- each row of which a test holds is small

member : (xs : List ℕ) (k : ℕ) → k < length xs → Memᴰ (get_or xs k 0) xs
member [] k h = absurd (not-suc-le-zero h)
member (x ∷ xs) zero h = Memᴰ.head refl
member (x ∷ xs) (suc k) h = Memᴰ.tail (member xs k (le_of_suc-le-suc h))

rows_below : (file : List ℕ) (p : ℕ → Bool) (k : ℕ) → k < length (rows_where file p) → get_or (rows_where file p) k 0 < row_count file 1
rows_below file p k h = ((rows_claim.exactly file p (get_or (rows_where file p) k 0)).0 (member (rows_where file p) k h)).0

module _ (text file : List ℕ) (accepted : Accepted text file) where
  sized : Sized file
  sized = sized_is file (accepted_named text file accepted).tables_sized

  total_is : row_count file 1 ≡ (size_at file 0).rows
  total_is = count_at file 0 sized.tables_low

  total_few : (size_at file 0).rows ≤ most_rows
  total_few = (sized.each 0 sized.tables_low).rows_high

  abbrev rule : Rule
  rule = (parts_claim text file accepted).rule

  abbrev rows : List ℕ
  rows = true_rows file rule

  rows_most : length rows ≤ most_rows
  rows_most = omega (arith, rows_few file (true_at file rule), total_is, total_few)

  output_given : rows_text (row_count file 1) rows ≡ output text file
  unfolding output
  output_given =
      sym
      (ap (output_for text file) accepted
      ∙ ap (λ (o : Option Rule). rows_text (row_count file 1) (with_rule o [] (true_rows file))) (parts_claim text file accepted).is_rule)

  module _ (room : List ℕ) (size : length room ≡ most_rows) where
    admits : admit_call text file room ≡ record { result = Given (length rows); buffer = rows ++ drop (length rows) room }
    admits = admit_claim.admit_given text file room accepted rule (parts_claim text file accepted).is_rule (omega (arith, rows_most))

    rows_room : length (with_rule (rule_of text (columns_of file)) [] (true_rows file)) ≤ length room
    rows_room = rw (parts_claim text file accepted).is_rule (omega (arith, rows_most))

-- ---- in the code

module _ (text file room : List ℕ) (size : length room ≡ most_rows) (listed : Result ℕ Reason) (answer : answer_of listed ≡ (admit_call text file room).result) where
  pub prints_refusal : (x : Reason) → listed ≡ Err x → refusal_text (reason_number x) ≡ output text file
  unfolding admit_call
  prints_refusal x e =
      sym
      (output_refused text file (reason_number x)
      (lent_refused (reading_refusals text file) _ room (reason_number x) (λ a. rows_room text file a room size) (sym (ap answer_of e) ∙ answer)))

  module _ (n : ℕ) (e : listed ≡ Ok n) where
    accepts : Accepted text file
    unfolding admit_call
    accepts = lent_given (reading_refusals text file) _ room n (sym (ap answer_of e) ∙ answer)

    pub prints_sized : 3 < length file
    prints_sized = let s = sized text file accepts in omega (arith, s.long, s.tables_low)

    pub prints_total : (size_at file 0).rows ≤ most_rows
    prints_total = total_few text file accepts

    is_count : n ≡ length (rows text file accepts)
    is_count =
        let a : Given n ≡ Given _ = sym (ap answer_of e) ∙ answer ∙ ap (λ (a : Lent ℕ). a.result) (admits text file accepts room size) in
        cc

    pub prints_few : n ≤ most_rows
    prints_few = omega (arith, is_count, rows_most text file accepts)

    module _ (after : List ℕ) (written : after ≡ (admit_call text file room).buffer) where
      holds_rows : after ≡ rows text file accepts ++ drop (length (rows text file accepts)) room
      holds_rows = written ∙ ap (λ (a : Lent ℕ). a.buffer) (admits text file accepts room size)

      taken : take n after ≡ rows text file accepts
      taken = ap (take n) holds_rows ∙ take_at (rows text file accepts) _ n (sym is_count)

      pub prints_short : All (λ row. row < 10000) (take n after)
      prints_short =
          let rs = rows text file accepts in
          subst (All (λ row. row < 10000)) (sym taken)
          (All-from_get_or (λ row. row < 10000) rs 0 (λ k h. omega (arith, rows_below file (true_at file (rule text file accepts)) k h, total_is text file accepts, total_few text file accepts)))

      pub prints_rows : (total : ℕ) → total ≡ (size_at file 0).rows → rows_text total (take n after) ≡ output text file
      prints_rows total t = ap₂ rows_text (t ∙ sym (total_is text file accepts)) taken ∙ output_given text file accepts
