-- What the program prints is the same on two files that give the same refusals and the same admitted rows.
use mathlib.Core.Path.{◌≡◌, refl, ap, ap₂, ◌∙◌}
use mathlib.Core.List.{List, []}
use mathlib.Core.Option.{Option, none, some}
use Prim.Native.Nat.{ℕ}
use Rattle.tables.specs.Tables.{columns_of, row_count}
use Rattle.tables.specs.Refusals.{Refusal, first_applying}
use Rattle.rule.specs.Calls.{reading_refusals, rule_of, with_rule, true_rows}
use Rattle.tables.proofs.Blanks.{blank_cells_claim, declined_cells_claim}
use Rattle.translation.proofs.Blanks.{same_reading, same_rows, rows_alike, rule_asks}
use Rattle.admission.specs.Output.{output_for, rows_text, output}
use Rattle.admission.specs.Claims.{SamePrintedClaim}

module _ (text file other : List ℕ) (reading : reading_refusals text file ≡ reading_refusals text other) (rows : row_count file 1 ≡ row_count other 1) (columns : columns_of file ≡ columns_of other)
    (admitted : with_rule (rule_of text (columns_of other)) [] (true_rows file) ≡ with_rule (rule_of text (columns_of other)) [] (true_rows other)) where
  same_for : (o : Option ℕ) → output_for text file o ≡ output_for text other o
  same_for (some n) = refl
  same_for none = ap₂ rows_text rows (ap (λ (columns : List ℕ). with_rule (rule_of text columns) [] (true_rows file)) columns ∙ admitted)

  same_output : output text file ≡ output text other
  unfolding output
  same_output = ap (λ (rs : List Refusal). output_for text file (first_applying rs)) reading ∙ same_for (first_applying (reading_refusals text other))

pub same_printed_claim : SamePrintedClaim
same_printed_claim = record {
  blanks = λ text file other alike.
      let same = blank_cells_claim file other alike in
      same_output text file other (same_reading file other same.refusals same.columns same.rows text) (same.rows 1) same.columns
      (ap (with_rule (rule_of text (columns_of other)) []) (same_rows file other same));
  declined = λ text file other alike asks.
      let same = declined_cells_claim file other alike in
      same_output text file other (same_reading file other same.refusals same.columns same.rows text) (same.rows 1) same.columns
      (rows_alike file other same (rule_of text (columns_of other)) (rule_asks file other same text asks));
}
