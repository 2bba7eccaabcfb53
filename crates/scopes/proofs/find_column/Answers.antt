-- The nearest binding of the letter tells the level, and the number has to be one of its table's columns.
use Rattle.std.proofs.Math.Option.{none, some}
use Rattle.std.proofs.lemmas.Int.{to_z-of_z}
use Rattle.scopes.proofs.Looking.{letter_unknown, column_as}
use Rattle.scopes.proofs.find_column.Goals as goal

pub returns-in_err-level : goal.returns-in_err-level
returns-in_err-level c = rw c.from_residual.ensures (letter_unknown _ _ _ _ c.in_err-level.ensures)

pub returns-in_err-column : goal.returns-in_err-column
returns-in_err-column c =
    rw c.from_residual-in_err-column.ensures
    (column_as _ _ _ _ c.requires.fact_2 c.in_ok-level.level c.in_ok-level.ensures c.table_columns-most.ensures.is (to_z-of_z _ _ c.ranges.number) none c.in_err-column.ensures.is)

pub returns : goal.returns
returns c =
    column_as _ _ _ _ c.requires.fact_2 c.in_ok-level.level c.in_ok-level.ensures c.table_columns-most.ensures.is (to_z-of_z _ _ c.ranges.number) (some c.in_ok-column.column) c.in_ok-column.ensures.is
