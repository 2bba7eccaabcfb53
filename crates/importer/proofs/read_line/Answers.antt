use mathlib.Core.Path.{◌∙◌}
use Rattle.importer.proofs.Reading.{line_fails, line_failed, line_done}
use Rattle.importer.proofs.read_line.Goals as goal

pub returns-in_err-at : goal.returns-in_err-at
returns-in_err-at c =
    rw c.from_residual.ensures
    (line_failed _ _ _ _ _ _ _ _
    (line_fails c.loop-column.invariant c.loop-column-test.true _ c.field_at-field.ensures c.in_err-at.ensures)
    c.keep_cell.ensures.room (c.keep_cell.ensures.long ∙ c.loop-column.invariant.kept.long))

pub returns : goal.returns
returns c = line_done c.loop-column.invariant c.loop-column-test.false
