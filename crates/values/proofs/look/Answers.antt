-- Of a column, the cell that the window on it shows.
use Rattle.std.proofs.Common.{ap, ◌∙◌}
use Rattle.cells.specs.Code.{seen_cell}
use Rattle.values.proofs.Rows.{window_shows}
use Rattle.values.proofs.look.Goals as goal

pub returns-in-Column : goal.returns-in-Column
returns-in-Column c = rw (c.in-Column.is) (λ h. ap seen_cell c.cell.ensures ∙ window_shows h)
