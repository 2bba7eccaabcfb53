-- A line, field by field: the first field, and then each other one behind its comma.
use mathlib.Core.Path.{◌≡◌}
use lib.ListN.{length}
use Rattle.exporter.specs.Code.{first_row}
use Rattle.exporter.proofs.Rows.{Begun}
use Rattle.exporter.proofs.put_row.Given as goal

abbrev pub invariant-loop-column : goal.invariant-loop-column
invariant-loop-column l =
    (length (first_row l.file l.row) ≡ l.at.columns) × Begun (first_row l.file l.row) l.i l.initial.out l.initial.next l.column l.out l.next
