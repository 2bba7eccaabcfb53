-- All lines, one behind another.
use mathlib.Core.Path.{◌≡◌}
use lib.ListN.{length}
use Rattle.exporter.specs.Code.{first_rows}
use Rattle.exporter.proofs.Lines.{LinesPut}
use Rattle.exporter.proofs.put_lines.Given as goal

abbrev pub invariant-loop-row : goal.invariant-loop-row
invariant-loop-row l = (length (first_rows l.file) ≡ l.at.rows) × LinesPut (first_rows l.file) l.initial.out l.row l.out l.next
