-- The bytes of all lines, added up line by line.
use mathlib.Core.Path.{◌≡◌}
use lib.ListN.{length}
use Rattle.exporter.specs.Code.{first_rows}
use Rattle.exporter.proofs.Lines.{Measured}
use Rattle.exporter.proofs.lines_length.Given as goal

abbrev pub invariant-loop-row : goal.invariant-loop-row
invariant-loop-row l = (length (first_rows l.file) ≡ l.at.rows) × Measured (first_rows l.file) l.row l.n
