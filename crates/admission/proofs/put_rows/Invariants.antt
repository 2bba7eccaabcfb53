-- A line for each row, one behind another.
use Rattle.std.proofs.Common.{◌+◌, ◌*◌, ◌≤◌, take}
use Rattle.admission.specs.Output.{row_lines}
use Rattle.admission.proofs.Writing.{Written}
use Rattle.admission.proofs.put_rows.Given as goal

abbrev pub invariant-loop-row : goal.invariant-loop-row
invariant-loop-row l = (l.at ≤ l.i + 5 * l.row-index) × Written l.initial.out l.i (row_lines (take l.row-index l.rows)) l.out l.at
