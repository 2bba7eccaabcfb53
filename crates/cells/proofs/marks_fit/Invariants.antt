use Rattle.std.proofs.Common.{◌≡◌}
use Rattle.tables.specs.Tables.{highest_mark}
use Rattle.cells.proofs.Cells.{marks_to}
use lib.Dec.{leb}
use Rattle.cells.proofs.marks_fit.Given as goal

abbrev pub invariant-loop-mark : goal.invariant-loop-mark
invariant-loop-mark l = leb l.highest highest_mark ≡ marks_to l.file l.mark-index
