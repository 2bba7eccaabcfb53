use Rattle.std.proofs.Common.{◌+◌, ◌-◌, ◌*◌}
use Rattle.runner.proofs.Running.{InnerPassed}
use Rattle.runner.proofs.Run.+running.Given as goal

abbrev pub decreases-run_entry : goal.decreases-run_entry
decreases-run_entry l = 4 * (l.e - l.s) + 2

abbrev pub decreases-run_inner : goal.decreases-run_inner
decreases-run_inner l = 4 * (l.e - l.s) + 1

abbrev pub decreases-run_pair : goal.decreases-run_pair
decreases-run_pair l = 4 * (l.e - l.s)

abbrev pub decreases-run_row : goal.decreases-run_row
decreases-run_row l = 4 * (l.e - l.s) + 3

abbrev pub decreases-run_rows : goal.decreases-run_rows
decreases-run_rows l = 4 * (l.e - l.s)

abbrev pub invariant-run_rows-loop-row : goal.invariant-run_rows-loop-row
invariant-run_rows-loop-row l = InnerPassed l.self l.w l.s l.e l.depth l.table-2 l.q l.v l.row
