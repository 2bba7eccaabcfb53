use Rattle.runner.proofs.Running.{LeafPassed}
use Rattle.runner.proofs.Run.run_leaf_rows.Given as goal

abbrev pub invariant-loop-row : goal.invariant-loop-row
invariant-loop-row l = LeafPassed l.self l.w l.leaf l.depth l.table-2 l.q l.v l.row
