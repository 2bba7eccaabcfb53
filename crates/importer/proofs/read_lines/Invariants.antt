-- The lines, one after another.
use Prim.Native.Nat.{◌-◌}
use lib.ListN.{length}
use Rattle.importer.proofs.Lines.{TableSoFar}
use Rattle.importer.proofs.read_lines.Given as goal

abbrev pub invariant-loop-at : goal.invariant-loop-at
invariant-loop-at l = TableSoFar l.text l.columns l.initial.marks l.values l.marks l.at l.rows

abbrev pub decreases-loop-at : goal.decreases-loop-at
decreases-loop-at l = length l.text - l.at
