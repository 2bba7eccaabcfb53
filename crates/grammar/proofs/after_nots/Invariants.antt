use Rattle.grammar.proofs.Tests.{Negated}
use Rattle.grammar.proofs.after_nots.Given as goal

abbrev pub invariant-loop-i : goal.invariant-loop-i
invariant-loop-i l = Negated l.s l.at l.i
