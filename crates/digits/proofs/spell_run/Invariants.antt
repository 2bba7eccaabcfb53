use Rattle.digits.proofs.Spells.{SpelledTo}
use Rattle.digits.proofs.spell_run.Given as goal

abbrev pub invariant-loop-end : goal.invariant-loop-end
invariant-loop-end l = SpelledTo l.text l.i l.low l.high l.base l.zero l.most l.number l.end
