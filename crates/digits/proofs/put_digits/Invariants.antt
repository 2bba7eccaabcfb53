-- Each turn writes the last digit of the rest before those that are written.
use Rattle.digits.proofs.Written.{WrittenTo}
use Rattle.digits.proofs.put_digits.Given as goal

abbrev pub invariant-loop-rest : goal.invariant-loop-rest
invariant-loop-rest l = WrittenTo l.initial.out l.i l.n l.out l.at l.rest

abbrev pub decreases-loop-rest : goal.decreases-loop-rest
decreases-loop-rest l = l.rest
