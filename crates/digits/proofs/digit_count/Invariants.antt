-- The powers of ten that the number reaches, and the first that it does not.
use Prim.Native.Nat.{◌+◌, ◌*◌, ◌-◌}
use Rattle.digits.proofs.Written.{Passed}
use Rattle.digits.proofs.digit_count.Given as goal

abbrev pub invariant-loop-power : goal.invariant-loop-power
invariant-loop-power l = Passed l.n l.count l.power

abbrev pub decreases-loop-power : goal.decreases-loop-power
decreases-loop-power l = 10 * l.n + 10 - l.power
