use native.Mathlib.Omega.{arith}
use Rattle.numerals.specs.Numerals.{most_digits}
use Rattle.numerals.proofs.Digits.{digits_few}
use Rattle.digits.proofs.Written.{power_some, passed_first, passed_next, passed_few, passed_all}
use Rattle.digits.proofs.digit_count.Goals as goal

pub loop-power-init : goal.loop-power-init
loop-power-init c = passed_first _

pub overflow_add-count : goal.overflow_add-count
overflow_add-count c =
    omega (arith, passed_few _ _ _ c.requires c.loop-power.invariant, digits_few most_digits c.args.n)

pub loop-power-smaller : goal.loop-power-smaller
loop-power-smaller c = let some = power_some c.loop-power.invariant.zeros in let is = c.loop-power.invariant.power_is in omega arith

pub loop-power-preserved : goal.loop-power-preserved
loop-power-preserved c = passed_next _ _ _ c.loop-power.invariant c.loop-power-test.true

pub returns : goal.returns
returns c = passed_all _ _ _ c.requires c.loop-power.invariant (omega arith)
