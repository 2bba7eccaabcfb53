use native.Mathlib.Omega.{arith}
use lib.ListN.{length-set}
use Rattle.numerals.proofs.Digits.{digits_some}
use Rattle.digits.proofs.Written.{written_none, at_within, place_more, written_more, written_all}
use Rattle.digits.proofs.put_digits.Goals as goal

pub overflow_sub-at : goal.overflow_sub-at
overflow_sub-at c = omega (arith, digits_some 9 c.args.n)

pub loop-rest-init : goal.loop-rest-init
loop-rest-init c = written_none _ _ _ _ (omega (arith, digits_some 9 c.args.n))

pub bounds-out-at : goal.bounds-out-at
bounds-out-at c =
    let within = at_within _ _ _ _ _ _ c.loop-rest.invariant c.requires.fact_2 in
    omega (arith, c.loop-rest.invariant.size)

pub overflow_sub-at-in-loop-rest : goal.overflow_sub-at-in-loop-rest
overflow_sub-at-in-loop-rest c =
    place_more _ _ _ _ _ _ c.loop-rest.invariant c.requires.fact_2 c.loop-rest-test.true c.requires.fact_1

pub loop-rest-preserved : goal.loop-rest-preserved
loop-rest-preserved c =
    let more = place_more _ _ _ _ _ _ c.loop-rest.invariant c.requires.fact_2 c.loop-rest-test.true c.requires.fact_1 in
    written_more _ _ _ _ _ _ c.loop-rest.invariant c.requires.fact_2 c.loop-rest-test.true c.requires.fact_1 _ (omega arith)

pub bounds-out-at-2 : goal.bounds-out-at-2
bounds-out-at-2 c =
    let within = at_within _ _ _ _ _ _ c.loop-rest.invariant c.requires.fact_2 in
    omega (arith, c.loop-rest.invariant.size)

pub shape_of-out : goal.shape_of-out
shape_of-out c = simp length-set c.loop-rest.invariant.size

pub returns : goal.returns
returns c = record { written = written_all _ _ _ _ _ _ c.loop-rest.invariant c.requires.fact_2 (omega arith); next = omega arith }
