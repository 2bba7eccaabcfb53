use mathlib.Core.Path.{◌≡◌}
use mathlib.Core.Bool.{true, false}
use native.Mathlib.Omega.{arith}
use borrow.Author.Tests.{eq-eqb, ne_eqb}
use Rattle.rule.specs.Tokens.{is_gap}
use Rattle.numerals.proofs.Runs.{passed_more, passed_stop, passed_all}
use Rattle.lexer.proofs.skip_gaps.Goals as goal
use Rattle.lexer.proofs.skip_gaps.Goals.{else-b-ne32-via-then-b-ne32+else-b-ne10, else-b-ne32-via-else-b-ne32}

pub returns-then-b-ne10 : goal.returns-then-b-ne10
returns-then-b-ne10 c =
    let b = c.byte-b.result in
    let gap : is_gap b ≡ false = rw (ne_eqb b 32 c.if-b-ne32.true, ne_eqb b 10 c.if-b-ne10.true) in
    passed_stop _ _ _ _ b c.loop-end.invariant c.loop-end-test.true c.byte-b.ensures.is gap

pub loop-end-preserved : goal.loop-end-preserved
loop-end-preserved c =
    let b = c.byte-b.result in
    let gap : is_gap b ≡ true =
    elim c.else-b-ne32.branch [ else-b-ne32-via-then-b-ne32+else-b-ne10 w ↦ rw (ne_eqb b 32 w.if-b-ne32.true, eq-eqb b 10 w.if-b-ne10.false) | else-b-ne32-via-else-b-ne32 w ↦ rw (eq-eqb b 32 w.if-b-ne32.false) ] in
    passed_more _ _ _ _ b c.loop-end.invariant c.loop-end-test.true c.byte-b.ensures.is gap

pub returns : goal.returns
returns c = omega (arith, passed_all _ _ _ _ c.loop-end.invariant (omega arith))
