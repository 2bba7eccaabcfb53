use Rattle.std.proofs.Common.{rules, ◌≡◌, false, true, arith, length}
use Rattle.tables.specs.Bytes.{between}
use Rattle.numerals.proofs.Runs.{passed_stop, passed_all}
use Rattle.digits.proofs.Spells.{spelled_past, room, spelled_more, run_found}
use Rattle.digits.proofs.spell_run.Goals as goal
use Rattle.digits.proofs.spell_run.Goals.{then-end-i, else-end-i}

pub returns-then-not-contains : goal.returns-then-not-contains
returns-then-not-contains c =
    let out : between c.args.low c.args.high c.byte-b.result ≡ false = search rules in
    run_found _ _ _ _ _ _ _ _ _ c.requires.fact_1 c.loop-end.invariant
    (passed_stop _ _ _ _ c.byte-b.result c.loop-end.invariant.passed c.loop-end-test.true c.byte-b.ensures.is out)

pub overflow_mul-number : goal.overflow_mul-number
overflow_mul-number c =
    let in_run : between c.args.low c.args.high c.byte-b.result ≡ true = search rules in
    omega (arith, room _ _ _ _ _ _ _ _ _ _ c.requires.fact_2 c.loop-end.invariant c.loop-end-test.true c.byte-b.ensures.is in_run c.if-end-i.true)

pub overflow_add-number : goal.overflow_add-number
overflow_add-number c =
    let in_run : between c.args.low c.args.high c.byte-b.result ≡ true = search rules in
    omega (arith, room _ _ _ _ _ _ _ _ _ _ c.requires.fact_2 c.loop-end.invariant c.loop-end-test.true c.byte-b.ensures.is in_run c.if-end-i.true)

pub loop-end-preserved : goal.loop-end-preserved
loop-end-preserved c =
    let in_run : between c.args.low c.args.high c.byte-b.result ≡ true = search rules in
    elim c.if-end-i.branch [
      | then-end-i w ↦ rw w.number-is (spelled_more _ _ _ _ _ _ _ _ _ _ c.requires.fact_2 c.loop-end.invariant c.loop-end-test.true c.byte-b.ensures.is in_run w.if-end-i.true)
      | else-end-i w ↦ rw w.number-is (spelled_past _ _ _ _ _ _ _ _ _ _ c.requires.fact_2 c.loop-end.invariant c.loop-end-test.true c.byte-b.ensures.is in_run w.if-end-i.false)
    ]

pub returns : goal.returns
returns c =
    let all : length c.args.text.now ≡ c.loop-end.end = omega arith in
    rw all (run_found _ _ _ _ _ _ _ _ _ c.requires.fact_1 c.loop-end.invariant (passed_all _ _ _ _ c.loop-end.invariant.passed (omega arith)))
