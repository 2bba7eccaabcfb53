use Rattle.std.proofs.Common.{sym, arith}
use Rattle.parts.proofs.Counting.{nothing_counted, one_counted, end_bounds, inner_countable, twice_counted, all_counted}
use Rattle.parts.proofs.+count_entries.Goals as goal

pub loop-at-init : goal.loop-at-init
loop-at-init t c = (omega arith, omega (arith, c.requires.count), omega arith, λ h. nothing_counted _ _ h.rule _ h.stands h.count)

pub count_entries-inner-requires : goal.count_entries-inner-requires
count_entries-inner-requires t c =
    let k = c.loop-at.invariant.3 c.requires in
    let z = end_bounds _ _ k c.loop-at-test.true _ (sym c.if-asks_unknown.ensures) in
    (omega arith, inner_countable _ _ k c.loop-at-test.true _ (sym c.if-asks_unknown.ensures) c.requires.few)

pub loop-at-smaller-then-asks_unknown : goal.loop-at-smaller-then-asks_unknown
loop-at-smaller-then-asks_unknown t c =
    let k = c.loop-at.invariant.3 c.requires in
    let z = end_bounds _ _ k c.loop-at-test.true _ (sym c.if-asks_unknown.ensures) in
    omega arith

pub loop-at-preserved-then-asks_unknown : goal.loop-at-preserved-then-asks_unknown
loop-at-preserved-then-asks_unknown t c =
    let z = end_bounds _ _ (c.loop-at.invariant.3 c.requires) c.loop-at-test.true _ (sym c.if-asks_unknown.ensures) in (
      omega arith,
      omega arith,
      omega (arith, c.used_twice-entries.ensures.small),
      λ h.
          twice_counted _ _ (c.loop-at.invariant.3 h) c.loop-at-test.true _ (sym c.if-asks_unknown.ensures) h.few _ _ c.count_entries-inner.ensures
          c.used_twice-entries.ensures.capped,
    )

pub loop-at-preserved : goal.loop-at-preserved
loop-at-preserved t c = (
  omega arith,
  omega arith,
  omega (arith, c.own_entries-entries.ensures.small),
  λ h. one_counted _ _ (c.loop-at.invariant.3 h) c.loop-at-test.true _ (sym c.if-asks_unknown.ensures) _ c.own_entries-entries.ensures.is,
)

pub returns : goal.returns
returns t c = λ h. all_counted _ _ (c.loop-at.invariant.3 h) (omega (arith, c.loop-at-test.false))
