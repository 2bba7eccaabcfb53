use mathlib.Core.Path.{◌≡◌, sym, ◌∙◌}
use mathlib.Core.Bool.{true, false}
use native.Mathlib.Omega.{arith}
use Prim.Native.Nat.{◌+◌}
use Rattle.std.proofs.Common.{rules}
use Rattle.std.proofs.Math.Option.{some}
use Rattle.card.specs.declared.Head.TheVariants.{LeafHead, PairHead}
use Rattle.decoder.specs.Code.{head_at}
use Rattle.runner.proofs.Running.{leaf_ready, leaf_answer, left_run, right_run, left_decides, right_decides, pair_run, rows_run, or_told, middle_here, right_here, test_ready, test_decides, test_passes, row_room, inner_run, row_stops, rows_end, row_answer, leaf_rows_ready, leaf_rows_answer, passed_more, differ, agree}
use Rattle.runner.proofs.Run.+running.Goals as goal

pub run_entry-run_leaf-requires : goal.run_entry-run_leaf-requires
run_entry-run_leaf-requires t c = leaf_ready c.requires (search rules)

pub run_entry-returns-in-Some-LeafHead : goal.run_entry-returns-in-Some-LeafHead
run_entry-returns-in-Some-LeafHead t c = λ h.
    let head : head_at c.args.self.now.entries.now c.args.s ≡ some (LeafHead c.in-Some-LeafHead.leaf) = search rules in
    leaf_answer h head (c.run_leaf.ensures (leaf_ready h head))

pub run_inner-run_pair-requires : goal.run_inner-run_pair-requires
run_inner-run_pair-requires t c = (omega arith, pair_run c.requires.whole false (search rules))

pub run_inner-run_pair-requires-in-Or : goal.run_inner-run_pair-requires-in-Or
run_inner-run_pair-requires-in-Or t c = (omega arith, pair_run c.requires.whole true (search rules))

pub run_inner-run_rows-requires : goal.run_inner-run_rows-requires
run_inner-run_rows-requires t c = (omega arith, rows_run c.requires.whole false (search rules))

pub run_inner-run_rows-requires-in-All : goal.run_inner-run_rows-requires-in-All
run_inner-run_rows-requires-in-All t c = (omega arith, rows_run c.requires.whole true (search rules))

pub run_pair-run_entry-left-requires : goal.run_pair-run_entry-left-requires
run_pair-run_entry-left-requires t c =
    (omega (arith, c.requires.middle_low, c.requires.middle_high), left_run c.requires.whole c.args.decides c.requires.head)

pub run_pair-returns-then-left-decides : goal.run_pair-returns-then-left-decides
run_pair-returns-then-left-decides t c = λ h.
    left_decides h c.args.decides c.requires.head (c.run_entry-left.ensures (left_run h c.args.decides c.requires.head)) c.if-left-decides.true

pub run_pair-run_entry-requires : goal.run_pair-run_entry-requires
run_pair-run_entry-requires t c =
    (omega (arith, c.requires.middle_low, c.requires.middle_high), right_run c.requires.whole c.args.decides c.requires.head)

pub run_pair-returns : goal.run_pair-returns
run_pair-returns t c = λ h.
    let q = c.args.decides in
    right_decides h q c.requires.head (c.run_entry-left.ensures (left_run h q c.requires.head)) c.if-left-decides.false
    (c.run_entry.ensures (right_run h q c.requires.head))

pub run_row-bounds-self-s-2 : goal.run_row-bounds-self-s-2
run_row-bounds-self-s-2 t c =
    let head : head_at c.args.self.now.entries.now c.args.s ≡ some (PairHead c.in-Some-PairHead.connective) = search rules in
    omega (arith, c.requires.room, middle_here c.requires head)

pub run_row-run_leaf-left-requires : goal.run_row-run_leaf-left-requires
run_row-run_leaf-left-requires t c =
    let head : head_at c.args.self.now.entries.now c.args.s ≡ some (PairHead c.in-Some-PairHead.connective) = search rules in
    let left : head_at c.args.self.now.entries.now (c.args.s + 1) ≡ some (LeafHead c.in-Some-LeafHead.leaf) = search rules in
    test_ready c.requires head left

pub run_row-returns-then-left-eq : goal.run_row-returns-then-left-eq
run_row-returns-then-left-eq t c = λ h.
    let head : head_at c.args.self.now.entries.now c.args.s ≡ some (PairHead c.in-Some-PairHead.connective) = search rules in
    let left : head_at c.args.self.now.entries.now (c.args.s + 1) ≡ some (LeafHead c.in-Some-LeafHead.leaf) = search rules in
    test_decides h head left c.run_leaf-left.ensures (c.eq.ensures ∙ or_told c.in-Some-PairHead.connective) c.if-left-eq.true

pub run_row-run_entry-requires : goal.run_row-run_entry-requires
run_row-run_entry-requires t c =
    let head : head_at c.args.self.now.entries.now c.args.s ≡ some (PairHead c.in-Some-PairHead.connective) = search rules in
    (omega (arith, middle_here c.requires head), right_here c.requires head)

pub run_row-returns : goal.run_row-returns
run_row-returns t c = λ h.
    let head : head_at c.args.self.now.entries.now c.args.s ≡ some (PairHead c.in-Some-PairHead.connective) = search rules in
    let left : head_at c.args.self.now.entries.now (c.args.s + 1) ≡ some (LeafHead c.in-Some-LeafHead.leaf) = search rules in
    test_passes h head left c.run_leaf-left.ensures (c.eq.ensures ∙ or_told c.in-Some-PairHead.connective) c.if-left-eq.false
    (c.run_entry.ensures (right_here h head))

pub run_rows-run_leaf_rows-requires : goal.run_rows-run_leaf_rows-requires
run_rows-run_leaf_rows-requires t c =
    let inside : head_at c.args.self.now.entries.now (c.args.s + 1) ≡ some (LeafHead c.in-Some-LeafHead.leaf) = search rules in
    leaf_rows_ready c.requires.whole c.args.q c.requires.head inside

pub run_rows-returns-in-Some-LeafHead : goal.run_rows-returns-in-Some-LeafHead
run_rows-returns-in-Some-LeafHead t c = λ h.
    let inside : head_at c.args.self.now.entries.now (c.args.s + 1) ≡ some (LeafHead c.in-Some-LeafHead.leaf) = search rules in
    leaf_rows_answer h c.args.q c.requires.head inside (c.run_leaf_rows.ensures (leaf_rows_ready h c.args.q c.requires.head inside))

pub run_rows-overflow_mul-v : goal.run_rows-overflow_mul-v
run_rows-overflow_mul-v t c =
    omega (arith, row_room c.table_place-table.ensures c.loop-row.invariant c.requires c.loop-row-test.true)

pub run_rows-overflow_add-v : goal.run_rows-overflow_add-v
run_rows-overflow_add-v t c =
    omega (arith, row_room c.table_place-table.ensures c.loop-row.invariant c.requires c.loop-row-test.true)

pub run_rows-run_row-says-requires : goal.run_rows-run_row-says-requires
run_rows-run_row-says-requires t c =
    (omega (arith, c.requires.inner), inner_run c.table_place-table.ensures c.loop-row.invariant c.requires c.loop-row-test.true)

pub run_rows-returns-then-says-q : goal.run_rows-returns-then-says-q
run_rows-returns-then-says-q t c = λ h.
    let rows = rows_run h c.args.q c.requires.head in
    row_answer h c.args.q c.requires.head
    (row_stops c.table_place-table.ensures c.loop-row.invariant rows c.loop-row-test.true
    (c.run_row-says.ensures (inner_run c.table_place-table.ensures c.loop-row.invariant rows c.loop-row-test.true)) (differ _ _ c.if-says-q.true))

pub run_rows-loop-row-preserved : goal.run_rows-loop-row-preserved
run_rows-loop-row-preserved t c =
    passed_more c.table_place-table.ensures c.loop-row.invariant
    (λ rows. sym (c.run_row-says.ensures (inner_run c.table_place-table.ensures c.loop-row.invariant rows c.loop-row-test.true)) ∙ agree _ _ c.if-says-q.false) _

pub run_rows-returns : goal.run_rows-returns
run_rows-returns t c = λ h.
    row_answer h c.args.q c.requires.head
    (rows_end c.table_place-table.ensures c.loop-row.invariant (rows_run h c.args.q c.requires.head) c.loop-row-test.false)
