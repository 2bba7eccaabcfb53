use native.Mathlib.Omega.{arith}
use Rattle.runner.proofs.Running.{leaf_row_ready, leaf_row_says, row_room, row_stops, rows_end, passed_more, differ, agree}
use Rattle.runner.proofs.Run.run_leaf_rows.Goals as goal
use mathlib.Core.Path.{sym, ◌∙◌}

pub overflow_mul-v : goal.overflow_mul-v
overflow_mul-v c = omega (arith, row_room c.table_place-table.ensures c.loop-row.invariant c.requires c.loop-row-test.true)

pub overflow_add-v : goal.overflow_add-v
overflow_add-v c = omega (arith, row_room c.table_place-table.ensures c.loop-row.invariant c.requires c.loop-row-test.true)

pub run_leaf-says-requires : goal.run_leaf-says-requires
run_leaf-says-requires c = leaf_row_ready c.table_place-table.ensures c.loop-row.invariant c.requires c.loop-row-test.true

pub returns-then-says-q : goal.returns-then-says-q
returns-then-says-q c = λ h.
    row_stops c.table_place-table.ensures c.loop-row.invariant h c.loop-row-test.true
    (leaf_row_says c.table_place-table.ensures c.loop-row.invariant h c.loop-row-test.true c.run_leaf-says.ensures) (differ _ _ c.if-says-q.true)

pub loop-row-preserved : goal.loop-row-preserved
loop-row-preserved c =
    passed_more c.table_place-table.ensures c.loop-row.invariant
    (λ h. sym (leaf_row_says c.table_place-table.ensures c.loop-row.invariant h c.loop-row-test.true c.run_leaf-says.ensures) ∙ agree _ _ c.if-says-q.false) _

pub returns : goal.returns
returns c = λ h. rows_end c.table_place-table.ensures c.loop-row.invariant h c.loop-row-test.false
