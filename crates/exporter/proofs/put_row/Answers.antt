use Rattle.std.proofs.Common.{arith, length-set}
use Rattle.cells.specs.Code.{seen_cell}
use Rattle.exporter.proofs.Cells.{columns_in, row_long, cell_is}
use Rattle.exporter.proofs.Rows.{begun_first, begun_within, begun_room, begun_all}
use Rattle.exporter.proofs.put_row.Goals as goal

pub loop-column-init : goal.loop-column-init
loop-column-init c =
    let some = (columns_in _ _ c.requires.fact_1).0 in
    let long = row_long _ _ c.requires.fact_1 _ c.requires.fact_2 in
    let x = cell_is _ _ c.requires.fact_1 _ c.requires.fact_2 0 some c.cell-first.result c.cell-first.ensures in
    (long, begun_first _ _ _ _ _ (seen_cell c.cell-first.result) (omega arith) x c.requires.fact_3 c.put_field-next.ensures.written c.put_field-next.ensures.next)

pub bounds-out-next : goal.bounds-out-next
bounds-out-next c = begun_within c.loop-column.invariant.1

pub overflow_add-next : goal.overflow_add-next
overflow_add-next c = omega (arith, begun_within c.loop-column.invariant.1)

pub put_field-next-requires-in-loop-column : goal.put_field-next-requires-in-loop-column
put_field-next-requires-in-loop-column c =
    let x = cell_is _ _ c.requires.fact_1 _ c.requires.fact_2 c.loop-column.column (omega arith) c.cell-x.result c.cell-x.ensures in
    simp length-set (omega (arith, begun_room c.loop-column.invariant.1 _ (omega arith) x))

pub returns : goal.returns
returns c =
    let some = (columns_in _ _ c.requires.fact_1).0 in
    let x = cell_is _ _ c.requires.fact_1 _ c.requires.fact_2 0 some c.cell-first.result c.cell-first.ensures in
    let p = begun_all c.loop-column.invariant.1 _ (seen_cell c.cell-first.result) (omega arith) x (omega (arith, c.requires.fact_3)) c.put_field-next.ensures.written c.put_field-next.ensures.next in
    record { written = p.0; next = p.1 }
