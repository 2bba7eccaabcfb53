use Rattle.std.proofs.Common.{arith, rules, refl, sym, ◌∙◌, ◌<◌, ℕ, length-set}
use Rattle.tables.specs.Tables.{table_count}
use Rattle.tables.proofs.Numbering.{cells_none}
use Rattle.cells.proofs.Cells.{cells_next, extents_more, extents_small, first_room}
use Rattle.cells.proofs.layout_of.Goals as goal

pub loop-j-init : goal.loop-j-init
loop-j-init c = record { long = refl; each = λ k h. absurd (omega arith); so_far = sym (cells_none c.args.file.now) }

pub overflow_add-first : goal.overflow_add-first
overflow_add-first c =
    let cells = c.requires.cells_high in
    omega (arith, first_room c.args.file.now _ _ _ _ _ c.byte-n.ensures.is c.loop-j-test.true c.loop-j.invariant.so_far c.table_rows-rows.ensures.is c.table_columns-columns.ensures.is)

pub loop-j-preserved : goal.loop-j-preserved
loop-j-preserved c =
    let file = c.args.file.now in
    let loop = c.loop-j in
    let high = c.requires.tables_high in record {
      long = length-set loop.tables _ _ ∙ loop.invariant.long;
      each = extents_more file loop.tables loop.j _ loop.invariant.each (omega (arith, loop.invariant.long)) (search rules);
      so_far = cells_next file _ _ _ _ _ c.byte-n.ensures.is c.loop-j-test.true loop.invariant.so_far c.table_rows-rows.ensures.is c.table_columns-columns.ensures.is;
    }

pub returns-clause-small : goal.returns-clause-small
returns-clause-small c =
    let file = c.args.file.now in
    let few = c.requires.cells_high in
    let low = c.byte-n.ensures.small in
    let cells = c.cell_count-cells.ensures.is in
    let each = λ (k : ℕ) (h : k < table_count file). c.loop-j.invariant.each k (search rules) in
    record { values = omega arith; marks = omega arith; cells = omega arith; tables = extents_small file _ c.requires each }
