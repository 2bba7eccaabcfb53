use Rattle.std.proofs.Common.{sym, ◌∙◌, arith, rules}
use native.Mathlib.Nat.{mul-le-mul}
use borrow.Author.Tests.{le-leb, lt-leb}
use Rattle.tables.specs.Tables.{most_cells}
use borrow.Author.Count.{below_more}
use Rattle.tables.proofs.Numbering.{cells_none}
use Rattle.cells.proofs.Cells.{count_one, sizes_no, sizes_one, sizes_last, cells_next}
use Rattle.cells.proofs.sizes_fit.Goals as goal
use Rattle.cells.proofs.sizes_fit.Goals.{then-not-contains-via-then-not-contains, then-not-contains-via-else-not-contains+then-file-n}

pub returns-then-is_empty : goal.returns-then-is_empty
returns-then-is_empty c = sizes_no c.args.file.now (λ h. let z = h.long in grind (arith, c.is_empty.ensures, c.if-is_empty.true))

pub returns-then-not-contains : goal.returns-then-not-contains
returns-then-not-contains c =
    let file = c.args.file.now in
    elim c.then-not-contains.branch [
      | then-not-contains-via-then-not-contains w ↦ count_one file c.byte-n.result c.byte-n.ensures.is (search rules)
      | then-not-contains-via-else-not-contains+then-file-n w ↦ sizes_no file (λ h. omega (arith, h.long))
    ]

pub loop-j-init : goal.loop-j-init
loop-j-init c = record { each = λ k h. absurd (omega arith); so_far = sym (cells_none c.args.file.now); few = omega arith }

pub returns-then-not-size_fits : goal.returns-then-not-size_fits
returns-then-not-size_fits c = sizes_one c.args.file.now c.loop-j.j (omega arith) (sym c.size_fits.ensures ∙ c.if-not-size_fits.true)

pub loop-j-preserved : goal.loop-j-preserved
loop-j-preserved c = record {
  each = below_more _ _ c.loop-j.invariant.each (sym c.size_fits.ensures ∙ c.if-not-size_fits.false);
  so_far = cells_next c.args.file.now _ _ _ _ _ c.byte-n.ensures.is c.loop-j-test.true c.loop-j.invariant.so_far c.table_rows.ensures.is c.table_columns.ensures.is;
  few = omega (arith, mul-le-mul {n₁ = c.table_rows.result} {m₁ = c.table_columns.result} {n₂ = 65536} {m₂ = 256} (omega arith) (omega arith));
}

pub returns-then-cells-le-MOST_CELLS : goal.returns-then-cells-le-MOST_CELLS
returns-then-cells-le-MOST_CELLS c =
    let loop = c.loop-j in
    rw (le-leb loop.cells most_cells c.if-cells-le-MOST_CELLS.true) at
    (sizes_last c.args.file.now c.byte-n.result loop.j loop.cells c.byte-n.ensures.is (search rules) loop.auto.j-end c.loop-j-test.false loop.invariant.each loop.invariant.so_far)

pub returns-else-cells-le-MOST_CELLS : goal.returns-else-cells-le-MOST_CELLS
returns-else-cells-le-MOST_CELLS c =
    let loop = c.loop-j in
    rw (lt-leb loop.cells most_cells c.if-cells-le-MOST_CELLS.false)
    (rw (lt-leb loop.cells most_cells c.if-cells-le-MOST_CELLS.false) at
    (sizes_last c.args.file.now c.byte-n.result loop.j loop.cells c.byte-n.ensures.is (search rules) loop.auto.j-end c.loop-j-test.false loop.invariant.each loop.invariant.so_far))
