-- A row of table 1: where its cells stand, and that it is the row of level 0.
use mathlib.Core.Path.{◌≡◌, refl, sym, ap, ◌∙◌}
use mathlib.Core.List.{List, []}
use Prim.Native.Nat.{ℕ, zero, suc, ◌+◌, ◌*◌, ◌≤◌, ◌<◌}
use native.Mathlib.Omega.{arith}
use lib.ListN.{length, get_or}
use Rattle.tables.specs.Tables.{most_rows, most_cells, Row, row_count, tables_of, rows_of}
use Rattle.tables.specs.Values.{most_levels, judged_levels, judged_row}
use Rattle.tables.proofs.Tabulated.{tabulate_at}
use Rattle.tables.proofs.Sizes.{count_at}
use Rattle.cells.specs.Code.{Sized, Places}
use Rattle.tables.proofs.Numbering.{cells_none}
use Rattle.cells.specs.declared.Extent.{Extent}
use Rattle.cells.specs.declared.Layout.{Layout}
use Rattle.values.specs.Code.{row_from, LevelAt, Levels, Readable}
use Rattle.values.proofs.Rows.{TableAt, table_at, row_at}
use Rattle.values.proofs.Ranging.{first_at, columns_at, rows_at}

module _ (file : List ℕ) (layout : Layout) (sized : Sized file) (places : Places file layout) where
  one : TableAt file 1 (first_at layout 1) (columns_at layout 1) (rows_at layout 1)
  one = table_at file layout places sized 1 (omega arith) sized.tables_low

  from_zero : first_at layout 1 ≡ 0
  from_zero = ap (λ (o : Extent). o.first) (places.tables 0 sized.tables_low) ∙ cells_none file

  pub one_rows : rows_at layout 1 ≡ row_count file 1
  one_rows = ap (λ (o : Extent). o.rows) (places.tables 0 sized.tables_low) ∙ sym (count_at file 0 sized.tables_low)

  pub few_rows : rows_at layout 1 ≤ most_rows
  few_rows = one.few

  module _ (row first : ℕ) (below : row < rows_at layout 1) (starts : first ≡ row * columns_at layout 1) where
    level : LevelAt file first 1 (get_or (rows_of (tables_of file) 1) row [])
    level =
        let e : first ≡ first_at layout 1 + row * columns_at layout 1 = omega (arith, from_zero) in
        let is : get_or (rows_of (tables_of file) 1) row [] ≡ row_from file first (columns_at layout 1) =
        ap (λ (t : List Row). get_or t row []) one.rows_are
        ∙ tabulate_at (rows_at layout 1) (λ r. row_from file (first_at layout 1 + r * columns_at layout 1) (columns_at layout 1)) row [] below
        ∙ ap (λ (k : ℕ). row_from file k (columns_at layout 1)) (sym e) in
        rw is (row_at file 1 (first_at layout 1) (columns_at layout 1) (rows_at layout 1) row first one below e)

    pub row_room : first + columns_at layout 1 ≤ most_cells
    row_room = omega (arith, level.within, one.columns_are, sized.cells_high)

    module _ (w : List ℕ) (size : length w ≡ most_levels) (stands : get_or w 0 0 ≡ first) where
      levels : Levels file w judged_levels (judged_row (tables_of file) row)
      levels = record { size = size; few = omega arith; rows_too = refl; at = at }
        where
          at : (l : ℕ) → l < length judged_levels → LevelAt file (get_or w l 0) (get_or judged_levels l 0) (get_or (judged_row (tables_of file) row) l [])
          at zero h = rw stands level
          at (suc l) h = absurd (omega arith)

      pub row_readable : Readable layout file w judged_levels (judged_row (tables_of file) row)
      row_readable = record { sized = sized; places = places; standing = levels }
