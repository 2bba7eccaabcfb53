-- What proofs/ shows of these definitions.
use Rattle.std.specs.Prelude.{◌≡◌, true, List, [], ℕ, suc, ◌<◌, get_or}
use Rattle.tables.specs.Tables.{table_count, size_at, sizes_fit, tables_of, rows_of, cell_in}
use Rattle.cells.specs.Code.{Places, place_in, seen_cell}
use Rattle.cells.specs.declared.Place.{Place}
use Rattle.cells.specs.declared.Layout.{Layout}
use Rattle.window.specs.Window.{Inside, shown, seen_at, place_of_table}

-- the window on a table; the file numbers tables and columns from 1 and rows from 0, here all count from 0
pub record WindowClaim : Type 0 where
  -- it can be made: what `cells::table_place` gives of table j + 1, by the layout of a file, is where it stands
  pub made : (file : List ℕ) (layout : Layout) (j : ℕ) → Places file layout → j < table_count file → place_in layout (suc j) ≡ place_of_table file j
  -- each of the table's cells can be read through it, in a file that is not refused with 1
  pub inside : (file : List ℕ) (j row column : ℕ) → sizes_fit file ≡ true → j < table_count file → row < (size_at file j).rows → column < (size_at file j).columns
      → Inside file (place_of_table file j) row column
  -- it shows, in each row and column, the cell of the table that the file holds
  pub shows : (file : List ℕ) (j row column : ℕ) → j < table_count file → row < (size_at file j).rows → column < (size_at file j).columns
      → shown file (place_of_table file j) row column ≡ cell_in (get_or (rows_of (tables_of file) (suc j)) row []) (suc column)
  -- and what is seen there is that cell
  pub seen : (file : List ℕ) (at : Place) (row column : ℕ) → seen_cell (seen_at file at row column) ≡ shown file at row column
