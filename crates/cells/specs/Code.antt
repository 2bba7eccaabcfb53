-- What the functions of src/ promise one another, in the terms of the code: places in bytes and in arrays. No contract of a
-- public call cites this file.
use Rattle.std.specs.Prelude.{◌≡◌, List, ℕ, suc, ◌+◌, ◌<◌, ◌≤◌, length, get_or}
use Rattle.tables.specs.Tables.{most_tables, most_columns, most_rows, most_cells, Cell, cell_marked, table_count, size_at, cells_before, cell_count, values_at, marks_at}
use Rattle.cells.specs.declared.Seen.{Seen}
use Rattle.cells.specs.declared.Place.{Place}
use Rattle.cells.specs.declared.Extent.{Extent}
use Rattle.cells.specs.declared.Layout.{Layout}

-- ---- numbers

-- how many numbers 32 bits can tell apart
abbrev pub words32 : ℕ
words32 = 4294967296

-- ---- a tables file

-- one table's sizes
pub record SizeIn (file : List ℕ) (j : ℕ) : Type 0 where
  pub columns_low : 1 ≤ (size_at file j).columns
  pub columns_high : (size_at file j).columns ≤ most_columns
  pub rows_high : (size_at file j).rows ≤ most_rows

-- what is known of a file that is not refused with 1
pub record Sized (file : List ℕ) : Type 0 where
  pub tables_low : 1 ≤ table_count file
  pub tables_high : table_count file ≤ most_tables
  pub each : (j : ℕ) → j < table_count file → SizeIn file j
  pub cells_high : cell_count file ≤ most_cells
  pub long : length file ≡ marks_at file + cell_count file

-- where the cells of a table stand among those of its file; here j counts the tables from 0
abbrev pub extent_of : List ℕ → ℕ → Extent
extent_of file j = record { first = cells_before file j; columns = (size_at file j).columns; rows = (size_at file j).rows }

-- that of no table
abbrev pub no_extent : Extent
no_extent = record { first = 0; columns = 0; rows = 0 }

-- the layout of a file
pub record Places (file : List ℕ) (layout : Layout) : Type 0 where
  pub values : layout.values ≡ values_at file
  pub marks : layout.marks ≡ marks_at file
  pub tables : (j : ℕ) → j < table_count file → get_or layout.tables (suc j) no_extent ≡ extent_of file j

-- the numbers of an extent have 32 bits
pub record SmallExtent (extent : Extent) : Type 0 where
  pub first : extent.first < words32
  pub columns : extent.columns < words32
  pub rows : extent.rows < words32

-- those of a layout of so many tables have
pub record SmallLayout (layout : Layout) (count : ℕ) : Type 0 where
  pub values : layout.values < words32
  pub marks : layout.marks < words32
  pub cells : layout.cells < words32
  pub tables : (j : ℕ) → j < count → SmallExtent (get_or layout.tables (suc j) no_extent)

-- where table t stands, by such a layout
abbrev pub place_in : Layout → ℕ → Place
place_in layout t =
    let table = get_or layout.tables t no_extent in
    record { values = layout.values; marks = layout.marks; first = table.first; columns = table.columns; rows = table.rows }

-- the cell that was seen
abbrev pub seen_cell : Seen → Cell
seen_cell s = cell_marked s.mark s.number
