-- The rows of tables by the numbers of their first cells: where a table's rows stand, and what the levels see of them.
use mathlib.Core.Path.{◌≡◌, sym, ap, ap₂, subst, ◌∙◌}
use mathlib.Core.List.{List, [], ◌∷◌, ◌++◌}
use mathlib.Core.Logic.{◌⊎◌, inl, inr}
use Prim.Native.Nat.{ℕ, zero, suc, ◌+◌, ◌-◌, ◌*◌, ◌<◌, ◌≤◌}
use native.Mathlib.Nat.{eq-or-lt_of_le, mul-le-mul_right, suc-mul}
use native.Mathlib.Omega.{arith}
use lib.Dec.{ltb, ltb→lt}
use lib.ListN.{length, get_or, set, length-set, length-append, get_or-append}
use lib.Seq.{get_or-set_same, get_or-set_other, get_or_at}
use Rattle.tables.specs.Lists.{tabulate, numbered}
use Rattle.tables.specs.Bytes.{between}
use Rattle.tables.specs.Tables.{most_rows, Blank, Row, table_count, size_at, columns_of, cells_before, cell_count, values_at, marks_at, cell_at, table_from, tables_of, rows_of, cell_in}
use Rattle.tables.specs.Values.{most_levels, Env, ◌▸◌, cell_of}
use Rattle.tables.specs.declared.Value.TheVariants.{Column}
use Rattle.cells.specs.Code.{Sized, no_extent, Places, seen_cell}
use Rattle.cells.specs.declared.Place.{Place}
use Rattle.cells.specs.declared.Extent.{Extent}
use Rattle.cells.specs.declared.Layout.{Layout}
use Rattle.window.specs.Window.{shown, seen_at}
use Rattle.tables.proofs.Tests.{both, bounds}
use Rattle.tables.proofs.Tabulated.{tabulate_at}
use Rattle.tables.proofs.Sizes.{column_at}
use Rattle.tables.proofs.Numbering.{cells_within}
use Rattle.window.proofs.Shown.{seen_shown, shown_from}
use Rattle.values.specs.Code.{row_from, LevelAt, Levels, ValueReady}

-- ---- where a table's rows stand

-- the rows of table t: how many, with how many columns, from which cell on
pub record TableAt (file : List ℕ) (t first columns rows : ℕ) : Type 0 where
  pub columns_are : columns ≡ numbered (columns_of file) t 0
  pub rows_are : rows_of (tables_of file) t ≡ tabulate rows (λ r. row_from file (first + r * columns) columns)
  pub few : rows ≤ most_rows
  pub within : first + rows * columns ≤ cell_count file

module _ (file : List ℕ) where
  rows_at : (j : ℕ) → j < table_count file → get_or (tables_of file) j []
      ≡ tabulate (size_at file j).rows (λ r. row_from file (cells_before file j + r * (size_at file j).columns) (size_at file j).columns)
  unfolding tables_of table_from row_from
  rows_at j h = tabulate_at (table_count file) (λ j. table_from file (cells_before file j) (size_at file j)) j [] h

  pub table_at : (layout : Layout) → Places file layout → Sized file → (t : ℕ) → 1 ≤ t → t ≤ table_count file → let o = get_or layout.tables t no_extent in TableAt file t o.first o.columns o.rows
  table_at layout places sized zero low high = absurd (omega arith)
  table_at layout places sized (suc j) low high =
      subst (λ (o : Extent). TableAt file (suc j) o.first o.columns o.rows) (sym (places.tables j high))
      (record {
        columns_are = sym (column_at file j high);
        rows_are = rows_at j high;
        few = (sized.each j high).rows_high;
        within = cells_within file j high;
      })

-- ---- levels

-- a row of a table
pub row_at : (file : List ℕ) (t first columns rows r k : ℕ) → TableAt file t first columns rows → r < rows → k ≡ first + r * columns
    → LevelAt file k t (row_from file k columns)
row_at file t first columns rows r k a h e =
    let c = a.columns_are in
    let w = a.within in
    let m = mul-le-mul_right columns h in
    let z = suc-mul r columns in
    record { row_is = ap (row_from file k) c; within = omega arith }

-- one level deeper; v has the same rows as w below that
pub levels_more : (file w levels : List ℕ) (env : Env) (v : List ℕ) (depth k t : ℕ) (row : Row) → Levels file w levels env → depth ≡ length levels → depth < most_levels
    → length v ≡ most_levels → ((l : ℕ) → l < depth → get_or v l 0 ≡ get_or w l 0) → LevelAt file k t row → Levels file (set v depth k) (levels ++ (t ∷ [])) (env ▸ row)
levels_more file w levels env v depth k t row h deep few long same new =
    let rt = h.rows_too in
    record {
      size = length-set v depth k ∙ long;
      few = simp length-append (omega arith);
      rows_too = simp length-append (omega arith);
      at = λ l m. each l (eq-or-lt_of_le {n = l} {m = depth} (let z = simp length-append at m in omega arith));
    }
  where
    each : (l : ℕ) → (l ≡ depth) ⊎ (l < depth) → LevelAt file (get_or (set v depth k) l 0) (get_or (levels ++ (t ∷ [])) l 0) (get_or (env ▸ row) l [])
    each l (inl e) =
        let rt = h.rows_too in
        rw (
          e,
          get_or-set_same v depth k 0 (omega arith),
          get_or_at levels t [] 0 depth (sym deep),
          get_or_at env row [] [] depth (omega arith),
        ) new
    each l (inr m) =
        let rt = h.rows_too in
        rw (
          get_or-set_other v depth l k 0 (λ e. omega arith),
          same l m,
          get_or-append levels (t ∷ []) 0 l (omega arith),
          get_or-append env (row ∷ []) [] l (omega arith),
        ) (h.at l (omega arith))

-- ---- values

-- where the cell stands that a column names: cell k of all
pub record CellIn (file : List ℕ) (values marks k : ℕ) : Type 0 where
  pub sized : Sized file
  pub values_at_lem : values ≡ values_at file
  pub marks_at_lem : marks ≡ marks_at file
  pub within : k < cell_count file

-- a cell of a row
row_cell : (file : List ℕ) (k t : ℕ) (row : Row) (n : ℕ) → LevelAt file k t row → 1 ≤ n → n ≤ numbered (columns_of file) t 0
    → cell_in row n ≡ cell_at file (k + (n - 1))
unfolding row_from
row_cell file k t row zero h low high = absurd (omega arith)
row_cell file k t row (suc c) h low high =
    let z : suc c - 1 ≡ c = omega arith in
    rw (h.row_is, z) (tabulate_at (numbered (columns_of file) t 0) (λ c. cell_at file (k + c)) c Blank high)

-- the number of the cell that a column names, and its place, with no other cell
abbrev cell_numbered : (w : List ℕ) (level column : ℕ) → ℕ
cell_numbered w level column = get_or w level 0 + (column - 1)

abbrev cell_place : (layout : Layout) (w : List ℕ) (level column : ℕ) → Place
cell_place layout w level column = record { values = layout.values; marks = layout.marks; first = cell_numbered w level column; columns = 1; rows = 1 }

module _ {layout : Layout} {file w : List ℕ} {level column : ℕ} (h : ValueReady layout file w (Column level column)) where
  abbrev columns : ℕ
  columns = numbered (columns_of file) (get_or h.levels level 0) 0

  column_there : (level < length h.levels) × ((1 ≤ column) × (column ≤ columns))
  column_there =
      let (p, q) = both (ltb level (length h.levels)) (between 1 columns column) h.fits in
      (ltb→lt level (length h.levels) p, bounds 1 columns column q)

  pub cell_there : CellIn file layout.values layout.marks (cell_numbered w level column)
  cell_there =
      let c = column_there in
      let x = (h.readable.standing.at level c.0).within in
      record {
        sized = h.readable.sized;
        values_at_lem = h.readable.places.values;
        marks_at_lem = h.readable.places.marks;
        within = omega arith;
      }

  -- the window on the cell alone shows it
  pub window_shows : seen_cell (seen_at file (cell_place layout w level column) 0 0) ≡ cell_of h.env (Column level column)
  window_shows =
      let k = cell_numbered w level column in
      let c = column_there in
      let z : k + 0 * 1 + 0 ≡ k = omega arith in
      seen_shown file (cell_place layout w level column) 0 0
      ∙ ap₂ (λ (x m : ℕ). shown file (record { values = x; marks = m; first = k; columns = 1; rows = 1 }) 0 0) cell_there.values_at_lem cell_there.marks_at_lem
      ∙ shown_from file k 1 1 0 0
      ∙ ap (cell_at file) z
      ∙ sym (row_cell file _ _ _ column (h.readable.standing.at level c.0) c.1.0 c.1.1)
