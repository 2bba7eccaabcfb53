-- What a window shows: where a table stands, that its cells lie within the file, the cell that is seen, and the cell of the table that the file holds.
use mathlib.Core.Path.{◌≡◌, refl, sym, ap, ◌∙◌}
use mathlib.Core.List.{List, []}
use Prim.Native.Nat.{ℕ, zero, suc, ◌+◌, ◌*◌, ◌<◌}
use native.Mathlib.Nat.{mul-le-mul_right, suc-mul}
use native.Mathlib.Omega.{arith}
use lib.ListN.{get_or}
use Rattle.tables.specs.Lists.{tabulate}
use Rattle.tables.specs.Bytes.{signed}
use Rattle.tables.specs.Tables.{Blank, Row, Table, table_count, size_at, cells_before, values_at, marks_at, cell_from, cell_at, table_from, tables_of, rows_of, cell_in}
use Rattle.cells.specs.Code.{Sized, Places, place_in, seen_cell}
use Rattle.cells.specs.declared.Place.{Place}
use Rattle.cells.specs.declared.Layout.{Layout}
use Rattle.tables.proofs.Tabulated.{tabulate_at}
use Rattle.tables.proofs.Numbering.{cells_within}
use Rattle.cells.proofs.Cells.{sized_is}
use Rattle.window.specs.Window.{cell_number, mark_at, bits_at, Inside, seen_of, shown, seen_at, place_of_table}
use Rattle.window.specs.Claims.{WindowClaim}

-- ---- the cell that is seen

seen_is : (mark raw : ℕ) → seen_cell (seen_of mark (signed raw)) ≡ cell_from mark raw
seen_is zero raw = refl
seen_is (suc zero) raw = refl
seen_is (suc (suc m)) raw = refl

pub seen_shown : (file : List ℕ) (at : Place) (row column : ℕ) → seen_cell (seen_at file at row column) ≡ shown file at row column
unfolding shown
seen_shown file at row column =
    let k = cell_number at.first at.columns row column in
    seen_is (mark_at file at.marks k) (bits_at file at.values k)

-- ---- the cells of a file

-- where rows of so many columns stand whose first cell is number k of the file
abbrev pub place_from : List ℕ → (first columns rows : ℕ) → Place
place_from file k columns rows = record { values = values_at file; marks = marks_at file; first = k; columns = columns; rows = rows }

pub shown_from : (file : List ℕ) (k columns rows row column : ℕ)
    → shown file (place_from file k columns rows) row column ≡ cell_at file (k + row * columns + column)
unfolding shown cell_at
shown_from file k columns rows row column =
    let e : k + (row * columns + column) ≡ k + row * columns + column = omega arith in
    ap (cell_at file) e

-- ---- the window on a table

-- by the layout of a file
pub place_is : (file : List ℕ) (layout : Layout) (j : ℕ) → Places file layout → j < table_count file → place_in layout (suc j) ≡ place_of_table file j
place_is file layout j places h = rw (places.values, places.marks, places.tables j h)

pub table_inside : (file : List ℕ) (j row column : ℕ) → Sized file → j < table_count file → row < (size_at file j).rows → column < (size_at file j).columns
    → Inside file (place_of_table file j) row column
table_inside file j row column sized h r c =
    let columns = (size_at file j).columns in
    let within = cells_within file j h in
    let m = mul-le-mul_right columns r in
    let z = suc-mul row columns in
    let long = sized.long in
    (r, (c, (omega arith, omega arith)))

pub table_shown : (file : List ℕ) (j row column : ℕ) → j < table_count file → row < (size_at file j).rows → column < (size_at file j).columns
    → shown file (place_of_table file j) row column ≡ cell_in (get_or (rows_of (tables_of file) (suc j)) row []) (suc column)
unfolding tables_of table_from
table_shown file j row column h r c =
    let s = size_at file j in
    let k = cells_before file j in
    let cells : ℕ → Row = λ r. tabulate s.columns (λ c. cell_at file (k + r * s.columns + c)) in
    shown_from file k s.columns s.rows row column
    ∙ sym
    (ap (λ (t : Table). cell_in (get_or t row []) (suc column)) (tabulate_at (table_count file) (λ j. table_from file (cells_before file j) (size_at file j)) j [] h)
    ∙ ap (λ (x : Row). cell_in x (suc column)) (tabulate_at s.rows cells row [] r)
    ∙ tabulate_at s.columns (λ c. cell_at file (k + row * s.columns + c)) column Blank c)

pub window_claim : WindowClaim
window_claim = record {
  made = place_is;
  inside = λ file j row column e. table_inside file j row column (sized_is file e);
  shows = table_shown;
  seen = seen_shown;
}
