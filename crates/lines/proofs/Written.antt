-- How long the lines of a table are: field by field, at most 12 bytes for each cell; one field and one line more; and what EXPORT does with a valid file.
use mathlib.Core.Path.{◌≡◌, refl, sym, ap, ap₂, ◌∙◌}
use mathlib.Core.Bool.{Bool, true, false, not, ◌&&◌}
use mathlib.Core.List.{List, [], ◌∷◌, ◌++◌, map, append_assoc, append-nil, map-append, flat_map}
use mathlib.Core.Logic.{◌↔◌}
use mathlib.Core.Option.{none}
use Prim.Native.Nat.{ℕ, zero, suc, ◌+◌, ◌*◌, ◌<◌, ◌≤◌, suc-le-suc}
use native.Mathlib.Nat.{suc-mul}
use native.Mathlib.Omega.{arith}
use borrow.Author.Tests.{leb-true, ltb-true, ltb-false, not-false}
use lib.Dec.{leb, eqb, ltb}
use lib.IntN.{pos, negsuc}
use lib.ListN.{length, get_or, take, drop, length-append, length-map, take-append-drop}
use lib.Seq.{length-take-le, take-suc}
use Rattle.tables.specs.Lists.{tabulate, all, total}
use Rattle.tables.specs.Bytes.{between}
use Rattle.tables.specs.Tables.{most_tables, most_columns, most_rows, most_cells, Cell, Blank, Declined, Present, Row, Table, table_count, size_at, sizes, cells_before, cell_count, marks_at, cell_at, size_fits, sizes_fit, table_from, tables_of, rows_of}
use Rattle.tables.specs.Refusals.{Refused, Lent, first_applying, filled_with, tables_refusals}
use Rattle.tables.proofs.Numbering.{cells_within}
use Rattle.tables.proofs.Refusals.{none_first, lend_short, lend_long}
use Rattle.tables.proofs.Tabulated.{tabulate_length, tabulate_at, all_each, and_parts}
use Rattle.tables.proofs.Tests.{bounds, is_so, is_true}
use Rattle.numerals.specs.Numerals.{most_digits}
use Rattle.numerals.proofs.Digits.{digits_few}
use Rattle.files.proofs.Pieces.{pieces_append}
use Rattle.lines.specs.Lines.{comma, line_feed, joined, field_text, line_text, lines_text}
use Rattle.lines.specs.Calls.{exported_lines, export_call}
use Rattle.lines.specs.Claims.{field_room, line_room, most_lines, Valid}

-- ---- a field

-- a minus and ten digits at most
pub field_short : (x : Cell) → length (field_text x) ≤ 11
unfolding field_text
field_short Blank = omega arith
field_short Declined = omega arith
field_short (Present (pos n)) = omega (arith, digits_few most_digits n)
field_short (Present (negsuc n)) = omega (arith, digits_few most_digits (suc n))

-- ---- a line

-- the fields of a row, with commas between them
abbrev pub fields_text : Row → List ℕ
fields_text row = joined comma (map field_text row)

-- one piece more
joined_more : (at : ℕ) (pieces : List (List ℕ)) (piece : List ℕ) → 1 ≤ length pieces → joined at (pieces ++ (piece ∷ [])) ≡ joined at pieces ++ (at ∷ piece)
unfolding joined
joined_more at [] piece h = absurd (omega arith)
joined_more at (p ∷ []) piece h = refl
joined_more at (p ∷ q ∷ pieces) piece h =
    ap (λ (l : List ℕ). p ++ (at ∷ l)) (joined_more at (q ∷ pieces) piece (omega arith)) ∙ sym (append_assoc p (at ∷ joined at (q ∷ pieces)) (at ∷ piece))

-- the first field, and one field more
pub fields_first : (row : Row) → 1 ≤ length row → fields_text (take 1 row) ≡ field_text (get_or row 0 Blank)
unfolding joined
fields_first [] h = absurd (omega arith)
fields_first (x ∷ row) h = refl

pub fields_next : (row : Row) (k : ℕ) → 1 ≤ k → k < length row
    → fields_text (take (suc k) row) ≡ fields_text (take k row) ++ (comma ∷ field_text (get_or row k Blank))
fields_next row k l h =
    ap fields_text (take-suc row k Blank h)
    ∙ ap (joined comma) (map-append field_text (take k row) (get_or row k Blank ∷ []))
    ∙ joined_more comma (map field_text (take k row)) (field_text (get_or row k Blank))
    (omega (arith, length-map (take k row) field_text, length-take-le k row (omega arith)))

-- a comma or the LF for each field
fields_long : (x : Cell) (row : Row) → 1 + length (fields_text (x ∷ row)) ≡ line_room (x ∷ row)
unfolding joined
fields_long x [] = omega arith
fields_long x (y ∷ row) = omega (arith, length-append (field_text x) (comma ∷ fields_text (y ∷ row)), fields_long y row)

pub line_long : (row : Row) → 1 ≤ length row → length (line_text row) ≡ line_room row
unfolding line_text
line_long [] h = absurd (omega arith)
line_long (x ∷ row) h = omega (arith, length-append (fields_text (x ∷ row)) (line_feed ∷ []), fields_long x row)

-- at most 12 bytes for each
room_few : (row : Row) → line_room row ≤ 12 * length row
room_few [] = omega arith
room_few (x ∷ row) = omega (arith, field_short x, room_few row)

-- the first fields take no more than all of them
pub room_front : (k : ℕ) (row : Row) → line_room (take k row) ≤ line_room row
room_front zero row = omega arith
room_front (suc k) [] = omega arith
room_front (suc k) (x ∷ row) = omega (arith, room_front k row)

-- and one field more
pub room_next : (row : Row) (k : ℕ) → k < length row → line_room (take (suc k) row) ≡ line_room (take k row) + field_room (get_or row k Blank)
room_next [] k h = absurd (omega arith)
room_next (x ∷ row) zero h = omega arith
room_next (x ∷ row) (suc k) h = omega (arith, room_next row k (omega arith))

-- ---- lines

pub lines_next : (rows : Table) (k : ℕ) → k < length rows → lines_text (take (suc k) rows) ≡ lines_text (take k rows) ++ line_text (get_or rows k [])
unfolding lines_text flat_map
lines_next rows k h =
    ap lines_text (take-suc rows k [] h)
    ∙ pieces_append line_text (take k rows) (get_or rows k [] ∷ [])
    ∙ ap (λ (l : List ℕ). lines_text (take k rows) ++ l) (append-nil (line_text (get_or rows k [])))

pub lines_front : (k : ℕ) (rows : Table) → length (lines_text (take k rows)) ≤ length (lines_text rows)
unfolding lines_text
lines_front k rows =
    let whole = ap lines_text (sym (take-append-drop k rows)) ∙ pieces_append line_text (take k rows) (drop k rows) in
    omega (arith, ap length whole, length-append (lines_text (take k rows)) (lines_text (drop k rows)))

-- rows each of which has a field
pub lines_long : (rows : Table) → ((k : ℕ) → k < length rows → 1 ≤ length (get_or rows k [])) → length (lines_text rows) ≡ total (map line_room rows)
unfolding lines_text flat_map
lines_long [] each = refl
lines_long (row ∷ rows) each =
    length-append (line_text row) (lines_text rows)
    ∙ ap₂ ◌+◌ (line_long row (each 0 (omega arith))) (lines_long rows (λ k h. each (suc k) (suc-le-suc h)))

-- at most 12 bytes for each cell, in rows of so many fields
rooms_few : (w : ℕ) (rows : Table) → ((k : ℕ) → k < length rows → length (get_or rows k []) ≡ w) → total (map line_room rows) ≤ 12 * (length rows * w)
rooms_few w [] each = omega arith
rooms_few w (row ∷ rows) each =
    omega (arith, room_few row, each 0 (omega arith), rooms_few w rows (λ k h. each (suc k) (suc-le-suc h)), suc-mul (length rows) w)

-- ---- table 1 of a file that is not refused with 1

module _ (file : List ℕ) (fits : sizes_fit file ≡ true) where
  record Table1 : Type 0 where
    there : 0 < table_count file
    columns_some : 1 ≤ (size_at file 0).columns
    cells_few : (size_at file 0).rows * (size_at file 0).columns ≤ most_cells

  table_1 : Table1
  unfolding sizes_fit sizes
  table_1 =
      let n = table_count file in
      let every = all size_fits (tabulate n (size_at file)) in
      let few = leb (cell_count file) most_cells in
      let whole = eqb (length file) (marks_at file + cell_count file) in
      let (p, q) = and_parts (between 1 most_tables n) (every && (few && whole)) fits in
      let (r, s) = and_parts every (few && whole) q in
      let there = (bounds 1 most_tables n (is_so _ p)).0 in
      let first = is_true _ (all_each size_fits n (size_at file) (is_so _ r) 0 there) in
      let columns = (and_parts (between 1 most_columns (size_at file 0).columns) (leb (size_at file 0).rows most_rows) first).0 in
      record {
        there = there;
        columns_some = (bounds 1 most_columns (size_at file 0).columns (is_so _ columns)).0;
        cells_few = omega (arith, cells_within file 0 there, leb-true (cell_count file) most_cells (and_parts few whole s).0);
      }

  row_cells : ℕ → Row
  row_cells r = let s = size_at file 0 in tabulate s.columns (λ c. cell_at file (cells_before file 0 + r * s.columns + c))

  rows_are : rows_of (tables_of file) 1 ≡ tabulate (size_at file 0).rows row_cells
  unfolding tables_of table_from row_cells
  rows_are = tabulate_at (table_count file) (λ j. table_from file (cells_before file j) (size_at file j)) 0 [] table_1.there

  pub rows_count : length (rows_of (tables_of file) 1) ≡ (size_at file 0).rows
  rows_count = ap length rows_are ∙ tabulate_length (size_at file 0).rows row_cells

  pub row_count : (r : ℕ) → r < (size_at file 0).rows → length (get_or (rows_of (tables_of file) 1) r []) ≡ (size_at file 0).columns
  unfolding row_cells
  row_count r h =
      ap (λ (t : Table). length (get_or t r [])) rows_are
      ∙ ap length (tabulate_at (size_at file 0).rows row_cells r [] h)
      ∙ tabulate_length (size_at file 0).columns (λ c. cell_at file (cells_before file 0 + r * (size_at file 0).columns + c))

  pub row_some : (r : ℕ) → r < (size_at file 0).rows → 1 ≤ length (get_or (rows_of (tables_of file) 1) r [])
  row_some r h = omega (arith, row_count r h, table_1.columns_some)

  pub table_long : length (lines_text (rows_of (tables_of file) 1)) ≡ total (map line_room (rows_of (tables_of file) 1))
  table_long = lines_long (rows_of (tables_of file) 1) (λ r h. row_some r (omega (arith, rows_count)))

  -- at most 12 bytes for each cell
  pub table_few : length (lines_text (rows_of (tables_of file) 1)) ≤ 12 * ((size_at file 0).rows * (size_at file 0).columns)
  table_few =
      let few = rooms_few (size_at file 0).columns (rows_of (tables_of file) 1) (λ r h. row_count r (omega (arith, rows_count))) in
      let e = ap (λ (n : ℕ). n * (size_at file 0).columns) rows_count in
      omega (arith, table_long)

  pub cells_few : (size_at file 0).rows * (size_at file 0).columns ≤ most_cells
  cells_few = table_1.cells_few

  pub table_most : length (lines_text (rows_of (tables_of file) 1)) ≤ most_lines
  table_most = omega (arith, table_few, table_1.cells_few)

-- ---- EXPORT of a valid file

pub accepted_fits : (file : List ℕ) → first_applying (tables_refusals file) ≡ none → sizes_fit file ≡ true
unfolding tables_refusals
accepted_fits file e = not-false (sizes_fit file) (none_first 1 (not (sizes_fit file)) _ e).0

pub exported_long : (file : List ℕ) → Valid file → length (exported_lines file) ≡ total (map line_room (rows_of (tables_of file) 1))
unfolding exported_lines
exported_long file v = table_long file (accepted_fits file v.accepted)

pub exported_most : (file : List ℕ) → Valid file → length (exported_lines file) ≤ most_lines
unfolding exported_lines
exported_most file v = table_most file (accepted_fits file v.accepted)

pub export_given : (file buffer : List ℕ) → Valid file → length (exported_lines file) ≤ length buffer
    → export_call file buffer ≡ filled_with (exported_lines file) buffer
unfolding export_call
export_given file buffer v h = lend_long (tables_refusals file) (exported_lines file) buffer v.accepted h

pub export_room : (file buffer : List ℕ) → Valid file → ((export_call file buffer).result ≡ Refused 12) ↔ (length buffer < length (exported_lines file))
unfolding export_call
export_room file buffer v =
    let lines = exported_lines file in
    (λ e. go e (ltb (length buffer) (length lines)) refl, λ h. ap (λ (l : Lent ℕ). l.result) (lend_short (tables_refusals file) lines buffer v.accepted h))
  where
    go : (export_call file buffer).result ≡ Refused 12 → (t : Bool) → ltb (length buffer) (length (exported_lines file)) ≡ t
        → length buffer < length (exported_lines file)
    go e true f = ltb-true (length buffer) (length (exported_lines file)) f
    go e false f =
        let g = export_given file buffer v (ltb-false (length buffer) (length (exported_lines file)) f) in
        let z : ◌≡◌ {A = ℕ} 0 1 = cc in
        absurd (omega arith)
