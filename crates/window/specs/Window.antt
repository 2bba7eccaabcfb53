-- Document 01, Tables: a window on one table shows its rows and columns without copying. It is the bytes of a tables file and where the cells of the table,
-- or of a part of it, stand in them; rows and columns count from 0 here.
use Rattle.std.specs.Prelude.{List, ℕ, ℤ, ◌+◌, ◌*◌, ◌<◌, length}
use Rattle.std.specs.Borrow.{Bor}
use Rattle.tables.specs.Bytes.{byte_at, word32, signed}
use Rattle.tables.specs.Tables.{Cell, size_at, cells_before, values_at, marks_at, cell_from}
use Rattle.cells.specs.declared.Seen.{Seen}
use Rattle.cells.specs.declared.Place.{Place}
use Rattle.window.specs.declared.Window.{Window}

-- the number of a cell among those of the file, in a window with so many columns whose first cell is number first: by row, then by column
abbrev pub cell_number : ℕ → ℕ → ℕ → ℕ → ℕ
cell_number first columns row column = first + (row * columns + column)

-- of cell k: its mark, where the marks start at byte marks, and its bits, where the values start at byte values
abbrev pub mark_at : List ℕ → ℕ → ℕ → ℕ
mark_at file marks k = byte_at file (marks + k)

abbrev pub bits_at : List ℕ → ℕ → ℕ → ℕ
bits_at file values k = word32 file (values + 4 * k)

-- its number
abbrev pub value_at : List ℕ → ℕ → ℕ → ℤ
value_at file values k = signed (bits_at file values k)

-- the window on the cells that stand there, and where the cells of a window stand
abbrev pub window_of : Bor (List ℕ) → Place → Window
window_of tables at = record { tables = tables; values = at.values; marks = at.marks; first = at.first; columns = at.columns; rows = at.rows }

abbrev pub window_place : Window → Place
window_place w = record { values = w.values; marks = w.marks; first = w.first; columns = w.columns; rows = w.rows }

-- the cell is one of the window's, and its bytes lie within the file
abbrev pub Inside : List ℕ → Place → ℕ → ℕ → Type 0
Inside file at row column =
    let k = cell_number at.first at.columns row column in
    (row < at.rows) × ((column < at.columns) × ((at.marks + k < length file) × (at.values + 4 * k + 3 < length file)))

-- ---- what a window shows

-- the cell that it shows in a row and a column
unfoldable pub shown : List ℕ → Place → ℕ → ℕ → Cell
shown file at row column =
    let k = cell_number at.first at.columns row column in
    cell_from (mark_at file at.marks k) (bits_at file at.values k)

-- what a cell with this mark and this number is seen as
abbrev pub seen_of : ℕ → ℤ → Seen
seen_of mark number = record { mark = mark; number = number }

-- what is seen in a row and a column; of a blank or declined cell, the number is that of its value bytes
abbrev pub seen_at : List ℕ → Place → ℕ → ℕ → Seen
seen_at file at row column =
    let k = cell_number at.first at.columns row column in
    seen_of (mark_at file at.marks k) (value_at file at.values k)

-- ---- the window on a table of a file

-- where a table stands; here j counts the tables from 0
abbrev pub place_of_table : List ℕ → ℕ → Place
place_of_table file j =
    let s = size_at file j in
    record { values = values_at file; marks = marks_at file; first = cells_before file j; columns = s.columns; rows = s.rows }
