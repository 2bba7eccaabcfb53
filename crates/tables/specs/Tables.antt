-- Document 01, Tables: the bytes of a tables file, and what they say.
use Rattle.std.specs.Prelude.{Bool, ◌&&◌, List, [], map, ℕ, zero, suc, ◌+◌, ◌*◌, leb, eqb, ℤ, length, take}
use Rattle.tables.specs.Lists.{tabulate, numbered, all, keep, total, same}
use Rattle.tables.specs.Bytes.{between, byte_at, word16, word32, signed}

-- ---- the limits

abbrev pub most_tables : ℕ
most_tables = 8

abbrev pub most_columns : ℕ
most_columns = 16

abbrev pub most_rows : ℕ
most_rows = 1000

-- over all tables
abbrev pub most_cells : ℕ
most_cells = 8192

-- the highest mark: 0 is present, 1 is blank, and of document 02, Point 4: 'Mark 2 means declined'
abbrev pub highest_mark : ℕ
highest_mark = 2

-- ---- the sizes

pub record Size : Type 0 where
  pub columns : ℕ
  pub rows : ℕ

-- T, the number of tables, is byte 0
abbrev pub table_count : List ℕ → ℕ
table_count bs = byte_at bs 0

-- a table's sizes: a byte for its columns, two for its rows; here j counts the tables from 0
abbrev pub size_at : List ℕ → ℕ → Size
size_at bs j = record { columns = byte_at bs (1 + 3 * j); rows = word16 bs (2 + 3 * j) }

unfoldable pub sizes : List ℕ → List Size
sizes bs = tabulate (table_count bs) (size_at bs)

-- the columns of each table: what a card keeps of the sizes, and what stays the same in later tables
unfoldable pub columns_of : List ℕ → List ℕ
columns_of bs = map (λ s. s.columns) (sizes bs)

-- the rows of table t, where tables are numbered from 1
unfoldable pub row_count : List ℕ → ℕ → ℕ
row_count bs t = numbered (map (λ s. s.rows) (sizes bs)) t 0

abbrev pub cells_in : Size → ℕ
cells_in s = s.rows * s.columns

-- the cells of the tables before table number j + 1
unfoldable pub cells_before : List ℕ → ℕ → ℕ
cells_before bs j = total (map cells_in (take j (sizes bs)))

-- the cells of all tables
unfoldable pub cell_count : List ℕ → ℕ
cell_count bs = total (map cells_in (sizes bs))

-- where the array of values starts, behind the sizes, and the array of marks behind it
abbrev pub values_at : List ℕ → ℕ
values_at bs = 1 + 3 * table_count bs

abbrev pub marks_at : List ℕ → ℕ
marks_at bs = values_at bs + 4 * cell_count bs

-- cell k of all: its value's bits, and its mark
abbrev pub value_bits : List ℕ → ℕ → ℕ
value_bits bs k = word32 bs (values_at bs + 4 * k)

abbrev pub mark_of : List ℕ → ℕ → ℕ
mark_of bs k = byte_at bs (marks_at bs + k)

-- ---- when a file is refused

abbrev pub size_fits : Size → Bool
size_fits s = between 1 most_columns s.columns && leb s.rows most_rows

-- refusal 1 does not apply: the number of tables, each table's sizes and all cells are within the limits, and the file ends with the last mark
unfoldable pub sizes_fit : List ℕ → Bool
sizes_fit bs =
    between 1 most_tables (table_count bs)
    && (all size_fits (sizes bs)
    && (leb (cell_count bs) most_cells
    && eqb (length bs) (marks_at bs + cell_count bs)))

-- refusal 2 does not apply: no mark is above the highest ('Refusal 2 now means a mark above 2')
unfoldable pub marks_fit : List ℕ → Bool
marks_fit bs = all (λ k. leb (mark_of bs k) highest_mark) (tabulate (cell_count bs) (λ k. k))

-- ---- the cells

-- a cell is blank, or declined, or present with a signed number
pub data Cell : Type 0 where
  Blank : Cell
  Declined : Cell
  Present : ℤ → Cell

-- a cell by its mark; a mark above the highest, of which no answer is made, since refusal 2 applies, is taken for declined
abbrev pub cell_marked : ℕ → ℤ → Cell
cell_marked zero k = Present k
cell_marked (suc zero) k = Blank
cell_marked (suc (suc mark)) k = Declined

-- a cell from its mark and its bits; the bits of a blank or a declined cell are dropped here, so that they affect no answer
abbrev pub cell_from : ℕ → ℕ → Cell
cell_from mark raw = cell_marked mark (signed raw)

unfoldable pub cell_at : List ℕ → ℕ → Cell
cell_at bs k = cell_from (mark_of bs k) (value_bits bs k)

abbrev pub Row : Type 0
Row = List Cell

abbrev pub Table : Type 0
Table = List Row

abbrev pub Tables : Type 0
Tables = List Table

-- the cells from number k on, row by row
unfoldable pub table_from : List ℕ → ℕ → Size → Table
table_from bs k s = tabulate s.rows (λ r. tabulate s.columns (λ c. cell_at bs (k + r * s.columns + c)))

-- the tables that a file holds
unfoldable pub tables_of : List ℕ → Tables
tables_of bs = tabulate (table_count bs) (λ j. table_from bs (cells_before bs j) (size_at bs j))

-- the rows of table t, numbered from 1
abbrev pub rows_of : Tables → ℕ → Table
rows_of ts t = numbered ts t []

-- the cell in a column, numbered from 1
abbrev pub cell_in : Row → ℕ → Cell
cell_in row c = numbered row c Blank

-- ---- later tables

-- What demand 3 compares: as many tables, with the same columns each (T is the length of the list of columns)
unfoldable pub same_columns : List ℕ → List ℕ → Bool
same_columns bs cs = same (columns_of bs) (columns_of cs)

-- ---- rows of table 1

-- the numbers of the rows of table 1 of which a test holds, rising
unfoldable pub rows_where : List ℕ → (ℕ → Bool) → List ℕ
rows_where bs p = keep p (tabulate (row_count bs 1) (λ r. r))
