-- Document 02, Point 2: IMPORT and EXPORT, which refusal or which bytes, for any text, number of columns, tables file and room.
use Rattle.std.specs.Prelude.{Bool, false, not, ◌&&◌, ℕ, ◌*◌, eqb, leb, length}
use mathlib.Core.List.{List, [], ◌∷◌, map, flat_map}
use Rattle.std.proofs.Math.Option.{Option, none, some}
use Rattle.tables.specs.Lists.{all}
use Rattle.tables.specs.Bytes.{between, bits}
use Rattle.tables.specs.Tables.{most_columns, most_rows, most_cells, Cell, Blank, Declined, Present, Table, tables_of, rows_of}
use Rattle.tables.specs.Refusals.{Refusal, ◌if◌, Lent, lend, tables_refusals}
use Rattle.files.specs.Files.{RawCell, raw_cell, size_of, file_bytes}
use Rattle.lines.specs.Lines.{lines_of, table_read, lines_text}

-- ---- IMPORT

-- 'or columns not 1 to 16'
abbrev pub columns_allowed : ℕ → Bool
columns_allowed columns = between 1 most_columns columns

-- 'a wrong field count': each line has as many fields as there are columns
abbrev pub fields_counted : ℕ → Table → Bool
fields_counted columns rows = all (λ row. eqb (length row) columns) rows

-- refusal 14 does not apply: the columns are allowed, every field is good, and none is missing or too many
unfoldable pub fields_fit : ℕ → Option Table → Bool
fields_fit columns none = false
fields_fit columns (some rows) = columns_allowed columns && fields_counted columns rows

-- refusal 15 does not apply: at most 1,000 rows and 8,192 cells
abbrev pub counts_fit : ℕ → ℕ → Bool
counts_fit columns rows = leb rows most_rows && leb (rows * columns) most_cells

-- 14 and 15; the rows are counted by the lines, whatever their fields
unfoldable pub import_refusals : List ℕ → ℕ → List Refusal
import_refusals text columns = (14 if not (fields_fit columns (table_read text))) ∷ (15 if not (counts_fit columns (length (lines_of text)))) ∷ []

-- a cell as it is stored: a present one with its number, a blank one 'with 0 as value', and of Point 4 a declined one: 'read with 0 as its value'
abbrev pub stored_cell : Cell → RawCell
stored_cell Blank = raw_cell 0 1
stored_cell Declined = raw_cell 0 2
stored_cell (Present k) = raw_cell (bits k) 0

-- 'tables bytes with that single table': its cells row by row
unfoldable pub table_file : ℕ → Table → List ℕ
table_file columns rows = file_bytes (size_of columns (length rows) ∷ []) (flat_map (map stored_cell) rows)

-- the rows that were read; where some field is bad 14 applies, and no call asks for them
abbrev pub rows_read : Option Table → Table
rows_read none = []
rows_read (some rows) = rows

-- the answer of IMPORT
unfoldable pub imported_file : List ℕ → ℕ → List ℕ
imported_file text columns = table_file columns (rows_read (table_read text))

-- IMPORT writes a tables file into a lent buffer, and answers how many bytes it has
unfoldable pub import_call : List ℕ → ℕ → List ℕ → Lent ℕ
import_call text columns buffer = lend (import_refusals text columns) (imported_file text columns) buffer

-- ---- EXPORT

-- 'The reverse writes table 1'
unfoldable pub exported_lines : List ℕ → List ℕ
exported_lines file = lines_text (rows_of (tables_of file) 1)

-- EXPORT writes the lines of table 1 into a lent buffer, and answers how many bytes they have
unfoldable pub export_call : List ℕ → List ℕ → Lent ℕ
export_call file buffer = lend (tables_refusals file) (exported_lines file) buffer

-- ---- the order of each call's refusals, by their numbers

-- 'they are checked in that order, before 12'
abbrev pub import_order : List ℕ
import_order = 14 ∷ 15 ∷ 12 ∷ []

-- document 01: 'the lowest applying number is given'
abbrev pub export_order : List ℕ
export_order = 1 ∷ 2 ∷ 12 ∷ []
