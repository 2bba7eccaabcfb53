-- What proofs/ shows of these definitions.
use Rattle.std.specs.Prelude.{◌≡◌, Bool, true, false, not, ◌||◌, cond, ◌↔◌, ℕ, suc, ◌+◌, ◌*◌, ◌<◌, ◌≤◌, eqb, length, get_or, take}
use mathlib.Core.List.{List, [], ◌∷◌, map, flat_map, IsChain}
use Rattle.std.proofs.Math.Option.{none, some}
use Rattle.tables.specs.Lists.{all, total, same}
use Rattle.tables.specs.Bytes.{byte_at}
use Rattle.tables.specs.Tables.{most_cells, Cell, Row, Table, cells_in, sizes, size_at, tables_of, rows_of, cell_in}
use Rattle.tables.specs.Refusals.{Refused, Given, numbers, first_applying, tables_refusals, refused_with, filled_with, lend, lend_refusals}
use Rattle.tables.specs.Exports.{is_given, ZeroIsSuccess}
use Rattle.tables.specs.Claims.{BlanksDiffer}
use Rattle.numerals.specs.Numerals.{is_plain}
use Rattle.files.specs.Files.{RawCell, raw_cell, size_of, file_bytes, raw_cells}
use Rattle.lines.specs.Lines.{carriage_return, declined_field, field_read, fields_of, lines_of, table_read, field_text}
use Rattle.lines.specs.Grammar.{IsLines}
use Rattle.lines.specs.Calls.{columns_allowed, fields_counted, counts_fit, import_refusals, imported_file, stored_cell, table_file, import_call, import_order, exported_lines, export_call, export_order}
use Rattle.lines.specs.Cases.{import_given, import_refused, import_case_answer, import_edges, edge_refusal, export_cases, export_case_answer}

-- ---- the grammar

-- the table that is read of a text is the one that the productions give it; so there is at most one. It has a row for each line
pub record LineGrammarClaim : Type 0 where
  pub exactly : (text : List ℕ) (rows : Table) → (table_read text ≡ some rows) ↔ IsLines text rows
  pub once : (text : List ℕ) (rows others : Table) → IsLines text rows → IsLines text others → rows ≡ others
  pub counted : (text : List ℕ) (rows : Table) → IsLines text rows → length (lines_of text) ≡ length rows

-- ---- IMPORT

-- the productions give a text these rows, with as many fields each as there are columns, 1 to 16
pub record TableLines (text : List ℕ) (columns : ℕ) (rows : Table) : Type 0 where
  pub lines : IsLines text rows
  pub allowed : columns_allowed columns ≡ true
  pub counted : fields_counted columns rows ≡ true

-- the bytes of a tables file of one table: its number of tables, its columns and rows, and five for each cell
abbrev pub imported_length : ℕ → ℕ → ℕ
imported_length columns rows = 4 + 5 * (rows * columns)

-- 14 exactly where there are no such rows; else 15 exactly where they are too many; else 12 exactly where the buffer is shorter than the file; else the
-- file, at the start of the buffer. A refusal leaves the buffer as it was
pub record ImportClaim : Type 0 where
  pub fields : (text buffer : List ℕ) (columns : ℕ) → ((import_call text columns buffer).result ≡ Refused 14) ↔ ((rows : Table) → ¬ TableLines text columns rows)
  pub size : (text buffer : List ℕ) (columns : ℕ) (rows : Table) → TableLines text columns rows
      → ((import_call text columns buffer).result ≡ Refused 15) ↔ (counts_fit columns (length rows) ≡ false)
  pub room : (text buffer : List ℕ) (columns : ℕ) (rows : Table) → TableLines text columns rows → counts_fit columns (length rows) ≡ true
      → ((import_call text columns buffer).result ≡ Refused 12) ↔ (length buffer < imported_length columns (length rows))
  pub given : (text buffer : List ℕ) (columns : ℕ) (rows : Table) → TableLines text columns rows → counts_fit columns (length rows) ≡ true
      → imported_length columns (length rows) ≤ length buffer → import_call text columns buffer ≡ filled_with (table_file columns rows) buffer
  pub untouched : (text buffer : List ℕ) (columns n : ℕ) → (import_call text columns buffer).result ≡ Refused n → (import_call text columns buffer).buffer ≡ buffer

-- the most bytes that such a file has: 40,964
abbrev pub most_imported : ℕ
most_imported = 4 + 5 * most_cells

-- a file of bytes that gets neither 1 nor 2
pub record Valid (file : List ℕ) : Type 0 where
  pub small : (i : ℕ) → byte_at file i < 256
  pub accepted : first_applying (tables_refusals file) ≡ none

-- the file that is imported: its length, for which 40,964 bytes are always enough; it is bytes, and gets neither 1 nor 2; it holds the rows as its single table, with
-- these columns; each cell is present with its number, or blank or declined with 0; and it is what its field says, in its line
pub record Imported (text : List ℕ) (columns : ℕ) (rows : Table) : Type 0 where
  pub long : length (table_file columns rows) ≡ imported_length columns (length rows)
  pub most : length (table_file columns rows) ≤ most_imported
  pub valid : Valid (table_file columns rows)
  pub size : sizes (table_file columns rows) ≡ size_of columns (length rows) ∷ []
  pub table : tables_of (table_file columns rows) ≡ rows ∷ []
  pub cells : raw_cells (table_file columns rows) ≡ flat_map (map stored_cell) rows
  pub says : (row column : ℕ) → row < length rows → column < columns
      → field_read (get_or (fields_of (get_or (lines_of text) row [])) column []) ≡ some (cell_in (get_or rows row []) (suc column))

abbrev pub ImportedClaim : Type 0
ImportedClaim = (text : List ℕ) (columns : ℕ) (rows : Table) → TableLines text columns rows → counts_fit columns (length rows) ≡ true → Imported text columns rows

-- ---- EXPORT

-- the bytes that a cell takes: its field, and the comma or the LF behind it
abbrev pub field_room : Cell → ℕ
field_room x = 1 + length (field_text x)

abbrev pub line_room : Row → ℕ
line_room row = total (map field_room row)

-- 98,304: 12 bytes for each cell
abbrev pub most_lines : ℕ
most_lines = 12 * most_cells

-- of a field that is empty, a lone `!` or a number, that it has no spare zeros
abbrev pub field_plain : List ℕ → Bool
field_plain [] = true
field_plain (b ∷ bs) = same (b ∷ bs) declined_field || is_plain (b ∷ bs)

-- the lines of table 1 of a file: their length, for which 98,304 bytes are always enough; the productions give them that table; 'LF after each line', which no
-- CR and that length leave as the only end of each; and 'numbers without spare zeros'
pub record Exported (file : List ℕ) : Type 0 where
  pub long : length (exported_lines file) ≡ total (map line_room (rows_of (tables_of file) 1))
  pub most : length (exported_lines file) ≤ most_lines
  pub lines : IsLines (exported_lines file) (rows_of (tables_of file) 1)
  pub no_return : all (λ b. not (eqb b carriage_return)) (exported_lines file) ≡ true
  pub plain : all (all field_plain) (map fields_of (lines_of (exported_lines file))) ≡ true

-- EXPORT gives 1 or 2 where the tables get it; else 12 exactly where the buffer is shorter than the lines; else the lines, at the start of the buffer. A
-- refusal leaves the buffer as it was; and 'the value bytes of a blank cell may be anything and affect no answer' (document 01, Tables), those of a declined
-- cell too ('It is blank in every respect')
pub record ExportClaim : Type 0 where
  pub refused : (file buffer : List ℕ) (n : ℕ) → first_applying (tables_refusals file) ≡ some n → export_call file buffer ≡ refused_with n buffer
  pub exported : (file : List ℕ) → Valid file → Exported file
  pub room : (file buffer : List ℕ) → Valid file → ((export_call file buffer).result ≡ Refused 12) ↔ (length buffer < length (exported_lines file))
  pub given : (file buffer : List ℕ) → Valid file → length (exported_lines file) ≤ length buffer → export_call file buffer ≡ filled_with (exported_lines file) buffer
  pub untouched : (file buffer : List ℕ) (n : ℕ) → (export_call file buffer).result ≡ Refused n → (export_call file buffer).buffer ≡ buffer
  pub blanks : (file other buffer : List ℕ) → BlanksDiffer file other → export_call file buffer ≡ export_call other buffer

-- ---- there and back

-- a cell with 0 as value if it is blank or declined
abbrev pub blank_cleared : RawCell → RawCell
blank_cleared c = raw_cell (cond (eqb c.mark 0) c.bits 0) c.mark

-- a file with table 1 of another alone: its sizes, its cells and marks, with 0 under each blank and each declined one
abbrev pub first_table_file : List ℕ → List ℕ
first_table_file file = file_bytes (size_at file 0 ∷ []) (map blank_cleared (take (cells_in (size_at file 0)) (raw_cells file)))

-- 'Writing and importing again gives the same cells and marks, with 0 as value under each blank', and under each declined cell, which is 'read with 0 as its
-- value': what was exported is refused with 12 alone, and else gives that file; and the table in it is the same
pub record RoundTripClaim : Type 0 where
  pub again : (file lines buffer : List ℕ) (n : ℕ) → Valid file → (export_call file lines).result ≡ Given n
      → import_call (take n (export_call file lines).buffer) (size_at file 0).columns buffer ≡ lend [] (first_table_file file) buffer
  pub same_table : (file : List ℕ) → Valid file → tables_of (first_table_file file) ≡ rows_of (tables_of file) 1 ∷ []

-- ---- refusals

-- with so much room as include/roskudla.h names, IMPORT and EXPORT give their answer where nothing else refuses it: 40,964 bytes, 98,304 bytes
pub record LinesRoomClaim : Type 0 where
  pub numbers : (most_imported ≡ 40964) × (most_lines ≡ 98304)
  pub importing : (text buffer : List ℕ) (columns : ℕ) → first_applying (import_refusals text columns) ≡ none → most_imported ≤ length buffer
      → is_given (import_call text columns buffer).result ≡ true
  pub exporting : (file buffer : List ℕ) → first_applying (tables_refusals file) ≡ none → most_lines ≤ length buffer → is_given (export_call file buffer).result ≡ true

-- what the C functions return is 0 only where there is an answer
pub record LinesStatusClaim : Type 0 where
  pub importing : (text buffer : List ℕ) (columns : ℕ) → ZeroIsSuccess (import_call text columns buffer).result
  pub exporting : (file buffer : List ℕ) → ZeroIsSuccess (export_call file buffer).result

-- the order in which they are tried; that of EXPORT rises, so that the first which applies is the lowest (LowestClaim of tables)
pub record LinesOrderClaim : Type 0 where
  pub importing : (text buffer : List ℕ) (columns : ℕ) → numbers (lend_refusals (import_refusals text columns) (imported_file text columns) buffer) ≡ import_order
  pub exporting : (file buffer : List ℕ) → numbers (lend_refusals (tables_refusals file) (exported_lines file) buffer) ≡ export_order
  pub rises : IsChain ◌<◌ export_order

-- ---- the cases, together

pub record LinesCasesClaim : Type 0 where
  pub imported : map import_case_answer import_given ≡ map (λ c. c.answer) import_given
  pub refused : map import_case_answer import_refused ≡ map (λ c. c.answer) import_refused
  pub edges : map edge_refusal import_edges ≡ map (λ e. e.refusal) import_edges
  pub exported : map export_case_answer export_cases ≡ map (λ c. c.answer) export_cases
