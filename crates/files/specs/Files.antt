-- Document 01, Tables, the other way round: the bytes of a tables file from its sizes and its cells. How they are read is in Tables.antt of the
-- crate tables.
use Rattle.std.specs.Prelude.{◌≡◌, Bool, true, ◌&&◌, ℕ, zero, suc, ◌+◌, ◌*◌, ◌<◌, leb, ltb, length, take, drop}
use mathlib.Core.List.{List, [], ◌∷◌, ◌++◌, map, flat_map}
use Rattle.tables.specs.Lists.{tabulate, all, placed, total}
use Rattle.tables.specs.Bytes.{between, bytes16, bytes32}
use Rattle.tables.specs.Tables.{most_tables, most_cells, highest_mark, Size, cells_in, cell_count, value_bits, mark_of, size_fits, Cell, cell_from, Table, Tables}

-- a cell as it stands in a file: the 32 bits of its value, and its mark; the bits of a blank or declined cell are kept
pub record RawCell : Type 0 where
  pub bits : ℕ
  pub mark : ℕ

abbrev pub raw_cell : ℕ → ℕ → RawCell
raw_cell b m = record { bits = b; mark = m }

abbrev pub size_of : ℕ → ℕ → Size
size_of c r = record { columns = c; rows = r }

-- ---- the bytes

-- per table its columns, in a byte, and its rows, in two
abbrev pub size_bytes : Size → List ℕ
size_bytes s = s.columns ∷ bytes16 s.rows

-- a 4-byte value for each cell, and a mark byte for each
abbrev pub value_bytes : RawCell → List ℕ
value_bytes c = bytes32 c.bits

abbrev pub mark_bytes : RawCell → List ℕ
mark_bytes c = c.mark ∷ []

-- 'Sizes first': the number of tables, and the sizes of each
unfoldable pub sizes_part : List Size → List ℕ
sizes_part ss = length ss ∷ flat_map size_bytes ss

-- 'then two parallel arrays': all values, and then all marks
unfoldable pub file_bytes : List Size → List RawCell → List ℕ
file_bytes ss cs = sizes_part ss ++ (flat_map value_bytes cs ++ flat_map mark_bytes cs)

-- where its arrays start, and its length: a byte, three bytes for each table, and five for each cell
abbrev pub values_start : List Size → ℕ
values_start ss = 1 + 3 * length ss

abbrev pub marks_start : List Size → List RawCell → ℕ
marks_start ss cs = values_start ss + 4 * length cs

abbrev pub file_length : List Size → List RawCell → ℕ
file_length ss cs = 1 + 3 * length ss + 5 * length cs

-- a run of cells in its place, its first the cell number k: its values in the array that starts at `values`, its marks in the one that starts at `marks`
abbrev pub cells_placed : List ℕ → ℕ → ℕ → ℕ → List RawCell → List ℕ
cells_placed bytes values marks k cs = placed (placed bytes (values + 4 * k) (flat_map value_bytes cs)) (marks + k) (flat_map mark_bytes cs)

-- ---- what can be stored

-- how many cells sizes ask for
unfoldable pub cells_asked : List Size → ℕ
cells_asked ss = total (map cells_in ss)

-- the bytes of a size, and of a cell, have room for it
abbrev pub size_storable : Size → Bool
size_storable s = ltb s.columns 256 && ltb s.rows 65536

abbrev pub cell_storable : RawCell → Bool
cell_storable c = ltb c.bits 4294967296 && ltb c.mark 256

-- each number has room, and there are as many cells as the sizes ask for; nothing of the limits on tables
pub record Storable (ss : List Size) (cs : List RawCell) : Type 0 where
  pub few : length ss < 256
  pub sizes_small : all size_storable ss ≡ true
  pub cells_small : all cell_storable cs ≡ true
  pub as_many : length cs ≡ cells_asked ss

-- ---- the limits, of sizes and of cells

-- 1 to 8 tables, the columns and rows of each, and 8,192 cells over all
abbrev pub sizes_allowed : List Size → Bool
sizes_allowed ss = between 1 most_tables (length ss) && (all size_fits ss && leb (cells_asked ss) most_cells)

-- no mark is above the highest
abbrev pub marks_allowed : List RawCell → Bool
marks_allowed cs = all (λ c. leb c.mark highest_mark) cs

-- ---- back

-- the cells of a file, raw
abbrev pub raw_cell_at : List ℕ → ℕ → RawCell
raw_cell_at bs k = raw_cell (value_bits bs k) (mark_of bs k)

unfoldable pub raw_cells : List ℕ → List RawCell
raw_cells bs = tabulate (cell_count bs) (raw_cell_at bs)

-- what a raw cell says
abbrev pub cell_read : RawCell → Cell
cell_read c = cell_from c.mark c.bits

-- so many rows of so many cells each, cut from a list of cells
unfoldable pub rows_cut : ℕ → ℕ → List Cell → Table
rows_cut zero columns cells = []
rows_cut (suc rows) columns cells = take columns cells ∷ rows_cut rows columns (drop columns cells)

-- 'by table, row, column': tables of these sizes, cut from the list of all cells
unfoldable pub tables_cut : List Size → List Cell → Tables
tables_cut [] cells = []
tables_cut (s ∷ ss) cells = rows_cut s.rows s.columns cells ∷ tables_cut ss (drop (cells_in s) cells)
