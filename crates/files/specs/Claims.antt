-- What proofs/ shows of these definitions.
use Rattle.std.specs.Prelude.{◌≡◌, true, not, List, [], ◌∷◌, ◌++◌, map, ◌↔◌, ℕ, ◌+◌, ◌*◌, ◌<◌, ◌≤◌, length, get_or}
use Rattle.std.proofs.Math.Option.{none}
use Rattle.tables.specs.Lists.{numbered, all, placed}
use Rattle.tables.specs.Bytes.{byte_at}
use Rattle.tables.specs.Tables.{Size, sizes, columns_of, row_count, cell_count, values_at, marks_at, value_bits, mark_of, sizes_fit, marks_fit, cell_at, tables_of}
use Rattle.tables.specs.Refusals.{◌if◌, first_applying, tables_refusals}
use Rattle.tables.specs.Cases.{sample_file}
use Rattle.files.specs.Files.{RawCell, size_bytes, marks_start, values_start, file_bytes, file_length, cells_placed, cell_storable, Storable, sizes_allowed, marks_allowed, raw_cells, cell_read, tables_cut}
use Rattle.files.specs.Cases.{sample_sizes, sample_cells, file_cases}

-- the length in bytes
abbrev pub FileLengthClaim : Type 0
FileLengthClaim = (ss : List Size) (cs : List RawCell) → length (file_bytes ss cs) ≡ file_length ss cs

-- what was stored is read back: sizes, with the columns and the rows of each table, and cells, with the bits and the mark of each; and each of its numbers is a byte
pub record Back (ss : List Size) (cs : List RawCell) : Type 0 where
  pub sizes_back : sizes (file_bytes ss cs) ≡ ss
  pub columns_back : columns_of (file_bytes ss cs) ≡ map (λ s. s.columns) ss
  pub rows_back : (t : ℕ) → row_count (file_bytes ss cs) t ≡ numbered (map (λ s. s.rows) ss) t 0
  pub count_back : cell_count (file_bytes ss cs) ≡ length cs
  pub values_start_lem : values_at (file_bytes ss cs) ≡ values_start ss
  pub marks_start_lem : marks_at (file_bytes ss cs) ≡ marks_start ss cs
  pub cells_back : raw_cells (file_bytes ss cs) ≡ cs
  pub value_back : (k : ℕ) (d : RawCell) → k < length cs → value_bits (file_bytes ss cs) k ≡ (get_or cs k d).bits
  pub mark_back : (k : ℕ) (d : RawCell) → k < length cs → mark_of (file_bytes ss cs) k ≡ (get_or cs k d).mark
  pub byte_small : (i : ℕ) → byte_at (file_bytes ss cs) i < 256

abbrev pub BackClaim : Type 0
BackClaim = (ss : List Size) (cs : List RawCell) → Storable ss cs → Back ss cs

-- which of refusals 1 and 2 such a file gets is told by its sizes and its marks
pub record RefusalsTold (ss : List Size) (cs : List RawCell) : Type 0 where
  pub sizes_fit_lem : sizes_fit (file_bytes ss cs) ≡ sizes_allowed ss
  pub marks_fit_lem : marks_fit (file_bytes ss cs) ≡ marks_allowed cs
  pub refusals : tables_refusals (file_bytes ss cs) ≡ (1 if not (sizes_allowed ss)) ∷ (2 if not (marks_allowed cs)) ∷ []
  pub valid : (first_applying (tables_refusals (file_bytes ss cs)) ≡ none) ↔ ((sizes_allowed ss ≡ true) × (marks_allowed cs ≡ true))

abbrev pub ValidityClaim : Type 0
ValidityClaim = (ss : List Size) (cs : List RawCell) → Storable ss cs → RefusalsTold ss cs

-- the tables of any bytes at all are cut from their cells by their sizes
abbrev pub CutClaim : Type 0
CutClaim = (file : List ℕ) → tables_of file ≡ tables_cut (sizes file) (map cell_read (raw_cells file))

-- and so the tables that such a file holds
pub record FileTables (ss : List Size) (cs : List RawCell) : Type 0 where
  pub cell : (k : ℕ) (d : RawCell) → k < length cs → cell_at (file_bytes ss cs) k ≡ cell_read (get_or cs k d)
  pub tables : tables_of (file_bytes ss cs) ≡ tables_cut ss (map cell_read cs)

abbrev pub FileTablesClaim : Type 0
FileTablesClaim = (ss : List Size) (cs : List RawCell) → Storable ss cs → FileTables ss cs

-- some bytes are those of the file that is made from their own sizes and cells
pub record Remade (file : List ℕ) : Type 0 where
  pub storable : Storable (sizes file) (raw_cells file)
  pub is : file ≡ file_bytes (sizes file) (raw_cells file)

-- all bytes that are as long as their sizes ask, and so every file to which refusal 1 does not apply
pub record RemadeClaim : Type 0 where
  pub by_length : (file : List ℕ) → ((i : ℕ) → byte_at file i < 256) → length file ≡ marks_at file + cell_count file → Remade file
  pub unrefused : (file : List ℕ) → ((i : ℕ) → byte_at file i < 256) → sizes_fit file ≡ true → Remade file

-- a run of cells that is placed in a file, its values among the values and its marks among the marks, is placed in the list of its cells, whatever its sizes; so
-- also by a file's own sizes and cells; and what comes of it can be stored where the run can. A table's sizes that are placed in a file are placed in the list of
-- its sizes. Whatever is placed in a file at the front of a longer buffer, what stands behind the file stays as it is
pub record PlacingClaim : Type 0 where
  pub placing : (ss : List Size) (cs : List RawCell) (j : ℕ) (ds : List RawCell) → j + length ds ≤ length cs
      → cells_placed (file_bytes ss cs) (values_start ss) (marks_start ss cs) j ds ≡ file_bytes ss (placed cs j ds)
  pub placing_file : (file : List ℕ) (j : ℕ) (ds : List RawCell) → Remade file → j + length ds ≤ cell_count file
      → cells_placed file (values_at file) (marks_at file) j ds ≡ file_bytes (sizes file) (placed (raw_cells file) j ds)
  pub placing_storable : (ss : List Size) (cs : List RawCell) (j : ℕ) (ds : List RawCell) → Storable ss cs → j + length ds ≤ length cs
      → all cell_storable ds ≡ true → Storable ss (placed cs j ds)
  pub placing_size : (ss : List Size) (cs : List RawCell) (j : ℕ) (s : Size) → j < length ss
      → placed (file_bytes ss cs) (1 + 3 * j) (size_bytes s) ≡ file_bytes (placed ss j (s ∷ [])) cs
  pub placing_front : (file rest : List ℕ) (i : ℕ) (new : List ℕ) → i + length new ≤ length file → placed (file ++ rest) i new ≡ placed file i new ++ rest

-- the sample file of the crate tables is made from its sizes and cells
abbrev pub SampleFileClaim : Type 0
SampleFileClaim = file_bytes sample_sizes sample_cells ≡ sample_file

-- the smallest files, and one of 1,000 rows, together
abbrev pub FilesClaim : Type 0
FilesClaim = map (λ c. file_bytes c.sizes c.cells) file_cases ≡ map (λ c. c.bytes) file_cases
