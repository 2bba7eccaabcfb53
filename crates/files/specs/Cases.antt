-- Files made from sizes and cells: the sample file of the crate tables, the smallest files, and one of 1,000 rows.
use Rattle.std.specs.Prelude.{List, [], ◌∷◌, ◌++◌, ℕ, replicate}
use Rattle.tables.specs.Tables.{Size}
use Rattle.files.specs.Files.{RawCell, raw_cell, size_of}

-- the sample file: 0x04030201, −1, the lowest and the highest number, a blank with the bits 0x09090909 and a declined one with 0x08080808
abbrev pub sample_sizes : List Size
sample_sizes = size_of 2 2 ∷ size_of 1 0 ∷ size_of 1 2 ∷ []

abbrev pub sample_cells : List RawCell
sample_cells = raw_cell 67305985 0 ∷ raw_cell 4294967295 0 ∷ raw_cell 2147483648 0 ∷ raw_cell 2147483647 0 ∷ raw_cell 151587081 1 ∷ raw_cell 134744072 2 ∷ []

-- sizes and cells, and the bytes of the file with them
pub record FileCase : Type 0 where
  pub sizes : List Size
  pub cells : List RawCell
  pub bytes : List ℕ

-- no table; a table of 16 columns without rows; a single cell, present with the number 1, blank, and declined; 1,000 rows of a blank cell each, with 0 below it
unfoldable pub file_cases : List FileCase
file_cases =
    record { sizes = []; cells = []; bytes = 0 ∷ [] }
    ∷ record { sizes = size_of 16 0 ∷ []; cells = []; bytes = 1 ∷ 16 ∷ 0 ∷ 0 ∷ [] }
    ∷ record { sizes = size_of 1 1 ∷ []; cells = raw_cell 1 0 ∷ []; bytes = 1 ∷ 1 ∷ 1 ∷ 0 ∷ 1 ∷ 0 ∷ 0 ∷ 0 ∷ 0 ∷ [] }
    ∷ record { sizes = size_of 1 1 ∷ []; cells = raw_cell 0 1 ∷ []; bytes = 1 ∷ 1 ∷ 1 ∷ 0 ∷ 0 ∷ 0 ∷ 0 ∷ 0 ∷ 1 ∷ [] }
    ∷ record { sizes = size_of 1 1 ∷ []; cells = raw_cell 0 2 ∷ []; bytes = 1 ∷ 1 ∷ 1 ∷ 0 ∷ 0 ∷ 0 ∷ 0 ∷ 0 ∷ 2 ∷ [] }
    ∷ record {
      sizes = size_of 1 1000 ∷ [];
      cells = replicate 1000 (raw_cell 0 1);
      bytes = (1 ∷ 1 ∷ 232 ∷ 3 ∷ []) ++ (replicate 4000 0 ++ replicate 1000 1);
    }
    ∷ []
