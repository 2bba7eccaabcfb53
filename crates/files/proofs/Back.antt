-- Sizes and cells are read back from the file that is made of them.
use mathlib.Core.Path.{◌≡◌, refl, sym, ap, ap₂, ◌∙◌}
use mathlib.Core.Bool.{true}
use mathlib.Core.List.{List, [], ◌∷◌, ◌++◌, map, flat_map}
use Prim.Native.Nat.{ℕ, ◌+◌, ◌*◌, ◌%◌, ◌<◌}
use native.Mathlib.Omega.{arith}
use lib.ListN.{length, get_or, length-append, get_or-append}
use lib.Seq.{get_or-append-add}
use Rattle.tables.specs.Lists.{tabulate, numbered, all, total}
use Rattle.tables.specs.Bytes.{byte_at}
use Rattle.tables.specs.Tables.{Size, table_count, size_at, sizes, columns_of, row_count, cells_in, cell_count, values_at, marks_at, value_bits, mark_of}
use Rattle.files.specs.Files.{RawCell, raw_cell, size_of, size_bytes, value_bytes, mark_bytes, sizes_part, file_bytes, values_start, marks_start, cells_asked, size_storable, cell_storable, Storable, raw_cell_at, raw_cells}
use Rattle.files.specs.Claims.{FileLengthClaim, BackClaim}
use Rattle.tables.proofs.Tabulated.{tabulate_length, tabulate_same}
use Rattle.tables.proofs.Tabulated.{all_at, tabulate_whole}
use Rattle.tables.proofs.Bytes.{from16, from32}
use Rattle.files.proofs.Pieces.{pieces_length, piece_at}
use Rattle.files.proofs.Bytes.{rows_small, bits_small, Small, small_cons, small_append, small_pieces, size_bytes_small, value_bytes_small, mark_bytes_small}

-- ---- how long each part is

pub sizes_length : (ss : List Size) → length (sizes_part ss) ≡ values_start ss
unfolding sizes_part
sizes_length ss = omega (arith, pieces_length size_bytes 3 (λ s. refl) ss)

pub values_length : (cs : List RawCell) → length (flat_map value_bytes cs) ≡ 4 * length cs
values_length cs = pieces_length value_bytes 4 (λ c. refl) cs

pub marks_length : (cs : List RawCell) → length (flat_map mark_bytes cs) ≡ length cs
marks_length cs = omega (arith, pieces_length mark_bytes 1 (λ c. refl) cs)

pub file_length_claim : FileLengthClaim
unfolding file_bytes
file_length_claim ss cs = simp (length-append, sizes_length, values_length, marks_length) (omega arith)

-- ---- a byte of each part

at_behind : (xs ys : List ℕ) (m n : ℕ) → m ≡ length xs + n → get_or (xs ++ ys) m 0 ≡ get_or ys n 0
at_behind xs ys m n e = ap (λ (k : ℕ). get_or (xs ++ ys) k 0) e ∙ get_or-append-add xs ys n 0

module _ (ss : List Size) (cs : List RawCell) where
  size_byte : (j i m : ℕ) (d : Size) → j < length ss → i < 3 → m ≡ 1 + (3 * j + i) → byte_at (file_bytes ss cs) m ≡ get_or (size_bytes (get_or ss j d)) i 0
  unfolding file_bytes sizes_part
  size_byte j i m d h l e =
      get_or-append (sizes_part ss) _ 0 m (omega (arith, sizes_length ss))
      ∙ at_behind (length ss ∷ []) (flat_map size_bytes ss) m (3 * j + i) e
      ∙ piece_at size_bytes 3 (λ s. refl) ss j i d 0 h l

  value_byte : (k i m : ℕ) (d : RawCell) → k < length cs → i < 4 → m ≡ values_start ss + (4 * k + i)
      → byte_at (file_bytes ss cs) m ≡ get_or (value_bytes (get_or cs k d)) i 0
  unfolding file_bytes
  value_byte k i m d h l e =
      at_behind (sizes_part ss) _ m (4 * k + i) (omega (arith, sizes_length ss))
      ∙ get_or-append (flat_map value_bytes cs) _ 0 (4 * k + i) (omega (arith, values_length cs))
      ∙ piece_at value_bytes 4 (λ c. refl) cs k i d 0 h l

  mark_byte : (k m : ℕ) (d : RawCell) → k < length cs → m ≡ marks_start ss cs + k → byte_at (file_bytes ss cs) m ≡ (get_or cs k d).mark
  unfolding file_bytes
  mark_byte k m d h e =
      at_behind (sizes_part ss) _ m (4 * length cs + (1 * k + 0)) (omega (arith, sizes_length ss))
      ∙ at_behind (flat_map value_bytes cs) _ (4 * length cs + (1 * k + 0)) (1 * k + 0) (omega (arith, values_length cs))
      ∙ piece_at mark_bytes 1 (λ c. refl) cs k 0 d 0 h (omega arith)

  -- ---- the sizes

  size_back : (j : ℕ) (d : Size) → all size_storable ss ≡ true → j < length ss → size_at (file_bytes ss cs) j ≡ get_or ss j d
  size_back j d small h =
      let s = get_or ss j d in
      ap₂ size_of (size_byte j 0 (1 + 3 * j) d h (omega arith) (omega arith))
      (ap₂ (λ (a b : ℕ). a + 256 * b) (size_byte j 1 (2 + 3 * j) d h (omega arith) (omega arith)) (size_byte j 2 (2 + 3 * j + 1) d h (omega arith) (omega arith))
      ∙ from16 s.rows (rows_small s (all_at size_storable ss small j d h)))

  pub count_tables : table_count (file_bytes ss cs) ≡ length ss
  unfolding file_bytes sizes_part
  count_tables = refl

  pub sizes_are : all size_storable ss ≡ true → sizes (file_bytes ss cs) ≡ ss
  unfolding sizes
  sizes_are small =
      let d = size_of 0 0 in
      ap (λ (n : ℕ). tabulate n (size_at (file_bytes ss cs))) count_tables
      ∙ tabulate_same (length ss) _ _ (λ j h. size_back j d small h)
      ∙ tabulate_whole ss d

  columns_are : all size_storable ss ≡ true → columns_of (file_bytes ss cs) ≡ map (λ s. s.columns) ss
  unfolding columns_of
  columns_are small = rw (sizes_are small)

  rows_are : all size_storable ss ≡ true → (t : ℕ) → row_count (file_bytes ss cs) t ≡ numbered (map (λ s. s.rows) ss) t 0
  unfolding row_count
  rows_are small t = rw (sizes_are small)

-- ---- the cells

pub raw_count : (file : List ℕ) → length (raw_cells file) ≡ cell_count file
unfolding raw_cells
raw_count file = tabulate_length (cell_count file) (raw_cell_at file)

module _ (ss : List Size) (cs : List RawCell) (room : Storable ss cs) where
  pub count_back : cell_count (file_bytes ss cs) ≡ length cs
  unfolding cell_count cells_asked
  count_back = ap (λ (l : List Size). total (map cells_in l)) (sizes_are ss cs room.sizes_small) ∙ sym room.as_many

  -- where the array of values starts, and the array of marks
  pub values_start_lem : values_at (file_bytes ss cs) ≡ values_start ss
  values_start_lem = omega (arith, count_tables ss cs)

  pub marks_start_lem : marks_at (file_bytes ss cs) ≡ marks_start ss cs
  marks_start_lem = omega (arith, count_tables ss cs, count_back)

  pub value_back : (k : ℕ) (d : RawCell) → k < length cs → value_bits (file_bytes ss cs) k ≡ (get_or cs k d).bits
  value_back k d h =
      let c = get_or cs k d in
      let m = values_at (file_bytes ss cs) + 4 * k in
      let e = values_start_lem in
      let b : (i : ℕ) → i < 4 → byte_at (file_bytes ss cs) (m + i) ≡ get_or (value_bytes c) i 0 = λ i l. value_byte ss cs k i (m + i) d h l (omega arith) in
      let b0 : byte_at (file_bytes ss cs) m ≡ c.bits % 256 = value_byte ss cs k 0 m d h (omega arith) (omega arith) in
      ap₂ ◌+◌ (ap₂ ◌+◌ (ap₂ ◌+◌ b0 (ap (λ (x : ℕ). 256 * x) (b 1 (omega arith)))) (ap (λ (x : ℕ). 65536 * x) (b 2 (omega arith)))) (ap (λ (x : ℕ). 16777216 * x) (b 3 (omega arith)))
      ∙ from32 c.bits (bits_small c (all_at cell_storable cs room.cells_small k d h))

  pub mark_back : (k : ℕ) (d : RawCell) → k < length cs → mark_of (file_bytes ss cs) k ≡ (get_or cs k d).mark
  mark_back k d h = mark_byte ss cs k (marks_at (file_bytes ss cs) + k) d h (omega (arith, marks_start_lem))

  cell_back : (k : ℕ) (d : RawCell) → k < length cs → raw_cell_at (file_bytes ss cs) k ≡ get_or cs k d
  cell_back k d h = ap₂ raw_cell (value_back k d h) (mark_back k d h)

  pub cells_back : raw_cells (file_bytes ss cs) ≡ cs
  unfolding raw_cells
  cells_back =
      let d = raw_cell 0 0 in
      ap (λ (n : ℕ). tabulate n (raw_cell_at (file_bytes ss cs))) count_back
      ∙ tabulate_same (length cs) _ _ (λ k h. cell_back k d h)
      ∙ tabulate_whole cs d

  file_small : Small (file_bytes ss cs)
  unfolding file_bytes sizes_part
  file_small =
      small_cons room.few
      (small_append (flat_map size_bytes ss) _ (small_pieces size_bytes size_storable size_bytes_small ss room.sizes_small)
      (small_append (flat_map value_bytes cs) _ (small_pieces value_bytes cell_storable value_bytes_small cs room.cells_small)
      (small_pieces mark_bytes cell_storable mark_bytes_small cs room.cells_small)))

pub back_claim : BackClaim
back_claim ss cs room =
    record {
      sizes_back = sizes_are ss cs room.sizes_small;
      columns_back = columns_are ss cs room.sizes_small;
      rows_back = rows_are ss cs room.sizes_small;
      count_back = count_back ss cs room;
      values_start_lem = values_start_lem ss cs room;
      marks_start_lem = marks_start_lem ss cs room;
      cells_back = cells_back ss cs room;
      value_back = value_back ss cs room;
      mark_back = mark_back ss cs room;
      byte_small = (file_small ss cs room).each;
    }
