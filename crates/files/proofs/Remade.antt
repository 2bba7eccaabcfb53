-- Bytes that are as long as their sizes ask are those of the file that is made from their own sizes and cells.
use mathlib.Core.Path.{◌≡◌, refl, sym, ap, ap₂, ◌∙◌}
use mathlib.Core.Bool.{true, ◌&&◌}
use mathlib.Core.List.{List, [], ◌∷◌, ◌++◌, flat_map, append-nil}
use Prim.Native.Nat.{ℕ, ◌+◌, ◌*◌, ◌<◌, ◌≤◌}
use native.Mathlib.Omega.{arith}
use borrow.Author.Tests.{lt-ltb, eqb-true}
use lib.Dec.{leb, ltb, eqb}
use lib.ListN.{length, take, drop, length-drop, take-append-drop}
use lib.Seq.{take_all, drop-cons, drop-drop}
use Rattle.tables.specs.Lists.{all}
use Rattle.tables.specs.Bytes.{between, byte_at}
use Rattle.tables.specs.Tables.{most_tables, most_cells, table_count, size_at, sizes, cell_count, values_at, marks_at, value_bits, mark_of, size_fits, sizes_fit}
use Rattle.tables.proofs.Tabulated.{tabulate_length, all_of}
use Rattle.files.specs.Files.{size_bytes, value_bytes, mark_bytes, sizes_part, file_bytes, cells_asked, size_storable, cell_storable, Storable, raw_cell_at, raw_cells}
use Rattle.files.specs.Claims.{Remade, RemadeClaim}
use Rattle.tables.proofs.Tabulated.{and_yes, and_parts, tabulate_part}
use Rattle.files.proofs.Pieces.{pieces_read, pieces_run}
use Rattle.tables.proofs.Bytes.{to16, to32}
use Rattle.files.proofs.Back.{raw_count}

module _ (file : List ℕ) (small : (i : ℕ) → byte_at file i < 256) where
  -- ---- what is read has room

  size_room : (j : ℕ) → size_storable (size_at file j) ≡ true
  size_room j =
      let s = size_at file j in
      and_yes (ltb s.columns 256) (ltb s.rows 65536) (lt-ltb s.columns 256 (small (1 + 3 * j)))
      (lt-ltb s.rows 65536 (omega (arith, small (2 + 3 * j), small (2 + 3 * j + 1))))

  cell_room : (k : ℕ) → cell_storable (raw_cell_at file k) ≡ true
  cell_room k =
      let m = values_at file + 4 * k in
      and_yes (ltb (value_bits file k) 4294967296) (ltb (mark_of file k) 256)
      (lt-ltb (value_bits file k) 4294967296 (omega (arith, small m, small (m + 1), small (m + 2), small (m + 3))))
      (lt-ltb (mark_of file k) 256 (small (marks_at file + k)))

  pub read_storable : Storable (sizes file) (raw_cells file)
  unfolding sizes raw_cells cell_count cells_asked
  read_storable =
      let count = tabulate_length (table_count file) (size_at file) in
      record {
        few = omega (arith, count, small 0);
        sizes_small = all_of size_storable (table_count file) (size_at file) (λ j h. size_room j);
        cells_small = all_of cell_storable (cell_count file) (raw_cell_at file) (λ k h. cell_room k);
        as_many = tabulate_length (cell_count file) (raw_cell_at file);
      }

  -- ---- the bytes of what is read

  module _ (long : length file ≡ marks_at file + cell_count file) where
    size_read : (j : ℕ) → j < table_count file → size_bytes (size_at file j) ≡ take 3 (drop (1 + 3 * j) file)
    size_read j h =
        let e0 : 1 + 3 * j ≡ 1 + 3 * j + 0 = omega arith in
        let e1 : 2 + 3 * j ≡ 1 + 3 * j + 1 = omega arith in
        let e2 : 2 + 3 * j + 1 ≡ 1 + 3 * j + 2 = omega arith in
        ap (λ (l : List ℕ). byte_at file (1 + 3 * j) ∷ l) (to16 _ _ (small (2 + 3 * j)) (small (2 + 3 * j + 1)))
        ∙ ap₂ ◌∷◌ (ap (byte_at file) e0) (ap₂ (λ (a b : ℕ). a ∷ b ∷ []) (ap (byte_at file) e1) (ap (byte_at file) e2))
        ∙ tabulate_part 3 file (1 + 3 * j) 0 (omega arith)

    value_read : (k : ℕ) → k < cell_count file → value_bytes (raw_cell_at file k) ≡ take 4 (drop (values_at file + 4 * k) file)
    value_read k h =
        let m = values_at file + 4 * k in
        let e : m ≡ m + 0 = omega arith in
        to32 _ _ _ _ (small m) (small (m + 1)) (small (m + 2)) (small (m + 3))
        ∙ ap (λ (i : ℕ). byte_at file i ∷ byte_at file (m + 1) ∷ byte_at file (m + 2) ∷ byte_at file (m + 3) ∷ []) e
        ∙ tabulate_part 4 file m 0 (omega arith)

    mark_read : (k : ℕ) → k < cell_count file → mark_bytes (raw_cell_at file k) ≡ take 1 (drop (marks_at file + 1 * k) file)
    mark_read k h =
        let e : marks_at file + k ≡ marks_at file + 1 * k + 0 = omega arith in
        ap (λ (i : ℕ). byte_at file i ∷ []) e ∙ tabulate_part 1 file (marks_at file + 1 * k) 0 (omega arith)

    -- the three parts
    sizes_read : sizes_part (sizes file) ++ drop (values_at file) file ≡ file
    unfolding sizes_part sizes
    sizes_read =
        let one : 0 < length file = omega arith in
        ap₂ ◌∷◌ (tabulate_length (table_count file) (size_at file))
        (ap₂ ◌++◌ (pieces_read size_bytes 3 (table_count file) (size_at file) file 1 size_read) (sym (drop-drop (3 * table_count file) 1 file))
        ∙ take-append-drop (3 * table_count file) (drop 1 file))
        ∙ sym (drop-cons file 0 0 one)

    values_read : flat_map value_bytes (raw_cells file) ++ drop (marks_at file) file ≡ drop (values_at file) file
    unfolding raw_cells
    values_read =
        ap₂ ◌++◌ (pieces_read value_bytes 4 (cell_count file) (raw_cell_at file) file (values_at file) value_read) (sym (drop-drop (4 * cell_count file) (values_at file) file))
        ∙ take-append-drop (4 * cell_count file) (drop (values_at file) file)

    marks_read : flat_map mark_bytes (raw_cells file) ≡ drop (marks_at file) file
    unfolding raw_cells
    marks_read =
        pieces_read mark_bytes 1 (cell_count file) (raw_cell_at file) file (marks_at file) mark_read
        ∙ take_all (1 * cell_count file) (drop (marks_at file) file) (omega (arith, length-drop (marks_at file) file))

    -- a run of cells, from number j on: its values, and its marks
    module _ (j n : ℕ) (within : j + n ≤ cell_count file) where
      cells_within : j + n ≤ length (raw_cells file)
      cells_within = omega (arith, raw_count file)

      pub run_values : take (4 * n) (drop (values_at file + 4 * j) file) ≡ flat_map value_bytes (take n (drop j (raw_cells file)))
      run_values = pieces_run value_bytes 4 (λ c. refl) file (values_at file) (raw_cells file) (drop (marks_at file) file) j n values_read cells_within

      pub run_marks : take n (drop (marks_at file + j) file) ≡ flat_map mark_bytes (take n (drop j (raw_cells file)))
      run_marks =
          let one : n ≡ 1 * n = omega arith in
          let one' : marks_at file + j ≡ marks_at file + 1 * j = omega arith in
          ap₂ (λ (m a : ℕ). take m (drop a file)) one one'
          ∙ pieces_run mark_bytes 1 (λ c. refl) file (marks_at file) (raw_cells file) [] j n (append-nil _ ∙ marks_read) cells_within

    remade : Remade file
    unfolding file_bytes
    remade = record {
      storable = read_storable;
      is = sym (ap (λ (l : List ℕ). sizes_part (sizes file) ++ l) (ap (λ (l : List ℕ). flat_map value_bytes (raw_cells file) ++ l) marks_read ∙ values_read) ∙ sizes_read);
    }

-- refusal 1 does not apply: the length is right
pub long_enough : (file : List ℕ) → sizes_fit file ≡ true → length file ≡ marks_at file + cell_count file
unfolding sizes_fit
long_enough file e =
    let whole = eqb (length file) (marks_at file + cell_count file) in
    let few = leb (cell_count file) most_cells in
    let every = all size_fits (sizes file) in
    let r = (and_parts (between 1 most_tables (table_count file)) (every && (few && whole)) e).1 in
    eqb-true (length file) (marks_at file + cell_count file) (and_parts few whole (and_parts every (few && whole) r).1).1

pub remade_claim : RemadeClaim
remade_claim = record { by_length = remade; unrefused = λ file small e. remade file small (long_enough file e) }
