-- Cells placed in a file are placed in the list of its cells.
use mathlib.Core.Path.{◌≡◌, refl, sym, ap, ap₂, ◌∙◌}
use mathlib.Core.Bool.{true}
use mathlib.Core.List.{List, [], ◌∷◌, ◌++◌, flat_map}
use Prim.Native.Nat.{ℕ, ◌+◌, ◌*◌, ◌<◌, ◌≤◌}
use native.Mathlib.Omega.{arith}
use lib.ListN.{length}
use Rattle.tables.specs.Lists.{all, placed}
use Rattle.tables.specs.Tables.{Size, sizes, cell_count, values_at, marks_at}
use Rattle.tables.proofs.Placed.{placed_length, placed_behind, placed_within, all_placed}
use Rattle.files.specs.Files.{RawCell, size_bytes, value_bytes, mark_bytes, sizes_part, file_bytes, values_start, marks_start, cells_placed, cell_storable, Storable, raw_cells}
use Rattle.files.specs.Claims.{Remade, PlacingClaim}
use Rattle.files.proofs.Pieces.{pieces_placed}
use Rattle.files.proofs.Back.{sizes_length, values_length, marks_length, values_start_lem, marks_start_lem, raw_count}

module _ (ss : List Size) (cs : List RawCell) (j : ℕ) (ds : List RawCell) (within : j + length ds ≤ length cs) where
  -- the values, with the marks as they are
  values_placed : (v : ℕ) → v ≡ values_start ss
      → placed (file_bytes ss cs) (v + 4 * j) (flat_map value_bytes ds) ≡ sizes_part ss ++ (flat_map value_bytes (placed cs j ds) ++ flat_map mark_bytes cs)
  unfolding file_bytes
  values_placed v e =
      let s = sizes_length ss in
      let n = values_length cs in
      placed_behind (sizes_part ss) (flat_map value_bytes cs ++ flat_map mark_bytes cs) (v + 4 * j) (4 * j) (flat_map value_bytes ds) (omega arith)
      ∙ ap (λ (l : List ℕ). sizes_part ss ++ l)
      (placed_within (flat_map value_bytes cs) (flat_map mark_bytes cs) (4 * j) (flat_map value_bytes ds) (omega (arith, values_length ds))
      ∙ ap (λ (l : List ℕ). l ++ flat_map mark_bytes cs) (sym (pieces_placed value_bytes 4 (λ c. refl) cs j ds)))

  -- and then the marks
  pub run_placed : (v m : ℕ) → v ≡ values_start ss → m ≡ marks_start ss cs
      → cells_placed (file_bytes ss cs) v m j ds ≡ file_bytes ss (placed cs j ds)
  unfolding file_bytes
  run_placed v m e f =
      let values = flat_map value_bytes (placed cs j ds) in
      let s = sizes_length ss in
      let n : length values ≡ 4 * length cs = values_length (placed cs j ds) ∙ ap (λ (n : ℕ). 4 * n) (placed_length cs j ds within) in
      let one : 1 * j ≡ j = omega arith in
      ap (λ (l : List ℕ). placed l (m + j) (flat_map mark_bytes ds)) (values_placed v e)
      ∙ placed_behind (sizes_part ss) (values ++ flat_map mark_bytes cs) (m + j) (4 * length cs + j) (flat_map mark_bytes ds) (omega arith)
      ∙ ap (λ (l : List ℕ). sizes_part ss ++ l)
      (placed_behind values (flat_map mark_bytes cs) (4 * length cs + j) j (flat_map mark_bytes ds) (omega arith)
      ∙ ap (λ (l : List ℕ). values ++ l)
      (ap (λ (i : ℕ). placed (flat_map mark_bytes cs) i (flat_map mark_bytes ds)) (sym one) ∙ sym (pieces_placed mark_bytes 1 (λ c. refl) cs j ds)))

-- what comes of it can be stored
pub placed_storable : (ss : List Size) (cs : List RawCell) (j : ℕ) (ds : List RawCell) → Storable ss cs → j + length ds ≤ length cs
    → all cell_storable ds ≡ true → Storable ss (placed cs j ds)
placed_storable ss cs j ds room within small =
    record {
      few = room.few;
      sizes_small = room.sizes_small;
      cells_small = all_placed cell_storable cs j ds room.cells_small small;
      as_many = placed_length cs j ds within ∙ room.as_many;
    }

cells_placed_lem : (ss : List Size) (cs : List RawCell) (j : ℕ) (ds : List RawCell) → Storable ss cs → j + length ds ≤ length cs
    → cells_placed (file_bytes ss cs) (values_at (file_bytes ss cs)) (marks_at (file_bytes ss cs)) j ds ≡ file_bytes ss (placed cs j ds)
cells_placed_lem ss cs j ds room within = run_placed ss cs j ds within _ _ (values_start_lem ss cs room) (marks_start_lem ss cs room)

pub file_placed : (file : List ℕ) (j : ℕ) (ds : List RawCell) → Remade file → j + length ds ≤ cell_count file
    → cells_placed file (values_at file) (marks_at file) j ds ≡ file_bytes (sizes file) (placed (raw_cells file) j ds)
file_placed file j ds m within =
    ap (λ (f : List ℕ). cells_placed f (values_at f) (marks_at f) j ds) m.is
    ∙ cells_placed_lem (sizes file) (raw_cells file) j ds m.storable (omega (arith, raw_count file))

-- a table's sizes
pub size_placed : (ss : List Size) (cs : List RawCell) (j : ℕ) (s : Size) → j < length ss
    → placed (file_bytes ss cs) (1 + 3 * j) (size_bytes s) ≡ file_bytes (placed ss j (s ∷ [])) cs
unfolding file_bytes sizes_part flat_map
size_placed ss cs j s h =
    let n = sizes_length ss in
    let arrays = flat_map value_bytes cs ++ flat_map mark_bytes cs in
    placed_within (length ss ∷ flat_map size_bytes ss) arrays (1 + 3 * j) (size_bytes s) (omega arith)
    ∙ ap (λ (l : List ℕ). l ++ arrays)
    (placed_behind (length ss ∷ []) (flat_map size_bytes ss) (1 + 3 * j) (3 * j) (size_bytes s) refl
    ∙ ap₂ (λ (n : ℕ) (l : List ℕ). n ∷ l) (sym (placed_length ss j (s ∷ []) (omega arith))) (sym (pieces_placed size_bytes 3 (λ s. refl) ss j (s ∷ []))))

-- what stands behind a file
pub front_placed : (file rest : List ℕ) (values marks j : ℕ) (ds : List RawCell) → values + 4 * (j + length ds) ≤ length file → marks + (j + length ds) ≤ length file
    → cells_placed (file ++ rest) values marks j ds ≡ cells_placed file values marks j ds ++ rest
front_placed file rest values marks j ds h l =
    let v = values_length ds in
    let m = marks_length ds in
    let mid = placed file (values + 4 * j) (flat_map value_bytes ds) in
    let n : length mid ≡ length file = placed_length file (values + 4 * j) (flat_map value_bytes ds) (omega arith) in
    ap (λ (z : List ℕ). placed z (marks + j) (flat_map mark_bytes ds)) (placed_within file rest (values + 4 * j) (flat_map value_bytes ds) (omega arith))
    ∙ placed_within mid rest (marks + j) (flat_map mark_bytes ds) (omega arith)

pub placing_claim : PlacingClaim
placing_claim = record {
  placing = λ ss cs j ds within. run_placed ss cs j ds within _ _ refl refl;
  placing_file = file_placed;
  placing_storable = placed_storable;
  placing_size = size_placed;
  placing_front = placed_within;
}
