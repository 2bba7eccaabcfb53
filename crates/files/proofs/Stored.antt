-- A lent buffer is filled with a file: byte 0, then the sizes of one table after another, then the value and the mark of one cell after another, each at
-- its place. For loops: `old` is the buffer where the loop begins, `new` what it is now; then one more, and all.
use mathlib.Core.Path.{◌≡◌, refl, sym, ap, ap₂, ◌∙◌}
use mathlib.Core.List.{List, [], ◌∷◌, ◌++◌, flat_map, append_assoc}
use Prim.Native.Nat.{ℕ, ◌+◌, ◌*◌, ◌<◌, ◌≤◌}
use native.Mathlib.Numerals.{add-one}
use native.Mathlib.Omega.{arith}
use lib.ListN.{length, get_or, take, drop, set, length-set, length-append, length-drop}
use lib.Seq.{length-take-le, take_all, take-add, take-suc, drop-cons}
use Rattle.tables.specs.Lists.{placed}
use Rattle.tables.specs.Tables.{Size}
use Rattle.tables.proofs.Placed.{placed_length, placed_none, placed_start, placed_one, placed_next}
use Rattle.files.specs.Files.{RawCell, size_bytes, value_bytes, mark_bytes, sizes_part, file_bytes, values_start, marks_start, file_length, cells_placed}
use Rattle.tables.proofs.Placed.{placed_apart}
use Rattle.files.proofs.Pieces.{pieces_append, pieces_length}
use Rattle.files.proofs.Back.{sizes_length, values_length, marks_length}

-- ---- the sizes

-- the sizes of the first j tables are in place
pub record SizesStored (old new : List ℕ) (ss : List Size) (j : ℕ) : Type 0 where
  pub long : length new ≡ length old
  pub room : values_start ss ≤ length old
  pub few : j ≤ length ss
  pub is : new ≡ placed old 1 (flat_map size_bytes (take j ss))

pub sizes_none : (old : List ℕ) (ss : List Size) → values_start ss ≤ length old → SizesStored old old ss 0
unfolding flat_map
sizes_none old ss h = record { long = refl; room = h; few = omega arith; is = sym (placed_none old 1) }

module _ {old new : List ℕ} {ss : List Size} {j : ℕ} (st : SizesStored old new ss j) where
  pub sizes_more : (new' : List ℕ) (s d : Size) → new' ≡ placed new (1 + 3 * j) (size_bytes s) → s ≡ get_or ss j d → j < length ss → SizesStored old new' ss (j + 1)
  unfolding flat_map
  sizes_more new' s d p e h =
      let long = st.long in
      let room = st.room in
      let front = flat_map size_bytes (take j ss) in
      let size : length front ≡ 3 * j = omega (arith, pieces_length size_bytes 3 (λ s. refl) (take j ss), length-take-le j ss st.few) in
      let next : take j ss ++ (s ∷ []) ≡ take (j + 1) ss =
      ap (λ (x : Size). take j ss ++ (x ∷ [])) e ∙ sym (take-suc ss j d h) ∙ ap (λ (n : ℕ). take n ss) (sym (add-one j)) in
      record {
        long = ap length p ∙ placed_length new (1 + 3 * j) (size_bytes s) (omega arith) ∙ long;
        room = room;
        few = omega arith;
        is =
            p
            ∙ ap (λ (z : List ℕ). placed z (1 + 3 * j) (size_bytes s)) st.is
            ∙ placed_next old 1 front (1 + 3 * j) (size_bytes s) (omega arith) (omega arith)
            ∙ ap (placed old 1) (sym (pieces_append size_bytes (take j ss) (s ∷ [])) ∙ ap (flat_map size_bytes) next);
      }

  -- all, and byte 0 was stored before them
  pub sizes_all : (before : List ℕ) (t : ℕ) → old ≡ set before 0 t → t ≡ length ss → length ss ≤ j → new ≡ placed before 0 (sizes_part ss)
  unfolding sizes_part
  sizes_all before t p e h =
      let room = st.room in
      let n : length old ≡ length before = ap length p ∙ length-set before 0 t in
      st.is
      ∙ ap₂ (λ (o : List ℕ) (l : List Size). placed o 1 (flat_map size_bytes l)) (p ∙ placed_one before 0 t (omega arith) ∙ ap (λ (n : ℕ). placed before 0 (n ∷ [])) e) (take_all j ss h)
      ∙ placed_next before 0 (length ss ∷ []) 1 (flat_map size_bytes ss) (omega arith) refl

-- ---- the cells

-- the value and the mark of the first k cells are in place
pub record Stored (old new : List ℕ) (ss : List Size) (cs : List RawCell) (k : ℕ) : Type 0 where
  pub long : length new ≡ length old
  pub room : file_length ss cs ≤ length old
  pub few : k ≤ length cs
  pub is : new ≡ placed (placed old (values_start ss) (flat_map value_bytes (take k cs))) (marks_start ss cs) (flat_map mark_bytes (take k cs))

pub stored_none : (old : List ℕ) (ss : List Size) (cs : List RawCell) → file_length ss cs ≤ length old → Stored old old ss cs 0
unfolding flat_map
stored_none old ss cs h =
    record { long = refl; room = h; few = omega arith; is = sym (placed_none _ (marks_start ss cs) ∙ placed_none old (values_start ss)) }

module _ {old new : List ℕ} {ss : List Size} {cs : List RawCell} {k : ℕ} (st : Stored old new ss cs k) where
  -- the next m cells: their values, then their marks
  pub stored_run : (new' : List ℕ) (ds : List RawCell) (m v t : ℕ) → new' ≡ cells_placed new v t k ds → ds ≡ take m (drop k cs) → k + m ≤ length cs
      → v ≡ values_start ss → t ≡ marks_start ss cs → Stored old new' ss cs (k + m)
  stored_run new' ds m v t p e h at at' =
      let long = st.long in
      let room = st.room in
      let values = flat_map value_bytes (take k cs) in
      let marks = flat_map mark_bytes (take k cs) in
      let more = flat_map value_bytes ds in
      let more' = flat_map mark_bytes ds in
      let first = length-take-le k cs st.few in
      let next : length ds ≡ m = ap length e ∙ length-take-le m (drop k cs) (omega (arith, length-drop k cs)) in
      let n = values_length (take k cs) in
      let n' = marks_length (take k cs) in
      let l = values_length ds in
      let l' = marks_length ds in
      let z : length (placed old (values_start ss) values) ≡ length old = placed_length old (values_start ss) values (omega arith) in
      let y : length (placed old (values_start ss) (values ++ more)) ≡ length old =
      placed_length old (values_start ss) (values ++ more) (omega (arith, length-append values more)) in
      let w : length (placed new (v + 4 * k) more) ≡ length old = placed_length new (v + 4 * k) more (omega arith) ∙ long in
      let run : take k cs ++ ds ≡ take (k + m) cs = ap (λ (x : List RawCell). take k cs ++ x) e ∙ sym (take-add k m cs) in
      let all_values : values ++ more ≡ flat_map value_bytes (take (k + m) cs) = sym (pieces_append value_bytes (take k cs) ds) ∙ ap (flat_map value_bytes) run in
      let all_marks : marks ++ more' ≡ flat_map mark_bytes (take (k + m) cs) = sym (pieces_append mark_bytes (take k cs) ds) ∙ ap (flat_map mark_bytes) run in
      record {
        long = ap length p ∙ placed_length (placed new (v + 4 * k) more) (t + k) more' (omega arith) ∙ w;
        room = room;
        few = h;
        is =
            p
            ∙ ap (λ (x : List ℕ). placed (placed x (v + 4 * k) more) (t + k) more') st.is
            ∙ ap (λ (x : List ℕ). placed x (t + k) more')
            (sym (placed_apart (placed old (values_start ss) values) (v + 4 * k) more (marks_start ss cs) marks (omega arith) (omega arith))
            ∙ ap (λ (x : List ℕ). placed x (marks_start ss cs) marks) (placed_next old (values_start ss) values (v + 4 * k) more (omega arith) (omega arith)))
            ∙ placed_next (placed old (values_start ss) (values ++ more)) (marks_start ss cs) marks (t + k) more' (omega arith) (omega arith)
            ∙ ap₂ (λ (a b : List ℕ). placed (placed old (values_start ss) a) (marks_start ss cs) b) all_values all_marks;
      }

  -- one cell more
  pub stored_more : (new' : List ℕ) (c d : RawCell) (v t : ℕ) → new' ≡ cells_placed new v t k (c ∷ []) → c ≡ get_or cs k d → k < length cs
      → v ≡ values_start ss → t ≡ marks_start ss cs → Stored old new' ss cs (k + 1)
  stored_more new' c d v t p e h at at' =
      let one : c ∷ [] ≡ take 1 (drop k cs) = ap (λ (y : RawCell). y ∷ []) e ∙ sym (ap (take 1) (drop-cons cs k d h)) in
      stored_run new' (c ∷ []) 1 v t p one (omega arith) at at'

  -- all of them
  pub stored_cells : length cs ≤ k → new ≡ placed (placed old (values_start ss) (flat_map value_bytes cs)) (marks_start ss cs) (flat_map mark_bytes cs)
  stored_cells h =
      st.is ∙ ap (λ (l : List RawCell). placed (placed old (values_start ss) (flat_map value_bytes l)) (marks_start ss cs) (flat_map mark_bytes l)) (take_all k cs h)

  -- and the sizes were stored before them: the buffer starts with the file, and is else as it was before that
  pub stored_all : (before : List ℕ) → old ≡ placed before 0 (sizes_part ss) → values_start ss ≤ length before → length cs ≤ k
      → new ≡ file_bytes ss cs ++ drop (length (file_bytes ss cs)) before
  unfolding file_bytes
  stored_all before p h l =
      let room = st.room in
      let s = sizes_length ss in
      let n = values_length cs in
      let n' = length-append (sizes_part ss) (flat_map value_bytes cs) in
      let size : length old ≡ length before = ap length p ∙ placed_length before 0 (sizes_part ss) (omega arith) in
      stored_cells l
      ∙ ap (λ (o : List ℕ). placed (placed o (values_start ss) (flat_map value_bytes cs)) (marks_start ss cs) (flat_map mark_bytes cs)) p
      ∙ ap (λ (o : List ℕ). placed o (marks_start ss cs) (flat_map mark_bytes cs))
      (placed_next before 0 (sizes_part ss) (values_start ss) (flat_map value_bytes cs) (omega arith) (omega arith))
      ∙ placed_next before 0 (sizes_part ss ++ flat_map value_bytes cs) (marks_start ss cs) (flat_map mark_bytes cs) (omega arith) (omega arith)
      ∙ ap (placed before 0) (append_assoc (sizes_part ss) (flat_map value_bytes cs) (flat_map mark_bytes cs))
      ∙ placed_start before (file_bytes ss cs)
