-- Rows of cells: numbers that 32 bits can hold; the list of all cells, and how many they are; cells as they are stored, and read back.
use mathlib.Core.Path.{◌≡◌, refl, sym, ap, ap₂, ◌∙◌}
use mathlib.Core.Bool.{Bool, true}
use mathlib.Core.List.{List, [], ◌∷◌, ◌++◌, map, flat_map}
use Prim.Native.Nat.{ℕ, ◌*◌}
use native.Mathlib.Nat.{suc-mul}
use native.Mathlib.Omega.{arith}
use borrow.Author.Tests.{eqb-true, lt-ltb}
use lib.Dec.{eqb, leb, ltb}
use lib.ListN.{length, length-append, length-map}
use Rattle.tables.specs.Lists.{all}
use Rattle.tables.specs.Bytes.{bits, in_range}
use Rattle.tables.specs.Tables.{highest_mark, Cell, Blank, Declined, Present, Row, Table}
use Rattle.tables.proofs.Tests.{is_so}
use Rattle.tables.proofs.Bytes.{bits_small, signed_bits}
use Rattle.tables.proofs.Tabulated.{and_yes, and_parts, all_append, all_map}
use Rattle.files.specs.Files.{RawCell, cell_storable, marks_allowed, cell_read}
use Rattle.lines.specs.Calls.{fields_counted, stored_cell}

-- 32 bits can hold the number of a cell, if it has one
abbrev pub cell_fits : Cell → Bool
cell_fits Blank = true
cell_fits Declined = true
cell_fits (Present k) = in_range k

-- and of each cell of a table
abbrev pub cells_fit : Table → Bool
cells_fit rows = all (all cell_fits) rows

-- ---- the list of all cells

module _ {A B : Type 0} (f : A → B) where
  pub cells_all : (p : A → Bool) (q : B → Bool) → ((x : A) → p x ≡ true → q (f x) ≡ true) → (rows : List (List A)) → all (all p) rows ≡ true
      → all q (flat_map (map f) rows) ≡ true
  unfolding flat_map
  cells_all p q h [] e = refl
  cells_all p q h (row ∷ rows) e =
      let (here, rest) = and_parts (all p row) (all (all p) rows) e in
      all_append q (map f row) (flat_map (map f) rows) ∙ and_yes _ _ (all_map p q f h row here) (cells_all p q h rows rest)

  map_append : (xs ys : List A) → map f (xs ++ ys) ≡ map f xs ++ map f ys
  map_append [] ys = refl
  map_append (x ∷ xs) ys = ap (λ (l : List B). f x ∷ l) (map_append xs ys)

  pub cells_mapped : (rows : List (List A)) → flat_map (map f) rows ≡ map f (flat_map (λ (row : List A). row) rows)
  unfolding flat_map
  cells_mapped [] = refl
  cells_mapped (row ∷ rows) = ap (λ (l : List B). map f row ++ l) (cells_mapped rows) ∙ sym (map_append row (flat_map (λ (row : List A). row) rows))

-- rows of one width have as many cells as the product says
pub cells_count : {B : Type 0} (f : Cell → B) (w : ℕ) (rows : Table) → fields_counted w rows ≡ true → length (flat_map (map f) rows) ≡ length rows * w
unfolding flat_map
cells_count f w [] e = omega arith
cells_count f w (row ∷ rows) e =
    let (here, rest) = and_parts (eqb (length row) w) (fields_counted w rows) e in
    let n = eqb-true (length row) w here in
    let m = cells_count f w rows rest in
    omega (arith, length-append (map f row) (flat_map (map f) rows), length-map row f, suc-mul (length rows) w)

-- ---- stored

pub stored_read : (x : Cell) → cell_fits x ≡ true → cell_read (stored_cell x) ≡ x
stored_read Blank e = refl
stored_read Declined e = refl
stored_read (Present k) e = ap Present (signed_bits k (is_so (in_range k) e))

pub stored_small : (x : Cell) → cell_fits x ≡ true → cell_storable (stored_cell x) ≡ true
stored_small Blank e = refl
stored_small Declined e = refl
stored_small (Present k) e =
    and_yes (ltb (bits k) 4294967296) (ltb 0 256) (lt-ltb (bits k) 4294967296 (bits_small k (is_so (in_range k) e))) refl

-- each cell of a list comes back
all_read : (cells : List Cell) → all cell_fits cells ≡ true → map cell_read (map stored_cell cells) ≡ cells
all_read [] e = refl
all_read (x ∷ xs) e = let (here, rest) = and_parts (cell_fits x) (all cell_fits xs) e in ap₂ ◌∷◌ (stored_read x here) (all_read xs rest)

pub cells_read : (rows : Table) → cells_fit rows ≡ true → map cell_read (flat_map (map stored_cell) rows) ≡ flat_map (λ (row : Row). row) rows
unfolding flat_map
cells_read [] e = refl
cells_read (row ∷ rows) e =
    let (here, rest) = and_parts (all cell_fits row) (cells_fit rows) e in
    map_append cell_read (map stored_cell row) (flat_map (map stored_cell) rows) ∙ ap₂ ◌++◌ (all_read row here) (cells_read rows rest)

pub cells_small : (rows : Table) → cells_fit rows ≡ true → all cell_storable (flat_map (map stored_cell) rows) ≡ true
cells_small rows e = cells_all stored_cell cell_fits cell_storable stored_small rows e

pub marks_low : (rows : Table) → cells_fit rows ≡ true → marks_allowed (flat_map (map stored_cell) rows) ≡ true
marks_low rows e = cells_all stored_cell cell_fits (λ (c : RawCell). leb c.mark highest_mark) low rows e
  where
    low : (x : Cell) → cell_fits x ≡ true → leb (stored_cell x).mark highest_mark ≡ true
    low Blank e = refl
    low Declined e = refl
    low (Present k) e = refl
