-- Sizes and cells that have room, and bytes that are below 256.
use mathlib.Core.Path.{◌≡◌}
use mathlib.Core.Bool.{Bool, true}
use mathlib.Core.List.{List, [], ◌∷◌, ◌++◌, flat_map}
use Prim.Native.Nat.{ℕ, zero, suc, ◌<◌}
use native.Mathlib.Omega.{arith}
use borrow.Author.Tests.{ltb-true}
use lib.Dec.{ltb}
use lib.ListN.{get_or}
use Rattle.tables.specs.Lists.{all}
use Rattle.tables.specs.Tables.{Size}
use Rattle.files.specs.Files.{RawCell, size_bytes, value_bytes, mark_bytes, size_storable, cell_storable}
use Rattle.tables.proofs.Tabulated.{and_parts}

-- ---- what has room

module _ (s : Size) (e : size_storable s ≡ true) where
  pub columns_small : s.columns < 256
  columns_small = ltb-true s.columns 256 (and_parts (ltb s.columns 256) (ltb s.rows 65536) e).0

  pub rows_small : s.rows < 65536
  rows_small = ltb-true s.rows 65536 (and_parts (ltb s.columns 256) (ltb s.rows 65536) e).1

module _ (c : RawCell) (e : cell_storable c ≡ true) where
  pub bits_small : c.bits < 4294967296
  bits_small = ltb-true c.bits 4294967296 (and_parts (ltb c.bits 4294967296) (ltb c.mark 256) e).0

  pub mark_small : c.mark < 256
  mark_small = ltb-true c.mark 256 (and_parts (ltb c.bits 4294967296) (ltb c.mark 256) e).1

-- ---- bytes below 256

pub record Small (bs : List ℕ) : Type 0 where
  pub each : (i : ℕ) → get_or bs i 0 < 256

small_nil : Small []
small_nil = record { each = λ i. omega arith }

pub small_cons : {b : ℕ} {bs : List ℕ} → b < 256 → Small bs → Small (b ∷ bs)
small_cons {b} {bs} h s = record { each = go }
  where
    go : (i : ℕ) → get_or (b ∷ bs) i 0 < 256
    go zero = h
    go (suc i) = s.each i

pub small_append : (as' bs : List ℕ) → Small as' → Small bs → Small (as' ++ bs)
small_append [] bs s t = t
small_append (a ∷ as') bs s t = small_cons (s.each 0) (small_append as' bs (record { each = λ i. s.each (suc i) }) t)

-- pieces of such bytes
pub small_pieces : {A : Type 0} (f : A → List ℕ) (p : A → Bool) → ((x : A) → p x ≡ true → Small (f x)) → (xs : List A) → all p xs ≡ true → Small (flat_map f xs)
unfolding flat_map
small_pieces f p each [] e = small_nil
small_pieces f p each (x ∷ xs) e =
    let (here, rest) = and_parts (p x) (all p xs) e in small_append (f x) (flat_map f xs) (each x here) (small_pieces f p each xs rest)

pub size_bytes_small : (s : Size) → size_storable s ≡ true → Small (size_bytes s)
size_bytes_small s e = small_cons (columns_small s e) (small_cons (omega arith) (small_cons (omega arith) small_nil))

pub value_bytes_small : (c : RawCell) → cell_storable c ≡ true → Small (value_bytes c)
value_bytes_small c e = small_cons (omega arith) (small_cons (omega arith) (small_cons (omega arith) (small_cons (omega arith) small_nil)))

pub mark_bytes_small : (c : RawCell) → cell_storable c ≡ true → Small (mark_bytes c)
mark_bytes_small c e = small_cons (mark_small c e) small_nil
