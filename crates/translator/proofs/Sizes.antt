-- The sizes of a card: the number of its entries, that of its tables, and their columns, one after the other.
use mathlib.Core.Path.{◌≡◌, refl, ap, ◌∙◌}
use mathlib.Core.List.{List, [], ◌∷◌, ◌++◌}
use Prim.Native.Nat.{ℕ, ◌<◌, ◌≤◌}
use native.Mathlib.Omega.{arith}
use lib.ListN.{length, set}
use Rattle.tables.specs.Lists.{placed}
use Rattle.tables.specs.Bytes.{bytes16}
use Rattle.tables.proofs.Placed.{placed_length, placed_one, placed_next}

pub put_length : (out put : List ℕ) (n : ℕ) → 2 ≤ length out → put ≡ placed out 0 (bytes16 n) → length put ≡ length out
put_length out put n h p = ap length p ∙ placed_length out 0 (bytes16 n) h

pub sizes_placed : (out put new columns : List ℕ) (n t : ℕ) → 3 ≤ length out → t ≡ length columns
    → put ≡ placed out 0 (bytes16 n) → new ≡ placed (set put 2 t) 3 columns → new ≡ placed out 0 (bytes16 n ++ (length columns ∷ columns))
sizes_placed out put new columns n t h e p q =
    let long : 2 < length put = omega (arith, put_length out put n (omega arith) p) in
    let counted : set put 2 t ≡ placed out 0 (bytes16 n ++ (length columns ∷ [])) =
    placed_one put 2 t long
    ∙ ap (λ (v : List ℕ). placed v 2 (t ∷ [])) p
    ∙ placed_next out 0 (bytes16 n) 2 (t ∷ []) (omega arith) refl
    ∙ ap (λ (v : ℕ). placed out 0 (bytes16 n ++ (v ∷ []))) e in
    q ∙ ap (λ (v : List ℕ). placed v 3 columns) counted ∙ placed_next out 0 (bytes16 n ++ (length columns ∷ [])) 3 columns (omega arith) refl
