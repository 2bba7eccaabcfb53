-- Lists from a place on.
use mathlib.Core.Path.{◌≡◌, refl, sym, ap, ap₂, ◌∙◌}
use mathlib.Core.List.{List, [], ◌∷◌, ◌++◌}
use Prim.Native.Nat.{ℕ, zero, suc, ◌+◌, ◌≤◌}
use native.Mathlib.Nat.{le_of_suc-le-suc, not-suc-le-zero, add-zero}
use lib.ListN.{length, get_or, take, drop}
use lib.Seq.{get_or-drop, drop-drop, drop-append_seam}
use Rattle.tables.specs.Lists.{tabulate}

-- ---- lists

-- what stands from place i on, read at k and behind its first part
pub at : (xs : List ℕ) (i k : ℕ) (p : List ℕ) → drop i xs ≡ p → get_or xs (i + k) 0 ≡ get_or p k 0
at xs i k p h = sym (get_or-drop i xs k 0) ∙ ap (λ (l : List ℕ). get_or l k 0) h

pub at0 : (xs : List ℕ) (i : ℕ) (p : List ℕ) → drop i xs ≡ p → get_or xs i 0 ≡ get_or p 0 0
at0 xs i p h = ap (λ (k : ℕ). get_or xs k 0) (sym (add-zero i)) ∙ at xs i 0 p h

pub skip_to : (xs : List ℕ) (i j : ℕ) (p r : List ℕ) → drop i xs ≡ p ++ r → j ≡ i + length p → drop j xs ≡ r
skip_to xs i j p r h e =
    ap (λ (n : ℕ). drop n xs) e ∙ sym (drop-drop (length p) i xs) ∙ ap (drop (length p)) h ∙ drop-append_seam p r

-- the first elements, one by one
pub tabulated : (n : ℕ) (xs : List ℕ) (f : ℕ → ℕ) → n ≤ length xs → ((k : ℕ) → f k ≡ get_or xs k 0) → tabulate n f ≡ take n xs
tabulated zero xs f l h = refl
tabulated (suc n) [] f l h = absurd (not-suc-le-zero l)
tabulated (suc n) (x ∷ xs) f l h = ap₂ ◌∷◌ (h 0) (tabulated n xs (λ k. f (suc k)) (le_of_suc-le-suc l) (λ k. h (suc k)))
