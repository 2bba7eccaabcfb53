-- The rows of which a test holds: exactly those, each once, rising.
use mathlib.Core.Path.{◌≡◌, refl, sym, ap, subst, ◌∙◌}
use mathlib.Core.Bool.{Bool, true, false, ◌||◌}
use mathlib.Core.List.{List, [], ◌∷◌, Memᴰ, IsChain}
use Prim.Native.Nat.{ℕ, zero, suc, ◌<◌, ◌≤◌, suc-le-suc}
use native.Mathlib.Nat.{le_of_suc-le-suc}
use native.Mathlib.Omega.{arith}
use lib.ListN.{length}
use Rattle.tables.specs.Lists.{tabulate, any, put, keep, is_there_one}
use Rattle.tables.specs.Tables.{row_count, rows_where}
use Rattle.tables.specs.Claims.{RowsClaim}
use Rattle.tables.proofs.Tabulated.{tabulate_length}

-- a number of the list is some f k, and the test holds of it
record Among (p : ℕ → Bool) (n : ℕ) (f : ℕ → ℕ) (y : ℕ) : Type 0 where
  place : ℕ
  below : place < n
  is : y ≡ f place
  holds : p y ≡ true

module _ (p : ℕ → Bool) where
  among : (n : ℕ) (f : ℕ → ℕ) (y : ℕ) → Memᴰ y (keep p (tabulate n f)) → Among p n f y
  among zero f y m = elim m [ ]
  among (suc n) f y m = go (p (f 0)) refl (λ m'. among n (λ k. f (suc k)) y m') m
    where
      later : Among p n (λ k. f (suc k)) y → Among p (suc n) f y
      later a = record { place = suc a.place; below = suc-le-suc a.below; is = a.is; holds = a.holds }

      go : (b : Bool) → p (f 0) ≡ b → (Memᴰ y (keep p (tabulate n (λ k. f (suc k)))) → Among p n (λ k. f (suc k)) y) → Memᴰ y (put b (f 0) (keep p (tabulate n (λ k. f (suc k))))) → Among p (suc n) f y
      go true e r (Memᴰ.head h) = record { place = 0; below = omega arith; is = h; holds = ap p h ∙ e }
      go true e r (Memᴰ.tail m) = later (r m)
      go false e r m = later (r m)

  listed : (n : ℕ) (f : ℕ → ℕ) (k : ℕ) → k < n → p (f k) ≡ true → Memᴰ (f k) (keep p (tabulate n f))
  listed zero f k h e = absurd (omega arith)
  listed (suc n) f zero h e = subst (λ b. Memᴰ (f 0) (put b (f 0) (keep p (tabulate n (λ k. f (suc k)))))) (sym e) (Memᴰ.head refl)
  listed (suc n) f (suc k) h e = go (p (f 0)) (listed n (λ k. f (suc k)) k (le_of_suc-le-suc h) e)
    where
      go : (b : Bool) → Memᴰ (f (suc k)) (keep p (tabulate n (λ k. f (suc k)))) → Memᴰ (f (suc k)) (put b (f 0) (keep p (tabulate n (λ k. f (suc k)))))
      go true m = Memᴰ.tail m
      go false m = m

  chain : (a : ℕ) (l : List ℕ) → ((y : ℕ) → Memᴰ y l → a < y) → IsChain ◌<◌ l → IsChain ◌<◌ (a ∷ l)
  chain a [] h c = IsChain.singleton a
  chain a (b ∷ l) h c = IsChain.cons-cons (h b (Memᴰ.head refl)) c

  rising : (n : ℕ) (f : ℕ → ℕ) → ((i j : ℕ) → i < j → f i < f j) → IsChain ◌<◌ (keep p (tabulate n f))
  rising zero f up = IsChain.nil
  rising (suc n) f up = go (p (f 0)) (rising n (λ k. f (suc k)) (λ i j h. up (suc i) (suc j) (suc-le-suc h)))
    where
      above : (y : ℕ) → Memᴰ y (keep p (tabulate n (λ k. f (suc k)))) → f 0 < y
      above y m = let a = among n (λ k. f (suc k)) y m in rw a.is (up 0 (suc a.place) (omega arith))

      go : (b : Bool) → IsChain ◌<◌ (keep p (tabulate n (λ k. f (suc k)))) → IsChain ◌<◌ (put b (f 0) (keep p (tabulate n (λ k. f (suc k)))))
      go true c = chain (f 0) (keep p (tabulate n (λ k. f (suc k)))) above c
      go false c = c

-- a test holds of some element where one is kept
pub any_kept : {A : Type 0} (p : A → Bool) (xs : List A) → any p xs ≡ is_there_one (keep p xs)
any_kept p [] = refl
any_kept p (x ∷ xs) = go (p x) (any_kept p xs)
  where
    go : (b : Bool) → any p xs ≡ is_there_one (keep p xs) → (b || any p xs) ≡ is_there_one (put b x (keep p xs))
    go true e = refl
    go false e = e

-- the rows of which a test holds are at most all
keep_few : (p : ℕ → Bool) (xs : List ℕ) → length (keep p xs) ≤ length xs
keep_few p [] = omega arith
keep_few p (x ∷ xs) = go (p x) (keep_few p xs)
  where
    go : (b : Bool) → length (keep p xs) ≤ length xs → length (put b x (keep p xs)) ≤ suc (length xs)
    go true h = omega arith
    go false h = omega arith

pub rows_few : (file : List ℕ) (p : ℕ → Bool) → length (rows_where file p) ≤ row_count file 1
unfolding rows_where
rows_few file p = omega (arith, keep_few p (tabulate (row_count file 1) (λ r. r)), tabulate_length (row_count file 1) (λ r. r))

pub rows_claim : RowsClaim
unfolding rows_where
rows_claim = record {
  exactly = λ file p row. (
    λ m. let a = among p (row_count file 1) (λ r. r) row m in (rw a.is a.below, a.holds),
    λ h. listed p (row_count file 1) (λ r. r) row h.0 h.1,
  );
  rising = λ file p. rising p (row_count file 1) (λ r. r) (λ i j h. h);
}
