-- Lists by their numbers: f 0, f 1, and so on; a test of every element; a list read element by element.
use mathlib.Core.Path.{◌≡◌, refl, sym, ap, ap₂, subst, ◌∙◌}
use mathlib.Core.Bool.{Bool, true, false, ◌&&◌, and-true, and_assoc}
use mathlib.Core.List.{List, [], ◌∷◌, ◌++◌, map}
use Prim.Native.Nat.{ℕ, zero, suc, ◌+◌, ◌<◌, ◌≤◌, suc-le-suc}
use native.Mathlib.Nat.{le_of_suc-le-suc, not-suc-le-zero, add-zero}
use native.Mathlib.Omega.{arith}
use lib.Dec.{T}
use lib.ListN.{length, get_or, take, drop, take-append-drop}
use lib.Seq.{drop-cons}
use Rattle.tables.specs.Lists.{tabulate, all}
use Rattle.tables.proofs.Tests.{is_true, is_so, both, refuted}

module _ {A : Type 0} where
  pub tabulate_length : (n : ℕ) (f : ℕ → A) → length (tabulate n f) ≡ n
  tabulate_length zero f = refl
  tabulate_length (suc n) f = ap suc (tabulate_length n (λ k. f (suc k)))

  pub tabulate_at : (n : ℕ) (f : ℕ → A) (j : ℕ) (d : A) → j < n → get_or (tabulate n f) j d ≡ f j
  tabulate_at zero f j d h = absurd (not-suc-le-zero h)
  tabulate_at (suc n) f zero d h = refl
  tabulate_at (suc n) f (suc j) d h = tabulate_at n (λ k. f (suc k)) j d (le_of_suc-le-suc h)

  pub tabulate_same : (n : ℕ) (f g : ℕ → A) → ((j : ℕ) → j < n → f j ≡ g j) → tabulate n f ≡ tabulate n g
  tabulate_same zero f g h = refl
  tabulate_same (suc n) f g h = ap₂ ◌∷◌ (h 0 (omega arith)) (tabulate_same n (λ k. f (suc k)) (λ k. g (suc k)) (λ j l. h (suc j) (suc-le-suc l)))

  pub tabulate_map : {B : Type 0} (h : A → B) (n : ℕ) (f : ℕ → A) → map h (tabulate n f) ≡ tabulate n (λ j. h (f j))
  tabulate_map h zero f = refl
  tabulate_map h (suc n) f = ap (λ l. h (f 0) ∷ l) (tabulate_map h n (λ k. f (suc k)))

-- ---- a test of every element

module _ {A : Type 0} (p : A → Bool) where
  pub all_each : (n : ℕ) (f : ℕ → A) → T (all p (tabulate n f)) → (j : ℕ) → j < n → T (p (f j))
  all_each zero f t j h = absurd (not-suc-le-zero h)
  all_each (suc n) f t zero h = (both (p (f 0)) _ t).0
  all_each (suc n) f t (suc j) h = all_each n (λ k. f (suc k)) (both (p (f 0)) _ t).1 j (le_of_suc-le-suc h)

  pub all_of : (n : ℕ) (f : ℕ → A) → ((j : ℕ) → j < n → p (f j) ≡ true) → all p (tabulate n f) ≡ true
  all_of zero f h = refl
  all_of (suc n) f h = ap₂ ◌&&◌ (h 0 (omega arith)) (all_of n (λ k. f (suc k)) (λ j l. h (suc j) (suc-le-suc l)))

  pub all_no : (n : ℕ) (f : ℕ → A) (j : ℕ) → j < n → p (f j) ≡ false → all p (tabulate n f) ≡ false
  all_no n f j h e = refuted (all p (tabulate n f)) (λ t. subst T e (all_each n f t j h))

  -- one more is tested
  pub all_more : (n : ℕ) (f : ℕ → A) → all p (tabulate (suc n) f) ≡ (all p (tabulate n f) && p (f n))
  all_more zero f = and-true (p (f 0))
  all_more (suc n) f = ap (λ (t : Bool). p (f 0) && t) (all_more n (λ k. f (suc k))) ∙ sym (and_assoc (p (f 0)) _ _)

-- two tests that agree on the numbers below n
pub all_same : (n : ℕ) (p q : ℕ → Bool) → ((k : ℕ) → k < n → p k ≡ q k) → all p (tabulate n (λ k. k)) ≡ all q (tabulate n (λ k. k))
all_same n p q h = go n (λ k. k) (λ k l. h k l)
  where
    go : (n : ℕ) (f : ℕ → ℕ) → ((k : ℕ) → k < n → p (f k) ≡ q (f k)) → all p (tabulate n f) ≡ all q (tabulate n f)
    go zero f e = refl
    go (suc n) f e = ap₂ ◌&&◌ (e 0 (omega arith)) (go n (λ k. f (suc k)) (λ k l. e (suc k) (suc-le-suc l)))

-- ---- a test of every element of any list

pub and_yes : (a b : Bool) → a ≡ true → b ≡ true → (a && b) ≡ true
and_yes a b p q = ap₂ ◌&&◌ p q

pub and_parts : (a b : Bool) → (a && b) ≡ true → (a ≡ true) × (b ≡ true)
and_parts a b e = let (p, q) = both a b (is_so (a && b) e) in (is_true a p, is_true b q)

module _ {A : Type 0} (p : A → Bool) where
  pub all_at : (xs : List A) → all p xs ≡ true → (k : ℕ) (d : A) → k < length xs → p (get_or xs k d) ≡ true
  all_at [] e k d h = absurd (not-suc-le-zero h)
  all_at (x ∷ xs) e zero d h = (and_parts (p x) (all p xs) e).0
  all_at (x ∷ xs) e (suc k) d h = all_at xs (and_parts (p x) (all p xs) e).1 k d (le_of_suc-le-suc h)

  pub all_append : (xs ys : List A) → all p (xs ++ ys) ≡ (all p xs && all p ys)
  all_append [] ys = refl
  all_append (x ∷ xs) ys = ap (λ (t : Bool). p x && t) (all_append xs ys) ∙ sym (and_assoc (p x) (all p xs) (all p ys))

  -- the first elements, and the rest
  pub all_parts : (n : ℕ) (xs : List A) → all p xs ≡ true → (all p (take n xs) ≡ true) × (all p (drop n xs) ≡ true)
  all_parts n xs e =
      and_parts (all p (take n xs)) (all p (drop n xs)) (sym (all_append (take n xs) (drop n xs)) ∙ ap (all p) (take-append-drop n xs) ∙ e)

-- ---- a list read element by element

-- a test of each, by their numbers
pub all_read : {A : Type 0} (p : A → Bool) (xs : List A) (d : A) → all (λ k. p (get_or xs k d)) (tabulate (length xs) (λ k. k)) ≡ all p xs
all_read {A = A} p xs d = go xs (λ k. p (get_or xs k d)) (λ k. k) (λ k. refl)
  where
    go : (ys : List A) (q : ℕ → Bool) (g : ℕ → ℕ) → ((k : ℕ) → q (g k) ≡ p (get_or ys k d)) → all q (tabulate (length ys) g) ≡ all p ys
    go [] q g e = refl
    go (y ∷ ys) q g e = ap₂ ◌&&◌ (e 0) (go ys q (λ k. g (suc k)) (λ k. e (suc k)))

module _ {A : Type 0} where
  -- a part of it
  pub tabulate_part : (m : ℕ) (xs : List A) (a : ℕ) (d : A) → a + m ≤ length xs → tabulate m (λ i. get_or xs (a + i) d) ≡ take m (drop a xs)
  tabulate_part zero xs a d h = refl
  tabulate_part (suc m) xs a d h =
      let l : a < length xs = omega arith in
      ap₂ ◌∷◌ (ap (λ (k : ℕ). get_or xs k d) (add-zero a))
      (tabulate_same m _ _ (λ k _. let e : a + suc k ≡ suc a + k = omega arith in ap (λ (k : ℕ). get_or xs k d) e) ∙ tabulate_part m xs (suc a) d (omega arith))
      ∙ sym (ap (take (suc m)) (drop-cons xs a d l))

  pub tabulate_whole : (xs : List A) (d : A) → tabulate (length xs) (λ i. get_or xs i d) ≡ xs
  tabulate_whole [] d = refl
  tabulate_whole (x ∷ xs) d = ap (λ (l : List A). x ∷ l) (tabulate_whole xs d)

-- ---- from one test to another

-- a test that follows from another, of every element
pub all_weaker : {A : Type 0} (p q : A → Bool) → ((x : A) → p x ≡ true → q x ≡ true) → (xs : List A) → all p xs ≡ true → all q xs ≡ true
all_weaker p q f [] e = refl
all_weaker p q f (x ∷ xs) e =
    let (here, rest) = and_parts (p x) (all p xs) e in and_yes (q x) (all q xs) (f x here) (all_weaker p q f xs rest)

-- a test of what is made of each element
pub all_map : {A B : Type 0} (p : A → Bool) (q : B → Bool) (f : A → B) → ((x : A) → p x ≡ true → q (f x) ≡ true) → (xs : List A) → all p xs ≡ true
    → all q (map f xs) ≡ true
all_map p q f h [] e = refl
all_map p q f h (x ∷ xs) e =
    let (here, rest) = and_parts (p x) (all p xs) e in and_yes (q (f x)) (all q (map f xs)) (h x here) (all_map p q f h xs rest)
