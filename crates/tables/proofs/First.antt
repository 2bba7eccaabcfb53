-- The first refusal of a list that applies; where the numbers of the list rise, it is the lowest.
use mathlib.Core.Path.{◌≡◌, refl, sym, ap, ap₂, subst, ◌∙◌}
use mathlib.Core.Bool.{Bool, true, false}
use mathlib.Core.List.{List, [], ◌∷◌, ◌++◌, Memᴰ, IsChain}
use mathlib.Core.Option.{Option, none, some}
use Prim.Native.Nat.{ℕ, ◌<◌, ◌≤◌}
use native.Mathlib.Omega.{arith}
use Rattle.tables.specs.Refusals.{Refusal, ◌if◌, numbers, first_applying}
use Rattle.tables.specs.Claims.{AppliesIn, FirstIn, FirstClaim, LowestClaim}
use Rattle.tables.proofs.Refusals.{first_nil, skipped, first_one, first_none, none_first, first_append}

differ : true ≡ false → ⊥
differ e = let z : ◌≡◌ {A = ℕ} 0 1 = cc in absurd (omega arith)

-- where none is given, none applies
none_of : (rs : List Refusal) → first_applying rs ≡ none → (n : ℕ) → ¬ AppliesIn n rs
none_of [] e n x'' = elim x'' [ ]
none_of (r ∷ rs) e n (Memᴰ.head h) = differ (ap (λ (x : Refusal). x.applies) h ∙ (none_first r.number r.applies rs e).0)
none_of (r ∷ rs) e n (Memᴰ.tail m) = none_of rs (none_first r.number r.applies rs e).1 n m

of_none : (rs : List Refusal) → ((n : ℕ) → ¬ AppliesIn n rs) → first_applying rs ≡ none
of_none [] f = first_nil
of_none (r ∷ rs) f = go r.applies refl (of_none rs (λ n m. f n (Memᴰ.tail m)))
  where
    go : (b : Bool) → r.applies ≡ b → first_applying rs ≡ none → first_applying (r ∷ rs) ≡ none
    go true p k = absurd (f r.number (Memᴰ.head (ap (λ (b : Bool). r.number if b) (sym p))))
    go false p k = first_none r.number r.applies rs p k

-- a refusal that does not apply, before others of which this one is the first that applies
first_behind : (n : ℕ) (r : Refusal) (rs : List Refusal) → r.applies ≡ false → FirstIn n rs → FirstIn n (r ∷ rs)
first_behind n r rs p f = record { before = r ∷ f.before; after = f.after; stands = ap (λ rs. r ∷ rs) f.stands; none_before = none_applies }
  where
    none_applies : (m : ℕ) → ¬ AppliesIn m (r ∷ f.before)
    none_applies m (Memᴰ.head h) = differ (ap (λ (x : Refusal). x.applies) h ∙ p)
    none_applies m (Memᴰ.tail q) = f.none_before m q

-- the number that is given is that of the first refusal that applies
first_of : (rs : List Refusal) (n : ℕ) → first_applying rs ≡ some n → FirstIn n rs
first_of [] n e = let f = first_nil in let z : ◌≡◌ {A = ℕ} 0 1 = cc in absurd (omega arith)
first_of (r ∷ rs) n e = go r.applies refl (first_of rs n)
  where
    go : (b : Bool) → r.applies ≡ b → (first_applying rs ≡ some n → FirstIn n rs) → FirstIn n (r ∷ rs)
    go true p k =
        let f = first_one r.number r.applies rs p in let same : r.number ≡ n = cc in
        record { before = []; after = rs; stands = ap (λ x. x ∷ rs) (ap₂ ◌if◌ same p); none_before = none_of [] first_nil }
    go false p k = first_behind n r rs p (k (sym (skipped r.number r.applies rs p) ∙ e))

of_first : (rs : List Refusal) (n : ℕ) → FirstIn n rs → first_applying rs ≡ some n
of_first rs n f = ap first_applying f.stands ∙ first_append f.before _ (of_none f.before f.none_before) ∙ first_one n true f.after refl

pub first_claim : FirstClaim
first_claim = record { given = λ rs n. (first_of rs n, of_first rs n); none_given = λ rs. (none_of rs, of_none rs) }

-- ---- in a rising list

rest_rises : (a : ℕ) (l : List ℕ) → IsChain ◌<◌ (a ∷ l) → IsChain ◌<◌ l
rest_rises a [] c = IsChain.nil
rest_rises a (b ∷ l) (IsChain.cons-cons h c) = c

above_first : (a y : ℕ) (l : List ℕ) → IsChain ◌<◌ (a ∷ l) → Memᴰ y l → a < y
above_first a y [] _ x3 = elim x3 [ ]
above_first a y (b ∷ l) (IsChain.cons-cons h c) (Memᴰ.head e) = omega (arith, h, e)
above_first a y (b ∷ l) (IsChain.cons-cons h c) (Memᴰ.tail m) = omega (arith, h, above_first b y l c m)

number_in : (m : ℕ) (rs : List Refusal) → AppliesIn m rs → Memᴰ m (numbers rs)
number_in m [] x' = elim x' [ ]
number_in m (r ∷ rs) (Memᴰ.head e) = Memᴰ.head (ap (λ (x : Refusal). x.number) e)
number_in m (r ∷ rs) (Memᴰ.tail p) = Memᴰ.tail (number_in m rs p)

module _ (n : ℕ) (after : List Refusal) where
  applies : (before : List Refusal) → AppliesIn n (before ++ ((n if true) ∷ after))
  applies [] = Memᴰ.head refl
  applies (r ∷ before) = Memᴰ.tail (applies before)

  lowest : (before : List Refusal) (m : ℕ) → IsChain ◌<◌ (numbers (before ++ ((n if true) ∷ after))) → ((k : ℕ) → ¬ AppliesIn k before)
      → AppliesIn m (before ++ ((n if true) ∷ after)) → n ≤ m
  lowest [] m c f (Memᴰ.head h) = omega (arith, ap (λ (x : Refusal). x.number) h)
  lowest [] m c f (Memᴰ.tail p) = omega (arith, above_first n m (numbers after) c (number_in m after p))
  lowest (r ∷ before) m c f (Memᴰ.head h) = absurd (f m (Memᴰ.head h))
  lowest (r ∷ before) m c f (Memᴰ.tail p) = lowest before m (rest_rises r.number _ c) (λ k q. f k (Memᴰ.tail q)) p

first_applies : (rs : List Refusal) (n : ℕ) → FirstIn n rs → AppliesIn n rs
first_applies rs n f = subst (AppliesIn n) (sym f.stands) (applies n f.after f.before)

-- the first that applies is the lowest
module _ (rs : List Refusal) (rises : IsChain ◌<◌ (numbers rs)) where
  first_lowest : (n m : ℕ) → FirstIn n rs → AppliesIn m rs → n ≤ m
  first_lowest n m f p =
      lowest n f.after f.before m (subst (λ (l : List Refusal). IsChain ◌<◌ (numbers l)) f.stands rises) f.none_before (subst (AppliesIn m) f.stands p)

  lowest_given : (n : ℕ) → AppliesIn n rs × ((m : ℕ) → AppliesIn m rs → n ≤ m) → first_applying rs ≡ some n
  lowest_given n (p, low) = go (first_applying rs) refl
    where
      go : (o : Option ℕ) → first_applying rs ≡ o → first_applying rs ≡ some n
      go none e = absurd (none_of rs e n p)
      go (some k) e =
          let f = first_of rs k e in
          let same : k ≡ n = omega (arith, low k (first_applies rs k f), first_lowest k n f p) in
          e ∙ ap some same

pub lowest_claim : LowestClaim
lowest_claim rs n rises =
    ((λ e. let f = first_of rs n e in (first_applies rs n f, λ m p. first_lowest rs rises n m f p)), lowest_given rs rises n)
