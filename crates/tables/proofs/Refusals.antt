-- Laws of the first refusal that applies, and of calls that lend a buffer.
use mathlib.Core.Path.{◌≡◌, refl, ◌∙◌}
use mathlib.Core.Bool.{Bool, true, false}
use mathlib.Core.List.{List, [], ◌∷◌, ◌++◌}
use mathlib.Core.Option.{Option, none, some}
use Prim.Native.Nat.{ℕ, ◌<◌, ◌≤◌}
use native.Mathlib.Omega.{arith}
use borrow.Author.Tests.{lt-ltb, le-ltb}
use lib.ListN.{length}
use Rattle.tables.specs.Refusals.{Refusal, ◌if◌, first_applying, Refused, Given, unless, refused_with, filled_with, short_refusal, lend}

pub first_nil : first_applying [] ≡ none
unfolding first_applying
first_nil = refl

-- the first of a list does not apply, and so the rest decides
pub skipped : (n : ℕ) (b : Bool) (rs : List Refusal) → b ≡ false → first_applying ((n if b) ∷ rs) ≡ first_applying rs
unfolding first_applying
skipped n true rs e = let z : ◌≡◌ {A = ℕ} 0 1 = cc in absurd (omega arith)
skipped n false rs e = refl

pub first_none : (n : ℕ) (b : Bool) (rs : List Refusal) → b ≡ false → first_applying rs ≡ none → first_applying ((n if b) ∷ rs) ≡ none
first_none n b rs e f = skipped n b rs e ∙ f

-- the first of a list applies
pub first_one : (n : ℕ) (b : Bool) (rs : List Refusal) → b ≡ true → first_applying ((n if b) ∷ rs) ≡ some n
unfolding first_applying
first_one n true rs e = refl
first_one n false rs e = let z : ◌≡◌ {A = ℕ} 0 1 = cc in absurd (omega arith)

-- none of a list applies: neither the first nor any of the rest
pub none_first : (n : ℕ) (b : Bool) (rs : List Refusal) → first_applying ((n if b) ∷ rs) ≡ none → (b ≡ false) × (first_applying rs ≡ none)
unfolding first_applying
none_first n true rs e = let z : ◌≡◌ {A = ℕ} 0 1 = cc in absurd (omega arith)
none_first n false rs e = (refl, e)

-- what a list gives is not its first number: the first does not apply, and so the rest gives it
pub other_first : (n : ℕ) (b : Bool) (rs : List Refusal) (o : Option ℕ) → (some n ≡ o → ⊥) → first_applying ((n if b) ∷ rs) ≡ o → (b ≡ false) × (first_applying rs ≡ o)
unfolding first_applying
other_first n true rs o h e = absurd (h e)
other_first n false rs o h e = (refl, e)

-- where none of a list applies, what follows it decides
pub first_append : (rs ss : List Refusal) → first_applying rs ≡ none → first_applying (rs ++ ss) ≡ first_applying ss
first_append [] ss e = refl
first_append (r ∷ rs) ss e = let (f, g) = none_first r.number r.applies rs e in skipped r.number r.applies (rs ++ ss) f ∙ first_append rs ss g

-- and where one of a list applies, what follows it does not matter
pub first_found : (rs ss : List Refusal) {n : ℕ} → first_applying rs ≡ some n → first_applying (rs ++ ss) ≡ some n
unfolding first_applying
first_found [] ss e = let z : ◌≡◌ {A = ℕ} 0 1 = cc in absurd (omega arith)
first_found (r ∷ rs) ss {n} e = go r.applies e (λ f. first_found rs ss f)
  where
    go : (b : Bool) → elim b as (λ _. Option ℕ) [ true ↦ some r.number | false ↦ first_applying rs ] ≡ some n → (first_applying rs ≡ some n → first_applying (rs ++ ss) ≡ some n)
        → elim b as (λ _. Option ℕ) [ true ↦ some r.number | false ↦ first_applying (rs ++ ss) ] ≡ some n
    go true e k = e
    go false e k = k e

module _ {A : Type 0} (rs : List Refusal) (answer buffer : List A) (none_applies : first_applying rs ≡ none) where
  pub lend_short : length buffer < length answer → lend rs answer buffer ≡ refused_with 12 buffer
  unfolding lend first_applying
  lend_short h = rw (first_append rs (short_refusal answer buffer ∷ []) none_applies, lt-ltb (length buffer) (length answer) h)

  pub lend_long : length answer ≤ length buffer → lend rs answer buffer ≡ filled_with answer buffer
  unfolding lend first_applying
  lend_long h = rw (first_append rs (short_refusal answer buffer ∷ []) none_applies, le-ltb (length buffer) (length answer) h)

pub unless_none : {A : Type 0} (o : Option ℕ) (answer : Unit {0} → A) → o ≡ none → unless o answer ≡ Given (answer tt)
unfolding unless
unless_none o answer e = rw e

pub unless_some : {A : Type 0} (o : Option ℕ) (answer : Unit {0} → A) {n : ℕ} → o ≡ some n → unless o answer ≡ Refused n
unfolding unless
unless_some o answer e = rw e

pub lend_refused : {A : Type 0} (rs : List Refusal) (answer buffer : List A) {n : ℕ} → first_applying rs ≡ some n → lend rs answer buffer ≡ refused_with n buffer
unfolding lend
lend_refused rs answer buffer e = rw (first_found rs (short_refusal answer buffer ∷ []) e)
