-- Tests: one that is true, in its two forms, and taken apart.
use mathlib.Core.Path.{◌≡◌, refl, sym, subst}
use mathlib.Core.Bool.{Bool, true, false, ◌&&◌}
use Prim.Native.Nat.{ℕ, ◌≤◌}
use borrow.Author.Tests.{le-leb}
use lib.Dec.{T, leb, leb→le}
use lib.Ieee.Fits.{and_l, and_r}
use Rattle.tables.specs.Bytes.{between}

pub is_true : (t : Bool) → T t → t ≡ true
is_true true h = refl
is_true false h = absurd h

pub is_so : (t : Bool) → t ≡ true → T t
is_so t e = subst T (sym e) tt

pub refuted : (t : Bool) → (T t → ⊥) → t ≡ false
refuted true f = absurd (f tt)
refuted false f = refl

pub both : (a b : Bool) → T (a && b) → T a × T b
both a b h = (and_l a b h, and_r a b h)

pub bounds : (low high n : ℕ) → T (between low high n) → (low ≤ n) × (n ≤ high)
bounds low high n h = let (p, q) = both (leb low n) (leb n high) h in (leb→le low n p, leb→le n high q)

pub between_yes : (low high n : ℕ) → low ≤ n → n ≤ high → between low high n ≡ true
between_yes low high n p q = rw (le-leb low n p, le-leb n high q)

pub between_no : (low high n : ℕ) → (low ≤ n → n ≤ high → ⊥) → between low high n ≡ false
between_no low high n f = refuted (between low high n) (λ t. let (p, q) = bounds low high n t in f p q)
