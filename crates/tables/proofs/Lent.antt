-- What a call that lends a buffer answers says of its refusals and of the buffer.
use mathlib.Core.Path.{◌≡◌, refl, sym, ap, ◌∙◌}
use mathlib.Core.Bool.{Bool, true, false}
use mathlib.Core.List.{List, []}
use mathlib.Core.Logic.{◌⊎◌, inl, inr}
use mathlib.Core.Option.{Option, none, some}
use Prim.Native.Nat.{ℕ, ◌<◌}
use native.Mathlib.Omega.{arith}
use borrow.Author.Tests.{ltb-true, ltb-false}
use lib.Dec.{ltb}
use lib.ListN.{length, take}
use lib.Seq.{take_at}
use Rattle.tables.specs.Refusals.{Refusal, first_applying, Refused, Given, Lent, lend_unless, lend_refusals, lend}
use Rattle.tables.proofs.Refusals.{first_append, lend_long, lend_refused, lend_short}

module _ {A : Type 0} (rs : List Refusal) (answer buffer : List A) where
  -- a number is that of the first of the call's own refusals that applies, or 12 where none does and the buffer is too short
  abbrev pub GivenBy : ℕ → Type 0
  GivenBy n = (first_applying rs ≡ some n) ⊎ ((n ≡ 12) × (first_applying rs ≡ none) × (length buffer < length answer))

  pub lend_told : (n : ℕ) → (lend rs answer buffer).result ≡ Refused n → GivenBy n
  lend_told n e = go (first_applying rs) refl (ltb (length buffer) (length answer)) refl
    where
      said : {l : Lent A} → lend rs answer buffer ≡ l → l.result ≡ Refused n
      said p = sym (ap (λ (l : Lent A). l.result) p) ∙ e

      go : (o : Option ℕ) → first_applying rs ≡ o → (t : Bool) → ltb (length buffer) (length answer) ≡ t → GivenBy n
      go (some m) f t g = let same = said (lend_refused rs answer buffer f) in let z : m ≡ n = cc in inl (f ∙ ap some z)
      go none f true g =
          let h = ltb-true (length buffer) (length answer) g in
          let same = said (lend_short rs answer buffer f h) in
          let z : n ≡ 12 = cc in
          inr (z, f, h)
      go none f false g =
          let same = said (lend_long rs answer buffer f (ltb-false (length buffer) (length answer) g)) in
          let z : ◌≡◌ {A = ℕ} 0 1 = cc in
          absurd (omega arith)

  -- where none of the call's own applies, 12 alone decides
  pub lend_only : first_applying rs ≡ none → lend rs answer buffer ≡ lend [] answer buffer
  unfolding lend
  lend_only e = ap (λ (o : Option ℕ). lend_unless o answer buffer) (first_append rs (lend_refusals [] answer buffer) e)

  -- what was given stands at the start of the buffer
  pub lend_taken : (n : ℕ) → (lend rs answer buffer).result ≡ Given n → take n (lend rs answer buffer).buffer ≡ answer
  unfolding lend
  lend_taken n e = go (first_applying (lend_refusals rs answer buffer)) e
    where
      go : (o : Option ℕ) → (lend_unless o answer buffer).result ≡ Given n → take n (lend_unless o answer buffer).buffer ≡ answer
      go (some m) e = let z : ◌≡◌ {A = ℕ} 0 1 = cc in absurd (omega arith)
      go none e = let z : length answer ≡ n = cc in take_at answer _ n z

  -- a refusal leaves the buffer as it was
  pub lend_untouched : (n : ℕ) → (lend rs answer buffer).result ≡ Refused n → (lend rs answer buffer).buffer ≡ buffer
  unfolding lend
  lend_untouched n e = go (first_applying (lend_refusals rs answer buffer)) e
    where
      go : (o : Option ℕ) → (lend_unless o answer buffer).result ≡ Refused n → (lend_unless o answer buffer).buffer ≡ buffer
      go (some m) e = refl
      go none e = let z : ◌≡◌ {A = ℕ} 0 1 = cc in absurd (omega arith)
