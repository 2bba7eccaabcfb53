-- What the answer of a call that lends a buffer says of its own refusals.
use mathlib.Core.Path.{◌≡◌, refl, ap, ◌∙◌}
use mathlib.Core.List.{List}
use mathlib.Core.Option.{Option, none, some}
use Prim.Native.Nat.{ℕ, ◌≤◌}
use native.Mathlib.Omega.{arith}
use lib.ListN.{length}
use Rattle.tables.specs.Refusals.{Refusal, first_applying, Refused, Given, Lent, lend}
use Rattle.tables.proofs.Refusals.{lend_long, lend_refused}

module _ (rs : List Refusal) (answer buffer : List ℕ) (n : ℕ) where
  -- an answer means that none applies
  pub lent_given : Given n ≡ (lend rs answer buffer).result → first_applying rs ≡ none
  lent_given e = go (first_applying rs) refl
    where
      go : (o : Option ℕ) → first_applying rs ≡ o → o ≡ none
      go none f = refl
      go (some m) f =
          let a : Given n ≡ Refused m = e ∙ ap (λ (l : Lent ℕ). l.result) (lend_refused rs answer buffer f) in
          let z : ◌≡◌ {A = ℕ} 0 1 = cc in
          absurd (omega arith)

  -- and a refusal is the first of them, where the buffer is long enough for the answer
  pub lent_refused : (first_applying rs ≡ none → length answer ≤ length buffer) → Refused n ≡ (lend rs answer buffer).result → first_applying rs ≡ some n
  lent_refused fits e = go (first_applying rs) refl
    where
      go : (o : Option ℕ) → first_applying rs ≡ o → o ≡ some n
      go (some m) f =
          let a : Refused n ≡ Refused m = e ∙ ap (λ (l : Lent ℕ). l.result) (lend_refused rs answer buffer f) in
          let z : m ≡ n = cc in
          ap some z
      go none f =
          let a : Refused n ≡ Given (length answer) = e ∙ ap (λ (l : Lent ℕ). l.result) (lend_long rs answer buffer f (fits f)) in
          let z : ◌≡◌ {A = ℕ} 0 1 = cc in
          absurd (omega arith)
