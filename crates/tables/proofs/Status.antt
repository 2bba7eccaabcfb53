-- A status of 0 means that there is an answer: for calls whose refusals have numbers from 1 on.
use mathlib.Core.Path.{◌≡◌, refl}
use mathlib.Core.Bool.{Bool, true, false}
use mathlib.Core.List.{List, [], ◌∷◌}
use mathlib.Core.Option.{Option, none, some}
use Prim.Native.Nat.{ℕ, ◌<◌}
use native.Mathlib.Omega.{arith}
use Rattle.tables.specs.Refusals.{Refusal, ◌if◌, first_applying, unless, lend_unless}
use Rattle.tables.specs.Exports.{ZeroIsSuccess}

-- a refusal that is found has a number above 0
abbrev pub Above : Option ℕ → Type 0
Above o = (n : ℕ) → o ≡ some n → 0 < n

pub nothing_found : Above (first_applying [])
unfolding first_applying
nothing_found n e = let z : ◌≡◌ {A = ℕ} 0 1 = cc in absurd (omega arith)

pub also_above : (m : ℕ) (b : Bool) (rs : List Refusal) → 0 < m → Above (first_applying rs) → Above (first_applying ((m if b) ∷ rs))
unfolding first_applying
also_above m true rs h k n e = let z : m ≡ n = cc in omega arith
also_above m false rs h k n e = k n e

pub looked : {A : Type 0} (o : Option ℕ) (answer : Unit {0} → A) → Above o → ZeroIsSuccess (unless o answer)
unfolding unless
looked none answer h e = refl
looked (some n) answer h e = let z = h n refl in absurd (omega arith)

pub lent : {A : Type 0} (o : Option ℕ) (answer buffer : List A) → Above o → ZeroIsSuccess (lend_unless o answer buffer).result
lent none answer buffer h e = refl
lent (some n) answer buffer h e = let z = h n refl in absurd (omega arith)

-- 12 comes last
pub room_above : (short : Bool) → Above (first_applying ((12 if short) ∷ []))
room_above short = also_above 12 short [] (omega arith) nothing_found
