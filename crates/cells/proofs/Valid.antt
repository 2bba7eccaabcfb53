-- The answers of the test of a tables file.
use mathlib.Core.Path.{◌≡◌, refl, sym, ap, ◌∙◌}
use mathlib.Core.Bool.{Bool, true, false}
use Rattle.std.specs.Prelude.{Result, Ok, Err}
use mathlib.Core.List.{List}
use mathlib.Core.Option.{Option, none, some}
use Prim.Native.Nat.{ℕ}
use native.Mathlib.Omega.{arith}
use Rattle.tables.specs.Tables.{sizes_fit}
use Rattle.tables.specs.Refusals.{first_applying, Refused, Given, unless, tables_refusals, tables_call}
use Rattle.cells.specs.Reasons.{reason_number, answer_of}
use Rattle.cells.specs.Code.{Sized}
use Rattle.cells.specs.declared.Reason.{Reason}
use Rattle.cells.proofs.Cells.{sized_is}

module _ {A : Type 0} (f : Unit {0} → A) where
  -- an answer means that no refusal applied, and a refusal is the first that did
  pub given_none : {x : A} (o : Option ℕ) → Given x ≡ unless o f → o ≡ none
  unfolding unless
  given_none none e = refl
  given_none (some n) e = let z : ◌≡◌ {A = ℕ} 0 1 = cc in absurd (omega arith)

  pub refused_some : {n : ℕ} (o : Option ℕ) → Refused n ≡ unless o f → o ≡ some n
  unfolding unless
  refused_some none e = let z : ◌≡◌ {A = ℕ} 0 1 = cc in absurd (omega arith)
  refused_some (some m) e = cc

module _ (file : List ℕ) where
  refused_sizes : sizes_fit file ≡ false → Refused 1 ≡ tables_call file
  unfolding tables_call tables_refusals first_applying unless
  refused_sizes e = rw e

  valid_none : Given tt ≡ tables_call file → first_applying (tables_refusals file) ≡ none
  unfolding tables_call
  valid_none e = given_none (λ _. tt) (first_applying (tables_refusals file)) e

  invalid_some : {n : ℕ} → Refused n ≡ tables_call file → first_applying (tables_refusals file) ≡ some n
  unfolding tables_call
  invalid_some e = refused_some (λ _. tt) (first_applying (tables_refusals file)) e

  -- a valid file has its sizes
  valid_sized : Given tt ≡ tables_call file → Sized file
  valid_sized e = go (sizes_fit file) refl
    where
      go : (t : Bool) → sizes_fit file ≡ t → Sized file
      go true p = sized_is file p
      go false p = let q = refused_sizes p in let z : ◌≡◌ {A = ℕ} 0 1 = cc in absurd (omega arith)

-- what the function that tests a file answers, for those who call it
module _ (file : List ℕ) (r : Result (Unit {0}) Reason) where
  pub tables_refuse : (x : Reason) → r ≡ Err x → answer_of r ≡ tables_call file → first_applying (tables_refusals file) ≡ some (reason_number x)
  tables_refuse x e p = invalid_some file (sym (ap answer_of e) ∙ p)

  module _ {u : Unit {0}} (e : r ≡ Ok u) (p : answer_of r ≡ tables_call file) where
    valid : Given tt ≡ tables_call file
    valid = sym (ap answer_of e) ∙ p

    pub tables_pass : first_applying (tables_refusals file) ≡ none
    tables_pass = valid_none file valid

    pub checked_sized : Sized file
    checked_sized = valid_sized file valid
