-- A comparison and its number: each is had back from the other.
use mathlib.Core.Path.{◌≡◌, refl}
use Prim.Native.Nat.{ℕ, zero, suc, ◌≤◌}
use native.Mathlib.Omega.{arith}
use Rattle.tables.specs.Values.{comparison_number, comparison_of}
use Rattle.tables.specs.declared.Comparison.{Comparison}
use Rattle.tables.specs.declared.Comparison.TheVariants.{Eq, Ne, Lt, Le, Gt, Ge}

pub comparison_back : (op : Comparison) → comparison_of (comparison_number op) ≡ op
comparison_back Eq = refl
comparison_back Ne = refl
comparison_back Lt = refl
comparison_back Le = refl
comparison_back Gt = refl
comparison_back Ge = refl

pub comparison_number_lem : (n : ℕ) → 1 ≤ n → n ≤ 6 → comparison_number (comparison_of n) ≡ n
comparison_number_lem zero l h = absurd (omega arith)
comparison_number_lem (suc zero) l h = refl
comparison_number_lem (suc (suc zero)) l h = refl
comparison_number_lem (suc (suc (suc zero))) l h = refl
comparison_number_lem (suc (suc (suc (suc zero)))) l h = refl
comparison_number_lem (suc (suc (suc (suc (suc zero))))) l h = refl
comparison_number_lem (suc (suc (suc (suc (suc (suc zero)))))) l h = refl
comparison_number_lem (suc (suc (suc (suc (suc (suc (suc n))))))) l h = absurd (omega arith)
