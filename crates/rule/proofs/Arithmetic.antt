-- Arithmetic on the numbers of truth values is what Meaning gives: each value and each pair is computed.
use mathlib.Core.Path.{◌≡◌, refl, sym, ap, ◌∙◌}
use mathlib.Core.List.{[], ◌∷◌}
use Prim.Native.Nat.{ℕ, ◌≤◌}
use native.Mathlib.Omega.{arith}
use lib.ListN.{get_or}
use Rattle.tables.specs.declared.Connective.{Connective}
use Rattle.tables.specs.declared.Connective.TheVariants.{And, Or}
use Rattle.rule.specs.Truth.{truth_number, join3, deciding}
use Rattle.rule.specs.declared.Truth.{Truth}
use Rattle.rule.specs.declared.Truth.TheVariants.{False, Unknown, True}
use Rattle.rule.specs.Meaning.{meaning}
use Rattle.rule.specs.Claims.{ArithmeticClaim, RuleArithmeticClaim}

-- what holds of false, of unknown and of true holds of each value
each : (P : Truth → Type 0) → P False → P Unknown → P True → (a : Truth) → P a
each P f u t False = f
each P f u t Unknown = u
each P f u t True = t

left_decides : (j : Connective) (b : Truth) → join3 j (deciding j) b ≡ deciding j
left_decides And = each _ refl refl refl
left_decides Or = each _ refl refl refl

right_decides : (j : Connective) (a : Truth) → join3 j a (deciding j) ≡ deciding j
right_decides And = each _ refl refl refl
right_decides Or = each _ refl refl refl

pub arithmetic_claim : ArithmeticClaim
arithmetic_claim = record {
  numbers_are = refl;
  not_is = each _ refl refl refl;
  and_is = each _ (each _ refl refl refl) (each _ refl refl refl) (each _ refl refl refl);
  or_is = each _ (each _ refl refl refl) (each _ refl refl refl) (each _ refl refl refl);
  left_decides = left_decides;
  right_decides = right_decides;
}

pub rule_arithmetic_claim : RuleArithmeticClaim
unfolding meaning
rule_arithmetic_claim = record {
  not_meant = λ ts env a. arithmetic_claim.not_is (meaning ts env a);
  and_meant = λ ts env a b. arithmetic_claim.and_is (meaning ts env a) (meaning ts env b);
  or_meant = λ ts env a b. arithmetic_claim.or_is (meaning ts env a) (meaning ts env b);
}

-- ---- laws of the numbers

pub number_high : (a : Truth) → truth_number a ≤ 2
number_high = each _ (omega arith) (omega arith) (omega arith)

-- different values have different numbers
pub same_truth : (a b : Truth) → truth_number a ≡ truth_number b → a ≡ b
same_truth a b e = sym (back a) ∙ ap truth_at e ∙ back b
  where
    truth_at : ℕ → Truth
    truth_at n = get_or (False ∷ Unknown ∷ True ∷ []) n True

    back : (a : Truth) → truth_at (truth_number a) ≡ a
    back = each _ refl refl refl
