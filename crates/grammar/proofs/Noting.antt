-- Parts as they are noted, one after the other.
use mathlib.Core.Path.{◌≡◌, refl, sym, ap, ◌∙◌}
use mathlib.Core.List.{List, [], ◌∷◌, ◌++◌, append_assoc, append-nil}
use Prim.Native.Nat.{ℕ, zero, suc, ◌+◌, ◌≤◌}
use native.Mathlib.Omega.{arith}
use lib.ListN.{take}
use Rattle.rule.specs.Condition.{Apply, WrittenCondition, parts, froms_deep}
use Rattle.rule.specs.declared.Unary.TheVariants.{Not}
use Rattle.rule.specs.declared.Head.TheVariants.{UnaryHead}
use Rattle.rule.specs.Names.{most_parts}
use Rattle.phrases.specs.Code.{Note, noted}
use Rattle.grammar.specs.Code.{not_notes, under_nots}

-- ---- one part after the other

-- there were w parts, and n are noted now: those parts, and then x
pub record Noted (old new : List Note) (w n : ℕ) (x : List Note) : Type 0 where
  pub first : n ≤ most_parts → take n new ≡ take w old ++ x

module _ {old mid new : List Note} {w n : ℕ} {x : List Note} where
  pub both_noted : {m : ℕ} {y : List Note} → n ≤ m → Noted old mid w n x → Noted mid new n m y → Noted old new w m (x ++ y)
  both_noted {m} {y} h p q = record { first = λ k. q.first k ∙ ap (◌++ y) (p.first (omega arith)) ∙ append_assoc (take w old) x y }

-- ---- NOTs

pub noted_nots : (k : ℕ) (a : WrittenCondition) → noted (under_nots k a) ≡ noted a ++ not_notes k
unfolding noted
noted_nots zero a = sym (append-nil (noted a))
noted_nots (suc k) a = ap (◌++ (UnaryHead Not ∷ [])) (noted_nots k a) ∙ append_assoc (noted a) (not_notes k) ((UnaryHead Not ∷ []))

pub parts_nots : (k : ℕ) (a : WrittenCondition) → parts (under_nots k a) ≡ parts a + k
unfolding parts
parts_nots zero a = omega arith
parts_nots (suc k) a = omega (arith, parts_nots k a)

pub deep_nots : (k : ℕ) (a : WrittenCondition) → froms_deep (under_nots k a) ≡ froms_deep a
unfolding froms_deep
deep_nots zero a = refl
deep_nots (suc k) a = deep_nots k a

pub nots_not : (k : ℕ) (a : WrittenCondition) → under_nots k (Apply Not a) ≡ Apply Not (under_nots k a)
nots_not zero a = refl
nots_not (suc k) a = ap (Apply Not) (nots_not k a)
