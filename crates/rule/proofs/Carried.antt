-- What holds of each token holds throughout the condition that is read from them: one induction over the grammar.
use mathlib.Core.List.{[], ◌∷◌}
use Prim.Native.Nat.{ℕ}
use lib.IntN.{ℤ}
use Rattle.rule.specs.declared.Token.{Token}
use Rattle.rule.specs.declared.Token.TheVariants.{Letter, Number}
use Rattle.rule.specs.Condition.{WrittenCondition}
use Rattle.rule.specs.declared.Unary.{Unary}
use Rattle.rule.specs.declared.FromClause.{FromClause}
use Rattle.rule.specs.declared.WrittenValue.{WrittenValue}
use Rattle.rule.specs.declared.WrittenValue.TheVariants.{Plain, Named}
use Rattle.rule.specs.declared.Source.{Source}
use Rattle.rule.specs.declared.Source.TheVariants.{Over}
use Rattle.rule.specs.Grammar.{Tokens, IsValue, number, column, IsFrom, single, IsTruthTest, is_truth, is_not_truth, IsCondition, one_conjunction, joined_by_or, IsConjunction, one_factor, joined_by_and, IsFactor, not_factor, one_test, IsTest, bracketed, truth_tested_lem, exists, is_null, is_not_null, is_declined, is_not_declined, compared, some_of, all_of, is_in, not_in, IsList, list}
use Rattle.rule.specs.Throughout.{FromThroughout, Throughout}

abbrev pub EachToken : (Token → Type 0) → Tokens → Type 0
EachToken P [] = Unit {0}
EachToken P (t ∷ ts) = P t × EachToken P ts

-- P of tokens, Q of values and R of tables
module _ (P : Token → Type 0) (Q : WrittenValue → Type 0) (R : Source → Type 0)
    (plain : (n : ℤ) → P (Number n) → Q (Plain n))
    (named : (x : ℕ) (n : ℤ) → P (Letter x) → P (Number n) → Q (Named x n))
    (over : (n : ℤ) (x : ℕ) → P (Number n) → P (Letter x) → R (Over n x)) where
  value_carried : {ts rest : Tokens} {v : WrittenValue} → IsValue ts v rest → EachToken P ts → Q v × EachToken P rest
  value_carried number f = (plain _ f.0, f.1)
  value_carried column f = (named _ _ f.0 f.1.1.0, f.1.1.1)

  from_carried : {ts rest : Tokens} {f : FromClause Source} → IsFrom ts f rest → EachToken P ts → FromThroughout R f × EachToken P rest
  from_carried single f = (over _ _ f.0 f.1.0, f.1.1)

  truth_carried : {ts rest : Tokens} {u : Unary} → IsTruthTest ts u rest → EachToken P ts → EachToken P rest
  truth_carried (is_truth w) f = f.1.1
  truth_carried (is_not_truth w) f = f.1.1.1

  mutual
    unfolding Throughout

    condition_carried : {ts rest : Tokens} {a : WrittenCondition} → IsCondition ts a rest → EachToken P ts → Throughout Q R a × EachToken P rest
    condition_carried (one_conjunction r) f = conjunction_carried r f
    condition_carried (joined_by_or r q) f = let x = condition_carried r f in let y = conjunction_carried q x.1.1 in ((x.0, y.0), y.1)

    conjunction_carried : {ts rest : Tokens} {a : WrittenCondition} → IsConjunction ts a rest → EachToken P ts → Throughout Q R a × EachToken P rest
    conjunction_carried (one_factor r) f = factor_carried r f
    conjunction_carried (joined_by_and r q) f = let x = conjunction_carried r f in let y = factor_carried q x.1.1 in ((x.0, y.0), y.1)

    factor_carried : {ts rest : Tokens} {a : WrittenCondition} → IsFactor ts a rest → EachToken P ts → Throughout Q R a × EachToken P rest
    factor_carried (not_factor r) f = factor_carried r f.1
    factor_carried (one_test r) f = test_carried r f

    test_carried : {ts rest : Tokens} {a : WrittenCondition} → IsTest ts a rest → EachToken P ts → Throughout Q R a × EachToken P rest
    test_carried (bracketed r) f = let x = condition_carried r f.1 in (x.0, x.1.1)
    test_carried (truth_tested_lem r t) f = let x = condition_carried r f.1 in (x.0, truth_carried t x.1.1)
    test_carried (exists g r) f = let x = from_carried g f.1.1.1 in let y = condition_carried r x.1.1 in ((x.0, y.0), y.1.1)
    test_carried (is_null v) f = let x = value_carried v f in (x.0, x.1.1.1)
    test_carried (is_not_null v) f = let x = value_carried v f in (x.0, x.1.1.1.1)
    test_carried (is_declined v) f = let x = value_carried v f in (x.0, x.1.1.1)
    test_carried (is_not_declined v) f = let x = value_carried v f in (x.0, x.1.1.1.1)
    test_carried (compared v w) f = let x = value_carried v f in let y = value_carried w x.1.1 in ((x.0, y.0), y.1)
    test_carried (some_of v r) f = let x = value_carried v f in let y = list_carried r x.1.1.1 in ((x.0, y.0, y.1, y.2), y.3)
    test_carried (all_of v r) f = let x = value_carried v f in let y = list_carried r x.1.1.1 in ((x.0, y.0, y.1, y.2), y.3)
    test_carried (is_in v r) f = let x = value_carried v f in let y = list_carried r x.1.1 in ((x.0, y.0, y.1, y.2), y.3)
    test_carried (not_in v r) f = let x = value_carried v f in let y = list_carried r x.1.1.1 in ((x.0, y.0, y.1, y.2), y.3)

    list_carried : {ts rest : Tokens} {s : WrittenValue} {g : FromClause Source} {w : WrittenCondition} → IsList ts s g w rest → EachToken P ts
        → Q s × FromThroughout R g × Throughout Q R w × EachToken P rest
    list_carried (list v g r) f =
        let x = value_carried v f.1.1 in
        let y = from_carried g x.1.1 in
        let z = condition_carried r y.1.1 in
        (x.0, y.0, z.0, z.1.1)

  pub carried : {ts rest : Tokens} {a : WrittenCondition} → IsCondition ts a rest → EachToken P ts → Throughout Q R a
  carried r f = (condition_carried r f).0
