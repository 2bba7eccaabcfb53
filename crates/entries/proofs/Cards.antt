-- The card of a rule, negated or not, by what the rule is.
use Rattle.std.specs.Prelude.{◌≡◌, refl, Bool, true, false, cond, not}
use Rattle.std.proofs.Common.{ap, ℕ}
use Rattle.tables.specs.declared.Value.{Value}
use Rattle.tables.specs.declared.Comparison.{Comparison}
use Rattle.tables.specs.declared.Connective.{Connective}
use Rattle.tables.specs.declared.Connective.TheVariants.{And, Or}
use Rattle.tables.specs.declared.Quantifier.{Quantifier}
use Rattle.tables.specs.declared.Quantifier.TheVariants.{Some, All}
use Rattle.card.specs.Card.{Card, LeafEntry, PairEntry, RowEntry}
use Rattle.card.specs.declared.Leaf.TheVariants.{CompareLeaf}
use Rattle.card.specs.declared.Interpretation.{Interpretation}
use Rattle.card.specs.declared.Interpretation.TheVariants.{AsNo, AsYes}
use Rattle.rule.specs.declared.Truth.{Truth}
use Rattle.rule.specs.declared.Truth.TheVariants.{False, Unknown, True}
use Rattle.rule.specs.Condition.{Atom, Join, Apply, Exists, Listed, Rule}
use Rattle.rule.specs.declared.Test.{Test}
use Rattle.rule.specs.declared.Unary.TheVariants.{Not, Is, IsNot}
use Rattle.rule.specs.Parts.{table_of}
use Rattle.rule.specs.declared.FromClause.{FromClause}
use Rattle.rule.specs.declared.FromClause.TheVariants.{Single}
use Rattle.translation.specs.Translation.{other, other_connective, other_quantifier, other_leaf, negated, leaf_of, card_of}
use Rattle.translation.proofs.Negating.{negated_twice}
use Rattle.entries.specs.Code.{card_as, truth_as, exists_as, listed_as}

pub card_atom : (negate : Bool) (i : Interpretation) (x : Test Value) → card_as negate i (Atom x) ≡ LeafEntry (cond negate (other_leaf (leaf_of i x)) (leaf_of i x))
unfolding card_as card_of negated
card_atom false i x = refl
card_atom true i x = refl

pub card_join : (negate : Bool) (i : Interpretation) (j : Connective) (a b : Rule)
    → card_as negate i (Join j a b) ≡ PairEntry (cond negate (other_connective j) j) (card_as negate i a) (card_as negate i b)
unfolding card_as card_of negated
card_join false i j a b = refl
card_join true i j a b = refl

pub card_not : (negate : Bool) (i : Interpretation) (a : Rule) → card_as negate i (Apply Not a) ≡ card_as (not negate) (other i) a
unfolding card_as card_of
card_not false i a = refl
card_not true i a = negated_twice (card_of (other i) a)

-- a truth test: what unknown counts as around it does not matter
pub card_is : (negate : Bool) (i : Interpretation) (t : Truth) (a : Rule) → card_as negate i (Apply (Is t) a) ≡ truth_as t negate a
unfolding card_as card_of negated
card_is false i True a = refl
card_is true i True a = refl
card_is false i False a = refl
card_is true i False a = negated_twice (card_of AsYes a)
card_is false i Unknown a = refl
card_is true i Unknown a = ap (λ (c : Card). PairEntry Or c (negated (card_of AsYes a))) (negated_twice (card_of AsNo a))

pub card_is_not : (negate : Bool) (i : Interpretation) (t : Truth) (a : Rule) → card_as negate i (Apply (IsNot t) a) ≡ truth_as t (not negate) a
unfolding card_as card_of negated
card_is_not false i True a = refl
card_is_not true i True a = negated_twice (card_of AsNo a)
card_is_not false i False a = refl
card_is_not true i False a = refl
card_is_not false i Unknown a = ap (λ (c : Card). PairEntry Or c (negated (card_of AsYes a))) (negated_twice (card_of AsNo a))
card_is_not true i Unknown a = negated_twice (PairEntry And (negated (card_of AsNo a)) (card_of AsYes a))

pub card_exists : (negate : Bool) (i : Interpretation) (f : FromClause ℕ) (w : Rule) → card_as negate i (Exists f w) ≡ exists_as (table_of f) negate w
unfolding card_as card_of negated
card_exists false i (Single t) w = refl
card_exists true i (Single t) w = refl

-- SOME and ALL are negated to one another
pub card_listed : (negate : Bool) (i : Interpretation) (q : Quantifier) (op : Comparison) (l s : Value) (f : FromClause ℕ) (w : Rule)
    → card_as negate i (Listed q op l s f w)
    ≡ listed_as (cond negate (other_quantifier q) q) (table_of f) (cond negate (other_leaf (CompareLeaf i op l s)) (CompareLeaf i op l s)) w
unfolding card_as card_of negated
card_listed false i Some op l s (Single t) w = refl
card_listed true i Some op l s (Single t) w = refl
card_listed false i All op l s (Single t) w = refl
card_listed true i All op l s (Single t) w =
    ap (λ (c : Card). RowEntry Some t (PairEntry And c (LeafEntry (other_leaf (CompareLeaf i op l s))))) (negated_twice (card_of AsNo w))
