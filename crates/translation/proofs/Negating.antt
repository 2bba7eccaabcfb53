-- Negating a card twice gives it back; and what that makes of the cards of truth tests.
use mathlib.Core.Path.{◌≡◌, refl, sym, ap, ap₂}
use Rattle.tables.specs.declared.Comparison.{Comparison}
use Rattle.tables.specs.declared.Comparison.TheVariants.{Eq, Ne, Lt, Le, Gt, Ge}
use Rattle.tables.specs.declared.Connective.{Connective}
use Rattle.tables.specs.declared.Connective.TheVariants.{And, Or}
use Rattle.tables.specs.declared.Quantifier.{Quantifier}
use Rattle.tables.specs.declared.Quantifier.TheVariants.{Some, All}
use Rattle.tables.specs.declared.MarkTest.{MarkTest}
use Rattle.tables.specs.declared.MarkTest.TheVariants.{Null, NotNull, IsDeclined, NotDeclined}
use Rattle.card.specs.Card.{Card, LeafEntry, PairEntry, RowEntry}
use Rattle.card.specs.declared.Leaf.{Leaf}
use Rattle.card.specs.declared.Leaf.TheVariants.{CompareLeaf, MarkLeaf}
use Rattle.card.specs.declared.Interpretation.{Interpretation}
use Rattle.card.specs.declared.Interpretation.TheVariants.{AsNo, AsYes}
use Rattle.rule.specs.declared.Truth.{Truth}
use Rattle.rule.specs.declared.Truth.TheVariants.{False, Unknown, True}
use Rattle.rule.specs.Condition.{Apply, Rule}
use Rattle.rule.specs.declared.Unary.TheVariants.{Is, IsNot}
use Rattle.translation.specs.Translation.{other, other_connective, other_quantifier, other_comparison, other_mark, other_leaf, negated, card_of}
use Rattle.translation.specs.Claims.{TruthCardsClaim}

other_other : (i : Interpretation) → other (other i) ≡ i
other_other AsNo = refl
other_other AsYes = refl

comparison_twice : (op : Comparison) → other_comparison (other_comparison op) ≡ op
comparison_twice Eq = refl
comparison_twice Ne = refl
comparison_twice Lt = refl
comparison_twice Le = refl
comparison_twice Gt = refl
comparison_twice Ge = refl

connective_twice : (j : Connective) → other_connective (other_connective j) ≡ j
connective_twice And = refl
connective_twice Or = refl

quantifier_twice : (q : Quantifier) → other_quantifier (other_quantifier q) ≡ q
quantifier_twice Some = refl
quantifier_twice All = refl

mark_twice : (m : MarkTest) → other_mark (other_mark m) ≡ m
mark_twice Null = refl
mark_twice NotNull = refl
mark_twice IsDeclined = refl
mark_twice NotDeclined = refl

leaf_twice : (x : Leaf) → other_leaf (other_leaf x) ≡ x
leaf_twice (CompareLeaf i op l r) = ap₂ (λ (i : Interpretation) (op : Comparison). CompareLeaf i op l r) (other_other i) (comparison_twice op)
leaf_twice (MarkLeaf m l) = ap (λ (m : MarkTest). MarkLeaf m l) (mark_twice m)

pub negated_twice : (c : Card) → negated (negated c) ≡ c
unfolding negated
negated_twice (LeafEntry x) = ap LeafEntry (leaf_twice x)
negated_twice (PairEntry j a b) = rw (connective_twice j, negated_twice a, negated_twice b)
negated_twice (RowEntry q t c) = rw (quantifier_twice q, negated_twice c)

-- ---- the truth tests' cards

either : (t : Truth) (i i' : Interpretation) (a : Rule) → card_of i (Apply (Is t) a) ≡ card_of i' (Apply (Is t) a)
unfolding card_of
either True i i' a = refl
either False i i' a = refl
either Unknown i i' a = refl

negation : (t : Truth) (i : Interpretation) (a : Rule) → card_of i (Apply (IsNot t) a) ≡ negated (card_of i (Apply (Is t) a))
unfolding card_of
negation True i a = refl
negation False i a = sym (negated_twice (card_of AsYes a))
negation Unknown i a = refl

pub truth_cards_claim : TruthCardsClaim
truth_cards_claim = record { either = either; negation = negation }
