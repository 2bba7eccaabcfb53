-- The number of a card's entries is what the rule's definitions count.
use mathlib.Core.Path.{◌≡◌, refl, ◌∙◌}
use Prim.Native.Nat.{ℕ, ◌+◌}
use native.Mathlib.Omega.{arith}
use Rattle.tables.specs.declared.Connective.TheVariants.{And, Or}
use Rattle.tables.specs.declared.Quantifier.{Quantifier}
use Rattle.tables.specs.declared.Quantifier.TheVariants.{Some, All}
use Rattle.card.specs.Card.{Card, LeafEntry, PairEntry, RowEntry, entries}
use Rattle.card.specs.declared.Leaf.TheVariants.{CompareLeaf}
use Rattle.card.specs.declared.Interpretation.{Interpretation}
use Rattle.card.specs.declared.Interpretation.TheVariants.{AsNo, AsYes}
use Rattle.rule.specs.declared.Truth.TheVariants.{False, Unknown, True}
use Rattle.rule.specs.Condition.{Atom, Join, Apply, Exists, Listed, Rule, letters}
use Rattle.rule.specs.declared.Unary.{Unary}
use Rattle.rule.specs.declared.Unary.TheVariants.{Not, Is, IsNot}
use Rattle.rule.specs.declared.FromClause.{FromClause}
use Rattle.rule.specs.declared.FromClause.TheVariants.{Single}
use Rattle.rule.specs.Sum.{unary_sum, entry_sum}
use Rattle.translation.specs.Translation.{other, negated, rows_card, unknown_card, unary_card, card_of}
use Rattle.translation.specs.Claims.{SumClaim}

entries_negated : (c : Card) → entries (negated c) ≡ entries c
unfolding entries negated
entries_negated (LeafEntry x) = refl
entries_negated (PairEntry j a b) = simp (entries_negated a, entries_negated b)
entries_negated (RowEntry q t c) = simp (entries_negated c)

entries_rows : (q : Quantifier) (f : FromClause ℕ) (c : Card) → entries (rows_card q f c) ≡ letters f + entries c
unfolding entries
entries_rows q (Single t) c = refl

entries_unary : (u : Unary) (i : Interpretation) (c : Interpretation → Card) (n : ℕ) → ((i : Interpretation) → entries (c i) ≡ n) → entries (unary_card u i c) ≡ unary_sum u n
unfolding entries
entries_unary Not i c n h = omega (arith, entries_negated (c (other i)), h (other i))
entries_unary (Is True) i c n h = h _
entries_unary (IsNot True) i c n h = entries_negated _ ∙ h _
entries_unary (Is False) i c n h = entries_negated _ ∙ h _
entries_unary (IsNot False) i c n h = h _
entries_unary (Is Unknown) i c n h = omega (arith, entries_negated (c AsNo), h AsNo, h AsYes)
entries_unary (IsNot Unknown) i c n h = omega (arith, entries_negated (unknown_card c), entries_negated (c AsNo), h AsNo, h AsYes)

pub card_sum : (i : Interpretation) (r : Rule) → entries (card_of i r) ≡ entry_sum r
unfolding entries card_of entry_sum
card_sum i (Atom x) = refl
card_sum i (Join j a b) = omega (arith, card_sum i a, card_sum i b)
card_sum i (Apply u a) = entries_unary u i (λ i'. card_of i' a) (entry_sum a) (λ i'. card_sum i' a)
card_sum i (Exists f w) = omega (arith, entries_rows Some f (card_of AsNo w), card_sum AsNo w)
card_sum i (Listed Some op l s f w) = omega (arith, entries_rows Some f (PairEntry And (card_of AsNo w) (LeafEntry (CompareLeaf i op l s))), card_sum AsNo w)
card_sum i (Listed All op l s f w) =
    omega (arith, entries_rows All f (PairEntry Or (negated (card_of AsNo w)) (LeafEntry (CompareLeaf i op l s))), card_sum AsNo w, entries_negated (card_of AsNo w))

pub sum_claim : SumClaim
sum_claim r = card_sum AsNo r
