-- Document 01, Card, with the truth tests of document 02, Point 1, and the tests for declined cells of Point 4: the card of a rule, in its two interpretations.
use Rattle.std.specs.Prelude.{ℕ}
use Rattle.tables.specs.declared.Value.{Value}
use Rattle.tables.specs.declared.Comparison.{Comparison}
use Rattle.tables.specs.declared.Comparison.TheVariants.{Eq, Ne, Lt, Le, Gt, Ge}
use Rattle.tables.specs.declared.Connective.{Connective}
use Rattle.tables.specs.declared.Connective.TheVariants.{And, Or}
use Rattle.tables.specs.declared.Quantifier.{Quantifier}
use Rattle.tables.specs.declared.Quantifier.TheVariants.{Some, All}
use Rattle.tables.specs.declared.MarkTest.{MarkTest}
use Rattle.tables.specs.declared.MarkTest.TheVariants.{Null, NotNull, IsDeclined, NotDeclined}
use Rattle.card.specs.Card.{Card, LeafEntry, PairEntry, RowEntry}
use Rattle.card.specs.declared.Leaf.{Leaf}
use Rattle.card.specs.declared.Leaf.TheVariants.{CompareLeaf, MarkLeaf}
use Rattle.card.specs.declared.Interpretation.{Interpretation}
use Rattle.card.specs.declared.Interpretation.TheVariants.{AsNo, AsYes}
use Rattle.rule.specs.declared.Truth.TheVariants.{False, Unknown, True}
use Rattle.rule.specs.Condition.{Atom, Join, Apply, Exists, Listed, Rule}
use Rattle.rule.specs.declared.Test.{Test}
use Rattle.rule.specs.declared.Test.TheVariants.{Compare, Mark}
use Rattle.rule.specs.declared.Unary.{Unary}
use Rattle.rule.specs.declared.Unary.TheVariants.{Not, Is, IsNot}
use Rattle.rule.specs.declared.FromClause.{FromClause}
use Rattle.rule.specs.declared.FromClause.TheVariants.{Single}

-- ---- the two interpretations

abbrev pub other : Interpretation → Interpretation
other AsNo = AsYes
other AsYes = AsNo

-- ---- negating: what is swapped, all the way in

abbrev pub other_connective : Connective → Connective
other_connective And = Or
other_connective Or = And

abbrev pub other_quantifier : Quantifier → Quantifier
other_quantifier Some = All
other_quantifier All = Some

-- comparisons 1 and 2, 3 and 6, 4 and 5
abbrev pub other_comparison : Comparison → Comparison
other_comparison Eq = Ne
other_comparison Ne = Eq
other_comparison Lt = Ge
other_comparison Le = Gt
other_comparison Gt = Le
other_comparison Ge = Lt

abbrev pub other_mark : MarkTest → MarkTest
other_mark Null = NotNull
other_mark NotNull = Null
other_mark IsDeclined = NotDeclined
other_mark NotDeclined = IsDeclined

-- kinds 5 and 6 with their comparisons, 7 and 8; and 9 and 10, 'which NOT swaps' (document 02, Point 4)
abbrev pub other_leaf : Leaf → Leaf
other_leaf (CompareLeaf i op l r) = CompareLeaf (other i) (other_comparison op) l r
other_leaf (MarkLeaf m l) = MarkLeaf (other_mark m) l

-- a whole card: and with or, some row with every row, and all the way in
unfoldable pub negated : Card → Card
negated (LeafEntry x) = LeafEntry (other_leaf x)
negated (PairEntry j a b) = PairEntry (other_connective j) (negated a) (negated b)
negated (RowEntry q t c) = RowEntry (other_quantifier q) t (negated c)

-- ---- the card of a rule

-- a test by the mark is never unknown, so its entry is the same in either interpretation
abbrev pub leaf_of : Interpretation → Test Value → Leaf
leaf_of i (Compare op l r) = CompareLeaf i op l r
leaf_of i (Mark m l) = MarkLeaf m l

-- the row entries of a FROM around what is asked of its rows
abbrev pub rows_card : Quantifier → FromClause ℕ → Card → Card
rows_card q (Single t) c = RowEntry q t c

-- a list: SOME asks for a row on which WHERE and comparison hold, ALL asks that on every row WHERE is not true or the comparison holds
abbrev pub list_card : Quantifier → FromClause ℕ → Card → Card → Card
list_card Some f w c = rows_card Some f (PairEntry And w c)
list_card All f w c = rows_card All f (PairEntry Or (negated w) c)

-- 'IS UNKNOWN gives and, then the negated false-interpretation, then the true-interpretation': not true, and not false
abbrev pub unknown_card : (Interpretation → Card) → Card
unknown_card inner = PairEntry And (negated (inner AsNo)) (inner AsYes)

-- the card around a condition, of which inner is the card in each interpretation: NOT takes the other interpretation, and negates that. A truth test is never
-- unknown, so its card is the same in either interpretation: IS TRUE is the false-interpretation, which says yes exactly where the condition is true, and IS NOT
-- TRUE its negation; IS NOT FALSE is the true-interpretation, which says no exactly where it is false, and IS FALSE its negation; 'IS NOT UNKNOWN is the
-- negation' of IS UNKNOWN
abbrev pub unary_card : Unary → Interpretation → (Interpretation → Card) → Card
unary_card Not i inner = negated (inner (other i))
unary_card (Is True) i inner = inner AsNo
unary_card (IsNot True) i inner = negated (inner AsNo)
unary_card (Is False) i inner = negated (inner AsYes)
unary_card (IsNot False) i inner = inner AsYes
unary_card (Is Unknown) i inner = unknown_card inner
unary_card (IsNot Unknown) i inner = negated (unknown_card inner)

-- EXISTS asks for a row of its WHERE. Every WHERE is false-interpreted, whatever is around it, before any negating.
unfoldable pub card_of : Interpretation → Rule → Card
card_of i (Atom x) = LeafEntry (leaf_of i x)
card_of i (Join j a b) = PairEntry j (card_of i a) (card_of i b)
card_of i (Apply u a) = unary_card u i (λ i'. card_of i' a)
card_of i (Exists f w) = rows_card Some f (card_of AsNo w)
card_of i (Listed q op l s f w) = list_card q f (card_of AsNo w) (LeafEntry (CompareLeaf i op l s))

-- a whole rule is false-interpreted
abbrev pub rule_card : Rule → Card
rule_card r = card_of AsNo r
