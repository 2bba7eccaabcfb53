-- Document 01, Card, with the truth tests of document 02, Point 1: how many entries the card of a rule has; and the sum that is published for it.
use Rattle.std.specs.Prelude.{Bool, cond, List, [], ◌∷◌, ℕ, ◌+◌, ◌-◌, ◌*◌, eqb, leb, length}
use Rattle.tables.specs.Values.{most_entries}
use Rattle.tables.specs.declared.Quantifier.TheVariants.{Some, All}
use Rattle.rule.specs.declared.Part.{Part}
use Rattle.rule.specs.declared.Truth.{Truth}
use Rattle.rule.specs.declared.Truth.TheVariants.{False, Unknown, True}
use Rattle.rule.specs.Condition.{Atom, Join, Apply, Exists, Listed, Rule, letters}
use Rattle.rule.specs.declared.Unary.{Unary}
use Rattle.rule.specs.declared.Unary.TheVariants.{Not, Is, IsNot}
use Rattle.rule.specs.Parts.{unary_kind, list_kind, parts_of}

-- how many entries a truth test has with the n of the condition in it: IS UNKNOWN and IS NOT UNKNOWN 'use the inner condition twice, joined by one entry', so
-- the sum is '1 plus twice the inner sum there'; the others 'add no entry and nothing to the sum'
abbrev pub truth_sum : Truth → ℕ → ℕ
truth_sum True n = n
truth_sum False n = n
truth_sum Unknown n = 1 + 2 * n

-- how many entries NOT or a truth test has, those of the condition in it included, of which there are n: NOT has none of its own
abbrev pub unary_sum : Unary → ℕ → ℕ
unary_sum Not n = n
unary_sum (Is t) n = truth_sum t n
unary_sum (IsNot t) n = truth_sum t n

-- a test without inner parts has one entry, AND and OR one before those of their sides; a FROM has one for each of its letters, and a list two more, its AND or OR and
-- its comparison
unfoldable pub entry_sum : Rule → ℕ
entry_sum (Atom x) = 1
entry_sum (Join j a b) = 1 + entry_sum a + entry_sum b
entry_sum (Apply u a) = unary_sum u (entry_sum a)
entry_sum (Exists f w) = letters f + entry_sum w
entry_sum (Listed q op l s f w) = letters f + (2 + entry_sum w)

-- ---- as it is published

-- how many records of a list of parts have a kind
unfoldable pub of_kind : ℕ → List Part → ℕ
of_kind kind [] = 0
of_kind kind (p ∷ ps) = cond (eqb p.kind kind) 1 0 + of_kind kind ps

-- the parts of kind 3 and of kinds 10 to 13, which have no entry
abbrev pub without_entry : List Part → ℕ
without_entry ps =
    of_kind (unary_kind Not) ps
    + (of_kind (unary_kind (Is True)) ps + of_kind (unary_kind (IsNot True)) ps + (of_kind (unary_kind (Is False)) ps + of_kind (unary_kind (IsNot False)) ps))

-- the parts of kinds 8 and 9, which have two entries besides their first
abbrev pub of_lists : List Part → ℕ
of_lists ps = of_kind (list_kind Some) ps + of_kind (list_kind All) ps

-- document 01, over the records of a rule's parts: n = parts − (parts of kind 3) + 2 × (parts of kinds 8 and 9), where kinds 10 to 13 count as kind 3 does
abbrev pub counted_sum : Rule → ℕ
counted_sum r = let ps = parts_of r in length ps - without_entry ps + 2 * of_lists ps

-- document 02, Point 1: 'the length sum becomes 1 plus twice the inner sum there'. The 1 and the inner sum are counted already, so that a part of kind 14 or 15
-- adds the inner sum n once more
abbrev pub truth_again : Truth → ℕ → ℕ
truth_again True n = 0
truth_again False n = 0
truth_again Unknown n = n

-- NOT adds nothing
abbrev pub unary_again : Unary → ℕ → ℕ
unary_again Not n = 0
unary_again (Is t) n = truth_again t n
unary_again (IsNot t) n = truth_again t n

-- the inner sums of all parts of kinds 14 and 15, once more
unfoldable pub used_again : Rule → ℕ
used_again (Atom x) = 0
used_again (Join j a b) = used_again a + used_again b
used_again (Apply u a) = unary_again u (counted_sum a + used_again a) + used_again a
used_again (Exists f w) = used_again w
used_again (Listed q op l s f w) = used_again w

abbrev pub published_sum : Rule → ℕ
published_sum r = counted_sum r + used_again r

-- ---- refusal 13 does not apply: the sum is at most 192

unfoldable pub sum_fits : Rule → Bool
sum_fits r = leb (entry_sum r) most_entries
