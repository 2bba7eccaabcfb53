-- The number of entries is the published sum: parts − (parts of kinds 3 and 10 to 13) + 2 × (parts of kinds 8 and 9) + (inner sums of parts of kinds 14 and 15).
use mathlib.Core.Path.{◌≡◌, refl, ap}
use mathlib.Core.Bool.{true, false}
use mathlib.Core.List.{List, [], ◌∷◌, ◌++◌}
use Prim.Native.Nat.{ℕ, ◌+◌, ◌*◌, ◌≤◌, ◌<◌}
use native.Mathlib.Omega.{arith}
use borrow.Author.Tests.{leb-true, leb-false, le-leb, lt-leb}
use Rattle.tables.specs.Values.{most_entries}
use Rattle.tables.specs.declared.Connective.{Connective}
use Rattle.tables.specs.declared.Connective.TheVariants.{And, Or}
use Rattle.tables.specs.declared.Quantifier.TheVariants.{Some, All}
use Rattle.tables.specs.declared.MarkTest.TheVariants.{Null, NotNull, IsDeclined, NotDeclined}
use Rattle.rule.specs.declared.Truth.{Truth}
use Rattle.rule.specs.declared.Truth.TheVariants.{False, Unknown, True}
use Rattle.rule.specs.Condition.{Atom, Join, Apply, Exists, Listed, Rule, parts}
use Rattle.rule.specs.declared.Test.TheVariants.{Compare, Mark}
use Rattle.rule.specs.declared.Unary.{Unary}
use Rattle.rule.specs.declared.Unary.TheVariants.{Not, Is, IsNot}
use Rattle.rule.specs.declared.FromClause.TheVariants.{Single}
use Rattle.rule.specs.Parts.{unary_kind, list_kind, part_of, parts_from}
use Rattle.rule.specs.declared.Head.TheVariants.{UnaryHead}
use Rattle.rule.specs.declared.Part.{Part}
use Rattle.rule.specs.Sum.{unary_sum, entry_sum, of_kind, without_entry, of_lists, unary_again, used_again, published_sum, sum_fits}
use Rattle.rule.specs.Claims.{PublishedSumClaim}
use Rattle.rule.proofs.Parts.{parts_length}

-- ---- a part with one condition in it: 1 if it has no entry of its own, else 0

abbrev truth_without : Truth → ℕ
truth_without True = 1
truth_without False = 1
truth_without Unknown = 0

abbrev unary_without : Unary → ℕ
unary_without Not = 1
unary_without (Is t) = truth_without t
unary_without (IsNot t) = truth_without t

-- what it has with the n entries of its condition
unary_sum_lem : (u : Unary) (n : ℕ) → (unary_without u ≤ 1) × (unary_sum u n + unary_without u ≡ 1 + n + unary_again u n)
unary_sum_lem Not n = omega arith
unary_sum_lem (Is True) n = omega arith
unary_sum_lem (Is False) n = omega arith
unary_sum_lem (Is Unknown) n = omega arith
unary_sum_lem (IsNot True) n = omega arith
unary_sum_lem (IsNot False) n = omega arith
unary_sum_lem (IsNot Unknown) n = omega arith

-- ---- the parts without an entry and the lists of a rule

unfoldable unaries : Rule → ℕ
unaries (Atom x) = 0
unaries (Join j a b) = unaries a + unaries b
unaries (Apply u a) = unary_without u + unaries a
unaries (Exists f w) = unaries w
unaries (Listed q op l s f w) = unaries w

unfoldable lists : Rule → ℕ
lists (Atom x) = 0
lists (Join j a b) = lists a + lists b
lists (Apply u a) = lists a
lists (Exists f w) = lists w
lists (Listed q op l s f w) = 1 + lists w

-- ---- counted over the records

of_both : (kind : ℕ) (ps qs : List Part) → of_kind kind (ps ++ qs) ≡ of_kind kind ps + of_kind kind qs
unfolding of_kind
of_both kind [] qs = omega arith
of_both kind (p ∷ ps) qs = omega (arith, of_both kind ps qs)

unary_both : (ps qs : List Part) → without_entry (ps ++ qs) ≡ without_entry ps + without_entry qs
unary_both ps qs =
    omega (arith, of_both (unary_kind Not) ps qs, of_both (unary_kind (Is True)) ps qs, of_both (unary_kind (IsNot True)) ps qs, of_both (unary_kind (Is False)) ps qs, of_both (unary_kind (IsNot False)) ps qs)

lists_both : (ps qs : List Part) → of_lists (ps ++ qs) ≡ of_lists ps + of_lists qs
lists_both ps qs = omega (arith, of_both (list_kind Some) ps qs, of_both (list_kind All) ps qs)

-- a part with one condition in it, before others
unary_counted : (u : Unary) (e : ℕ) (ps : List Part) → let qs = part_of e (UnaryHead u) ∷ ps in (without_entry qs ≡ unary_without u + without_entry ps) × (of_lists qs ≡ of_lists ps)
unfolding of_kind
unary_counted Not e ps = (omega arith, omega arith)
unary_counted (Is True) e ps = (omega arith, omega arith)
unary_counted (Is False) e ps = (omega arith, omega arith)
unary_counted (Is Unknown) e ps = (omega arith, omega arith)
unary_counted (IsNot True) e ps = (omega arith, omega arith)
unary_counted (IsNot False) e ps = (omega arith, omega arith)
unary_counted (IsNot Unknown) e ps = (omega arith, omega arith)

abbrev Counted : List Part → Rule → Type 0
Counted ps r = (without_entry ps ≡ unaries r) × (of_lists ps ≡ lists r)

both : (j : Connective) (a b : Rule) (k : ℕ)
    → let ps = parts_from (k + 1) a in let qs = parts_from (k + 1 + parts a) b in Counted ps a → Counted qs b → Counted (ps ++ qs) (Join j a b)
unfolding unaries lists
both j a b k f g =
    let ps = parts_from (k + 1) a in
    let qs = parts_from (k + 1 + parts a) b in
    (omega (arith, unary_both ps qs), omega (arith, lists_both ps qs))

-- the parts of these kinds are those of the rule
kinds_are : (r : Rule) (k : ℕ) → Counted (parts_from k r) r
unfolding of_kind parts_from unaries lists
kinds_are (Atom (Compare op l r)) k = (refl, refl)
kinds_are (Atom (Mark Null l)) k = (refl, refl)
kinds_are (Atom (Mark NotNull l)) k = (refl, refl)
kinds_are (Atom (Mark IsDeclined l)) k = (refl, refl)
kinds_are (Atom (Mark NotDeclined l)) k = (refl, refl)
kinds_are (Join And a b) k = let h = both And a b k (kinds_are a (k + 1)) (kinds_are b (k + 1 + parts a)) in (omega arith, omega arith)
kinds_are (Join Or a b) k = let h = both Or a b k (kinds_are a (k + 1)) (kinds_are b (k + 1 + parts a)) in (omega arith, omega arith)
kinds_are (Apply u a) k = let h = kinds_are a (k + 1) in let q = unary_counted u (k + (1 + parts a)) (parts_from (k + 1) a) in (omega arith, omega arith)
kinds_are (Exists f w) k = let h = kinds_are w (k + 1) in (omega arith, omega arith)
kinds_are (Listed Some op l s f w) k = let h = kinds_are w (k + 1) in (omega arith, omega arith)
kinds_are (Listed All op l s f w) k = let h = kinds_are w (k + 1) in (omega arith, omega arith)

-- ---- the sum

-- of a rule whose entries come to its parts with those that have none taken off, the number is the published one
published : (r : Rule) → (unaries r ≤ parts r) × (entry_sum r + unaries r ≡ parts r + 2 * lists r + used_again r) → entry_sum r ≡ published_sum r
published r h = omega (arith, h, kinds_are r 0, parts_length r 0)

-- without a difference: what the entries come to with the parts that have none
sum_is : (r : Rule) → (unaries r ≤ parts r) × (entry_sum r + unaries r ≡ parts r + 2 * lists r + used_again r)
unfolding entry_sum parts unaries lists used_again
sum_is (Atom x) = omega arith
sum_is (Join j a b) = omega (arith, sum_is a, sum_is b)
sum_is (Apply u a) = let inner = sum_is a in omega (arith, unary_sum_lem u (entry_sum a), inner, ap (unary_again u) (published a inner))
sum_is (Exists (Single t) w) = omega (arith, sum_is w)
sum_is (Listed q op l s (Single t) w) = omega (arith, sum_is w)

pub published_sum_claim : PublishedSumClaim
published_sum_claim r = published r (sum_is r)

-- ---- refusal 13

pub sum_fits_lem : (r : Rule) → entry_sum r ≤ most_entries → sum_fits r ≡ true
unfolding sum_fits
sum_fits_lem r h = le-leb (entry_sum r) most_entries h

pub fits_sum : (r : Rule) → sum_fits r ≡ true → entry_sum r ≤ most_entries
unfolding sum_fits
fits_sum r e = leb-true (entry_sum r) most_entries e

pub sum_unfits : (r : Rule) → most_entries < entry_sum r → sum_fits r ≡ false
unfolding sum_fits
sum_unfits r h = lt-leb (entry_sum r) most_entries h

pub unfits_sum : (r : Rule) → sum_fits r ≡ false → most_entries < entry_sum r
unfolding sum_fits
unfits_sum r e = leb-false (entry_sum r) most_entries e
