-- Parts lose nothing: the rule can be had back from its parts.
use mathlib.Core.Path.{◌≡◌, refl, sym, ap}
use mathlib.Core.List.{List, [], ◌∷◌, ◌++◌, append_assoc, append-nil}
use mathlib.Core.Option.{some}
use Prim.Native.Nat.{ℕ, ◌+◌, ◌≤◌}
use native.Mathlib.Omega.{arith}
use borrow.Author.Tests.{ne_eqb}
use lib.ListN.{length, length-append}
use Rattle.tables.specs.Lists.{numbered}
use Rattle.tables.specs.declared.Value.{Value}
use Rattle.tables.specs.declared.Value.TheVariants.{Constant, Column}
use Rattle.tables.specs.declared.Connective.TheVariants.{And, Or}
use Rattle.tables.specs.declared.Quantifier.TheVariants.{Some, All}
use Rattle.tables.specs.declared.MarkTest.TheVariants.{Null, NotNull, IsDeclined, NotDeclined}
use Rattle.tables.proofs.Values.{comparison_back}
use Rattle.rule.specs.declared.Truth.TheVariants.{False, Unknown, True}
use Rattle.rule.specs.Condition.{Atom, Join, Apply, Exists, Listed, Rule, parts, letters, froms_deep}
use Rattle.rule.specs.declared.Test.TheVariants.{Compare, Mark}
use Rattle.rule.specs.declared.Unary.TheVariants.{Not, Is, IsNot}
use Rattle.rule.specs.declared.FromClause.{FromClause}
use Rattle.rule.specs.declared.FromClause.TheVariants.{Single}
use Rattle.rule.specs.Names.{ValueScoped, Scoped}
use Rattle.rule.specs.Claims.{EndsClaim}
use Rattle.rule.specs.Parts.{tagged_of, Kind, JoinKind, UnaryKind, CompareKind, MarkKind, ExistsKind, ListKind, kind_number, kinds, table_of, from_with, parts_from, parts_of, value_of, rules_of, rule_of_parts}
use Rattle.rule.specs.declared.Part.{Part}

-- a level below 255 is not taken for a constant's tag
value_back : (n : ℕ) (v : Value) → n ≤ 255 → ValueScoped n v → value_of (tagged_of v) ≡ v
value_back n (Constant k) h s = refl
value_back n (Column l c) h s = simp (ne_eqb l 255 (omega arith))

-- a kind comes back from its number
pub kind_back : (k : Kind) → numbered kinds (kind_number k) (UnaryKind Not) ≡ k
kind_back (JoinKind And) = refl
kind_back (JoinKind Or) = refl
kind_back (UnaryKind Not) = refl
kind_back (UnaryKind (Is True)) = refl
kind_back (UnaryKind (Is False)) = refl
kind_back (UnaryKind (Is Unknown)) = refl
kind_back (UnaryKind (IsNot True)) = refl
kind_back (UnaryKind (IsNot False)) = refl
kind_back (UnaryKind (IsNot Unknown)) = refl
kind_back CompareKind = refl
kind_back (MarkKind Null) = refl
kind_back (MarkKind NotNull) = refl
kind_back (MarkKind IsDeclined) = refl
kind_back (MarkKind NotDeclined) = refl
kind_back ExistsKind = refl
kind_back (ListKind Some) = refl
kind_back (ListKind All) = refl

pub from_back : (f : FromClause ℕ) → from_with (table_of f) ≡ f
from_back (Single t) = refl

-- a rule's parts, with n levels around them, and whatever parts follow
rules_back : (r : Rule) (n k : ℕ) (ps : List Part) → n + froms_deep r ≤ 255 → Scoped n r → rules_of (parts_from k r ++ ps) ≡ r ∷ rules_of ps
unfolding rules_of parts_from Scoped froms_deep
rules_back (Atom (Compare op l r)) n k ps h s = simp (comparison_back, value_back n l (omega arith) s.0, value_back n r (omega arith) s.1)
rules_back (Atom (Mark m l)) n k ps h s = simp (kind_back (MarkKind m), value_back n l (omega arith) s)
rules_back (Join j a b) n k ps h s =
    simp (kind_back (JoinKind j), append_assoc, rules_back a n (k + 1) (parts_from (k + 1 + parts a) b ++ ps) (omega arith) s.0, rules_back b n (k + 1 + parts a) ps (omega arith) s.1)
rules_back (Apply u a) n k ps h s = simp (kind_back (UnaryKind u), rules_back a n (k + 1) ps h s)
rules_back (Exists f w) n k ps h s = simp (from_back f, rules_back w (letters f + n) (k + 1) ps (omega arith) s)
rules_back (Listed q op l v f w) n k ps h s =
    simp (kind_back (ListKind q), comparison_back, from_back f, value_back n l (omega arith) s.0, value_back (letters f + n) v (omega arith) s.1, rules_back w (letters f + n) (k + 1) ps (omega arith) s.2)

-- the rule is had back from its parts, and so two rules with the same parts are one
pub parts_back : (r : Rule) → froms_deep r ≤ 3 → Scoped 1 r → rule_of_parts (parts_of r) ≡ some r
unfolding rules_of
parts_back r h s = rw (← append-nil (parts_of r), rules_back r 1 0 [] (omega arith) s)

-- there are as many records as parts
pub parts_length : (r : Rule) (k : ℕ) → length (parts_from k r) ≡ parts r
unfolding parts_from parts
parts_length (Atom x) k = refl
parts_length (Join j a b) k = omega (arith, length-append (parts_from (k + 1) a) (parts_from (k + 1 + parts a) b), parts_length a (k + 1), parts_length b (k + 1 + parts a))
parts_length (Apply u a) k = omega (arith, parts_length a (k + 1))
parts_length (Exists f w) k = omega (arith, parts_length w (k + 1))
parts_length (Listed q op l s f w) k = omega (arith, parts_length w (k + 1))

pub ends_claim : EndsClaim
unfolding parts_from parts
ends_claim (Atom (Compare op l r)) k d = refl
ends_claim (Atom (Mark m l)) k d = refl
ends_claim (Join j a b) k d = ap (k +◌) (sym (parts_length (Join j a b) k))
ends_claim (Apply u a) k d = ap (k +◌) (sym (parts_length (Apply u a) k))
ends_claim (Exists f w) k d = ap (k +◌) (sym (parts_length (Exists f w) k))
ends_claim (Listed q op l s f w) k d = ap (k +◌) (sym (parts_length (Listed q op l s f w) k))
