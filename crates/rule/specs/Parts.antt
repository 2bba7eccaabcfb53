-- Document 01, Rule text: the parts of a rule, one record each, and the rule that parts stand for. The record of a part, with its fields, is the struct
-- `Part` of src/lib.rt, and a value, a tag and a number, the struct `TaggedValue`.
use Rattle.std.specs.Prelude.{Bool, true, false, cond, ◌||◌, List, [], ◌∷◌, ◌++◌, ℕ, ◌+◌, eqb, ℤ, pos, negsuc}
use Rattle.std.proofs.Math.Option.{Option, none, some}
use Rattle.tables.specs.Lists.{numbered, any}
use Rattle.tables.specs.Values.{constant_tag, unused_value, any_value, Uses, comparison_number, comparison_of}
use Rattle.tables.specs.declared.Value.{Value}
use Rattle.tables.specs.declared.Value.TheVariants.{Constant, Column}
use Rattle.tables.specs.declared.Comparison.{Comparison}
use Rattle.tables.specs.declared.Comparison.TheVariants.{Eq}
use Rattle.tables.specs.declared.Connective.{Connective}
use Rattle.tables.specs.declared.Connective.TheVariants.{And, Or}
use Rattle.tables.specs.declared.Quantifier.{Quantifier}
use Rattle.tables.specs.declared.Quantifier.TheVariants.{Some, All}
use Rattle.tables.specs.declared.MarkTest.{MarkTest}
use Rattle.tables.specs.declared.MarkTest.TheVariants.{Null, NotNull, IsDeclined, NotDeclined}
use Rattle.rule.specs.declared.TaggedValue.{TaggedValue}
use Rattle.rule.specs.declared.Part.{Part}
use Rattle.rule.specs.declared.Head.{Head as HeadOver}
use Rattle.rule.specs.declared.Head.TheVariants.{AtomHead, JoinHead, UnaryHead, ExistsHead, ListedHead}
use Rattle.rule.specs.declared.Truth.TheVariants.{False, Unknown, True}
use Rattle.rule.specs.Condition.{Atom, Join, Apply, Exists, Listed, Rule, parts}
use Rattle.rule.specs.declared.Test.TheVariants.{Compare, Mark}
use Rattle.rule.specs.declared.Unary.{Unary}
use Rattle.rule.specs.declared.Unary.TheVariants.{Not, Is, IsNot}
use Rattle.rule.specs.declared.FromClause.{FromClause}
use Rattle.rule.specs.declared.FromClause.TheVariants.{Single}

-- 'a value is a tag (255 constant, else level 0 to 3) and a number'
abbrev pub tagged_of : Value → TaggedValue
tagged_of (Constant k) = record { tag = constant_tag; number = k }
tagged_of (Column l c) = record { tag = l; number = pos c }

-- ---- the kinds

pub data Kind : Type 0 where
  JoinKind : Connective → Kind
  UnaryKind : Unary → Kind
  CompareKind : Kind
  MarkKind : MarkTest → Kind
  ExistsKind : Kind
  ListKind : Quantifier → Kind

-- 'kind (1 and, 2 or, 3 not, 4 comparison, 5 IS NULL, 6 IS NOT NULL, 7 exists, 8 some, 9 all)'; and of document 02, Point 1: 'kind 10 to 15: IS TRUE,
-- IS NOT TRUE, IS FALSE, IS NOT FALSE, IS UNKNOWN, IS NOT UNKNOWN'; and of Point 4: 'the parts get kinds 16 and 17', for IS DECLINED and IS NOT DECLINED
abbrev pub join_kind : Connective → ℕ
join_kind And = 1
join_kind Or = 2

abbrev pub unary_kind : Unary → ℕ
unary_kind Not = 3
unary_kind (Is True) = 10
unary_kind (IsNot True) = 11
unary_kind (Is False) = 12
unary_kind (IsNot False) = 13
unary_kind (Is Unknown) = 14
unary_kind (IsNot Unknown) = 15

abbrev pub compare_kind : ℕ
compare_kind = 4

abbrev pub mark_kind : MarkTest → ℕ
mark_kind Null = 5
mark_kind NotNull = 6
mark_kind IsDeclined = 16
mark_kind NotDeclined = 17

abbrev pub exists_kind : ℕ
exists_kind = 7

abbrev pub list_kind : Quantifier → ℕ
list_kind Some = 8
list_kind All = 9

abbrev pub kind_number : Kind → ℕ
kind_number (JoinKind j) = join_kind j
kind_number (UnaryKind u) = unary_kind u
kind_number CompareKind = compare_kind
kind_number (MarkKind m) = mark_kind m
kind_number ExistsKind = exists_kind
kind_number (ListKind q) = list_kind q

-- the kinds in the order of their numbers, from 1 on
abbrev pub kinds : List Kind
kinds =
    JoinKind And ∷ JoinKind Or ∷ UnaryKind Not ∷ CompareKind ∷ MarkKind Null ∷ MarkKind NotNull ∷ ExistsKind ∷ ListKind Some ∷ ListKind All
    ∷ UnaryKind (Is True) ∷ UnaryKind (IsNot True) ∷ UnaryKind (Is False) ∷ UnaryKind (IsNot False) ∷ UnaryKind (Is Unknown) ∷ UnaryKind (IsNot Unknown)
    ∷ MarkKind IsDeclined ∷ MarkKind NotDeclined ∷ []

-- the fields that a kind uses besides kind and end: AND, OR, NOT and truth tests none, a comparison its comparison and both values, IS NULL, IS DECLINED and their
-- negations the left value, EXISTS the table, a list all
abbrev pub uses : Kind → Uses
uses (JoinKind j) = record { table = false; comparison = false; left = false; right = false }
uses (UnaryKind u) = record { table = false; comparison = false; left = false; right = false }
uses CompareKind = record { table = false; comparison = true; left = true; right = true }
uses (MarkKind m) = record { table = false; comparison = false; left = true; right = false }
uses ExistsKind = record { table = true; comparison = false; left = false; right = false }
uses (ListKind q) = record { table = true; comparison = true; left = true; right = true }

-- ---- what a part says by itself

abbrev pub Head : Type 0
Head = HeadOver Value ℕ

abbrev pub kind_of : Head → Kind
kind_of (AtomHead (Compare op l r)) = CompareKind
kind_of (AtomHead (Mark m l)) = MarkKind m
kind_of (JoinHead j) = JoinKind j
kind_of (UnaryHead u) = UnaryKind u
kind_of (ExistsHead f) = ExistsKind
kind_of (ListedHead q op l s f) = ListKind q

-- the table that a FROM names, and back
abbrev pub table_of : FromClause ℕ → ℕ
table_of (Single t) = t

abbrev pub from_with : ℕ → FromClause ℕ
from_with t = Single t

-- 'unused fields are 0': the record of a part of this kind, with this end, and of comparison, FROM, left and right value what the kind uses
abbrev pub part_with : Kind → ℕ → Comparison → FromClause ℕ → Value → Value → Part
part_with k e op f l r = record {
  kind = kind_number k;
  comparison = cond (uses k).comparison (comparison_number op) 0;
  table = cond (uses k).table (table_of f) 0;
  end = e;
  left = tagged_of (cond (uses k).left l unused_value);
  right = tagged_of (cond (uses k).right r unused_value);
}

-- what stands for a FROM where the kind uses none, as Eq does for a comparison; it is not written
abbrev pub any_from : FromClause ℕ
any_from = Single 1

-- the record of a part by what it says; a list's right value is the selected one
abbrev pub part_of : ℕ → Head → Part
part_of e (AtomHead (Compare op l r)) = part_with (kind_of (AtomHead (Compare op l r))) e op any_from l r
part_of e (AtomHead (Mark m l)) = part_with (kind_of (AtomHead (Mark m l))) e Eq any_from l any_value
part_of e (JoinHead j) = part_with (kind_of (JoinHead j)) e Eq any_from any_value any_value
part_of e (UnaryHead u) = part_with (kind_of (UnaryHead u)) e Eq any_from any_value any_value
part_of e (ExistsHead f) = part_with (kind_of (ExistsHead f)) e Eq f any_value any_value
part_of e (ListedHead q op l s f) = part_with (kind_of (ListedHead q op l s f)) e op f l s

-- ---- the parts of a rule, the first of which has the number k
-- a part stands before its inner parts, and the left ones before the right ones; its end is the number of the first part behind them
unfoldable pub parts_from : ℕ → Rule → List Part
parts_from k (Atom x) = part_of (k + 1) (AtomHead x) ∷ []
parts_from k (Join j a b) = part_of (k + (1 + parts a + parts b)) (JoinHead j) ∷ (parts_from (k + 1) a ++ parts_from (k + 1 + parts a) b)
parts_from k (Apply u a) = part_of (k + (1 + parts a)) (UnaryHead u) ∷ parts_from (k + 1) a
parts_from k (Exists f w) = part_of (k + (1 + parts w)) (ExistsHead f) ∷ parts_from (k + 1) w
parts_from k (Listed q op l s f w) = part_of (k + (1 + parts w)) (ListedHead q op l s f) ∷ parts_from (k + 1) w

-- the first part of a whole rule is number 0
abbrev pub parts_of : Rule → List Part
parts_of r = parts_from 0 r

-- document 02, Point 4: whether a part, of kind 16 or 17, asks whether a cell is declined, and whether some part of a rule does (AsksClaim). To a rule without such parts (texts from before
-- Point 4 have no others) a declined cell 'is blank in every respect' (DeclinedBlankClaim)
abbrev pub part_asks_declined : Part → Bool
part_asks_declined p = eqb p.kind (mark_kind IsDeclined) || eqb p.kind (mark_kind NotDeclined)

abbrev pub asks_declined : Rule → Bool
asks_declined r = any part_asks_declined (parts_of r)

-- ---- the rule of some parts

-- a column's number, which is never negative
abbrev pub natural_of : ℤ → ℕ
natural_of (pos n) = n
natural_of (negsuc n) = 0

-- the value with a tag and a number
abbrev pub value_of : TaggedValue → Value
value_of f = cond (eqb f.tag constant_tag) (Constant f.number) (Column f.tag (natural_of f.number))

-- what a part of this kind says with these fields
abbrev pub head_with : Kind → Comparison → FromClause ℕ → Value → Value → Head
head_with (JoinKind j) op f l r = JoinHead j
head_with (UnaryKind u) op f l r = UnaryHead u
head_with CompareKind op f l r = AtomHead (Compare op l r)
head_with (MarkKind m) op f l r = AtomHead (Mark m l)
head_with ExistsKind op f l r = ExistsHead f
head_with (ListKind q) op f l r = ListedHead q op l r f

-- what a part of this record says; a number that no kind has is taken as that of NOT
abbrev pub head_of : Part → Head
head_of p =
    head_with (numbered kinds p.kind (UnaryKind Not)) (comparison_of p.comparison) (from_with p.table) (value_of p.left) (value_of p.right)

-- the rules that a run of parts makes up, one after the other: this part put before those behind it; none, if its inner parts are missing
abbrev pub onto : Head → List Rule → List Rule
onto (AtomHead x) rs = Atom x ∷ rs
onto (JoinHead j) [] = []
onto (JoinHead j) (a ∷ []) = []
onto (JoinHead j) (a ∷ b ∷ rs) = Join j a b ∷ rs
onto (UnaryHead u) [] = []
onto (UnaryHead u) (a ∷ rs) = Apply u a ∷ rs
onto (ExistsHead f) [] = []
onto (ExistsHead f) (w ∷ rs) = Exists f w ∷ rs
onto (ListedHead q op l s f) [] = []
onto (ListedHead q op l s f) (w ∷ rs) = Listed q op l s f w ∷ rs

unfoldable pub rules_of : List Part → List Rule
rules_of [] = []
rules_of (p ∷ ps) = onto (head_of p) (rules_of ps)

-- the one rule that all the parts make up
abbrev pub one_rule : List Rule → Option Rule
one_rule [] = none
one_rule (r ∷ []) = some r
one_rule (r ∷ s ∷ rs) = none

abbrev pub rule_of_parts : List Part → Option Rule
rule_of_parts ps = one_rule (rules_of ps)
