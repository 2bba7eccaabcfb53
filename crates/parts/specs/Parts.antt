-- The parts of a rule in an array, as `parse` leaves them: for READ, JUDGE and CARD. The contract of a public call cites nothing of this file.
use Rattle.std.specs.Prelude.{◌≡◌, List, map, ℕ, ◌+◌, ◌<◌, get_or, take}
use Rattle.tables.specs.declared.Value.{Value}
use Rattle.tables.specs.declared.Value.TheVariants.{Constant, Column}
use Rattle.rule.specs.Condition.{Atom, Join, Apply, Exists, Listed, Rule, parts}
use Rattle.rule.specs.Parts.{Head}
use Rattle.rule.specs.Throughout.{TestThroughout}
use Rattle.rule.specs.declared.Head.TheVariants.{AtomHead, JoinHead, UnaryHead, ExistsHead, ListedHead}
use Rattle.rule.specs.declared.Part.{Part}
use Rattle.names.specs.Code.{rule_part, published}
use Rattle.names.specs.declared.RulePart.{RulePart}

-- part s is this one, whatever is taken where there is none
abbrev pub PartAt : List RulePart → ℕ → RulePart → Type 0
PartAt p s x = (d : RulePart) → get_or p s d ≡ x

-- the parts from number s on are those of a rule
unfoldable pub Stands : List RulePart → ℕ → Rule → Type 0
Stands p s (Atom x) = PartAt p s (rule_part (s + 1) (AtomHead x))
Stands p s (Join j a b) = PartAt p s (rule_part (s + (1 + parts a + parts b)) (JoinHead j)) × Stands p (s + 1) a × Stands p (s + 1 + parts a) b
Stands p s (Apply u a) = PartAt p s (rule_part (s + (1 + parts a)) (UnaryHead u)) × Stands p (s + 1) a
Stands p s (Exists f w) = PartAt p s (rule_part (s + (1 + parts w)) (ExistsHead f)) × Stands p (s + 1) w
Stands p s (Listed q op l r f w) = PartAt p s (rule_part (s + (1 + parts w)) (ListedHead q op l r f)) × Stands p (s + 1) w

-- ---- as they are published

-- the first n
abbrev pub parts_in : List RulePart → ℕ → List Part
parts_in l n = map published (take n l)

-- a value that can be published: a column has a byte
abbrev pub SmallValue : Value → Type 0
SmallValue (Constant k) = Unit {0}
SmallValue (Column l c) = c < 256

abbrev pub SmallHead : Head → Type 0
SmallHead (AtomHead x) = TestThroughout SmallValue x
SmallHead (JoinHead j) = Unit {0}
SmallHead (UnaryHead u) = Unit {0}
SmallHead (ExistsHead f) = Unit {0}
SmallHead (ListedHead q op l s f) = SmallValue l × SmallValue s

-- and a part: its end has a byte too
abbrev pub SmallPart : RulePart → Type 0
SmallPart p = (p.end < 256) × SmallHead p.head

abbrev pub SmallParts : List RulePart → ℕ → Type 0
SmallParts l n = (i : ℕ) → i < n → (d : RulePart) → SmallPart (get_or l i d)
