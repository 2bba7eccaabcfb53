-- What the functions of src/ promise one another and their callers, in the terms of the code: the parts of a rule and bound letters as they are held. The
-- contract of a public call cites nothing of this file.
use Rattle.std.specs.Prelude.{◌≡◌, Bool, true, false, List, [], ◌∷◌, ◌++◌, map, ℕ, ◌+◌, ◌≤◌, max, length, take, drop, Option, Some, None}
use Rattle.std.proofs.Math.Option.{Option as MathOption, none, some}
use Rattle.tables.specs.Lists.{◌>>=◌}
use Rattle.tables.specs.Tables.{columns_of}
use Rattle.tables.specs.Values.{most_levels}
use Rattle.cells.specs.Code.{Sized}
use Rattle.rule.specs.Condition.{Condition, Atom, Join, Apply, Exists, Listed, WrittenCondition, Rule, parts, froms_deep}
use Rattle.rule.specs.Names.{most_parts, most_froms, Scope, outermost, rule_in}
use Rattle.rule.specs.Parts.{Head, part_of, parts_from}
use Rattle.rule.specs.declared.Head.{Head as HeadOver}
use Rattle.rule.specs.declared.Head.TheVariants.{AtomHead, JoinHead, UnaryHead, ExistsHead, ListedHead}
use Rattle.rule.specs.declared.Part.{Part}
use Rattle.phrases.specs.Code.{Note, noted}
use Rattle.scopes.specs.Code.{scope_in, ScopeFits}
use Rattle.scopes.specs.declared.HeldScope.{HeldScope}
use Rattle.names.specs.declared.RulePart.{RulePart}

-- ---- the parts of a rule

-- a part with this end, which says this; and as it is published
abbrev pub rule_part : ℕ → Head → RulePart
rule_part e head = record { end = e; head = head }

abbrev pub published : RulePart → Part
published p = part_of p.end p.head

-- the parts of a rule, the first of which has the number k: those of `parts_from`, before they are published (PublishedClaim)
unfoldable pub placed_from : ℕ → Rule → List RulePart
placed_from k (Atom x) = rule_part (k + 1) (AtomHead x) ∷ []
placed_from k (Join j a b) = rule_part (k + (1 + parts a + parts b)) (JoinHead j) ∷ (placed_from (k + 1) a ++ placed_from (k + 1 + parts a) b)
placed_from k (Apply u a) = rule_part (k + (1 + parts a)) (UnaryHead u) ∷ placed_from (k + 1) a
placed_from k (Exists f w) = rule_part (k + (1 + parts w)) (ExistsHead f) ∷ placed_from (k + 1) w
placed_from k (Listed q op l s f w) = rule_part (k + (1 + parts w)) (ListedHead q op l s f) ∷ placed_from (k + 1) w

-- publishing them gives the published parts
abbrev pub PublishedClaim : Type 0
PublishedClaim = (k : ℕ) (r : Rule) → map published (placed_from k r) ≡ parts_from k r

-- the first part of a whole rule is number 0
abbrev pub placed_of : Rule → List RulePart
placed_of r = placed_from 0 r

-- ---- the conditions in a condition

module _ {A S : Type 0} where
  -- what a condition says by itself
  abbrev pub own_head : Condition A S → HeadOver A S
  own_head (Atom x) = AtomHead x
  own_head (Join j a b) = JoinHead j
  own_head (Apply u a) = UnaryHead u
  own_head (Exists f w) = ExistsHead f
  own_head (Listed q op l s f w) = ListedHead q op l s f

  -- and the conditions in it
  abbrev pub inner : Condition A S → List (Condition A S)
  inner (Atom x) = []
  inner (Join j a b) = a ∷ b ∷ []
  inner (Apply u a) = a ∷ []
  inner (Exists f w) = w ∷ []
  inner (Listed q op l s f w) = w ∷ []

  -- how many there are in one that says this
  abbrev pub inner_count : HeadOver A S → ℕ
  inner_count (AtomHead x) = 0
  inner_count (JoinHead j) = 2
  inner_count (UnaryHead u) = 1
  inner_count (ExistsHead f) = 1
  inner_count (ListedHead q op l s f) = 1

  -- how many parts some conditions have together, and how many FROMs stand around one another in one of them
  abbrev pub parts_all : List (Condition A S) → ℕ
  parts_all [] = 0
  parts_all (a ∷ as') = parts a + parts_all as'

  abbrev pub deep_all : List (Condition A S) → ℕ
  deep_all [] = 0
  deep_all (a ∷ as') = max (froms_deep a) (deep_all as')

-- the notes of some conditions, one after the other; the rules that they stand for; and the parts of these, the first of which has the number k
abbrev pub noted_all : List WrittenCondition → List Note
noted_all [] = []
noted_all (a ∷ as') = noted a ++ noted_all as'

abbrev pub rules_in : List ℕ → Scope → List WrittenCondition → MathOption (List Rule)
rules_in columns scope [] = some []
rules_in columns scope (a ∷ as') = rule_in columns scope a >>= (λ r. rules_in columns scope as' >>= (λ rs. some (r ∷ rs)))

abbrev pub placed_all : ℕ → List Rule → List RulePart
placed_all k [] = []
placed_all k (r ∷ rs) = placed_from k r ++ placed_all (k + parts r) rs

-- ---- placing parts

-- the last of the first h notes are those of a condition, and there is room for its parts before number e and for the letters that it binds
pub record Placeable (file : List ℕ) (notes : List Note) (h e : ℕ) (scope : HeldScope) : Type 0 where
  pub sized : Sized file
  pub scope_fits : ScopeFits file scope
  pub notes_room : h ≤ length notes
  pub few_notes : h ≤ most_parts
  pub few_parts : e ≤ most_parts
  pub before : List Note
  pub tree : WrittenCondition
  pub notes_are : take h notes ≡ before ++ noted tree
  pub fits : parts tree ≤ e
  pub deep : scope.levels + froms_deep tree ≤ most_levels

-- they are written, from number p up to e
pub record PlacedAt (file : List ℕ) (scope : HeldScope) (tree : WrittenCondition) (old new : List RulePart) (p e : ℕ) : Type 0 where
  pub rule : Rule
  pub named : rule_in (columns_of file) (scope_in scope) tree ≡ some rule
  pub same_parts : parts rule ≡ parts tree
  pub start : p + parts tree ≡ e
  pub written : drop p new ≡ placed_from p rule ++ drop e old

-- or some name means nothing
abbrev pub PlacedAs : (file : List ℕ) (scope : HeldScope) → WrittenCondition → (old new : List RulePart) (e : ℕ) → Option ℕ → Type 0
PlacedAs file scope tree old new e (Some p) = PlacedAt file scope tree old new p e
PlacedAs file scope tree old new e None = rule_in (columns_of file) (scope_in scope) tree ≡ none

-- and so it is for whatever condition the notes are of
abbrev pub PlacedTo : (file : List ℕ) (notes : List Note) (h : ℕ) (old new : List RulePart) (e : ℕ) (scope : HeldScope) → Option ℕ → Type 0
PlacedTo file notes h old new e scope r = (q : Placeable file notes h e scope) → PlacedAs file scope q.tree old new e r

-- the same of the conditions in one that says this
pub record InnerPlaceable (file : List ℕ) (notes : List Note) (h e : ℕ) (scope : HeldScope) (head : Head) : Type 0 where
  pub sized : Sized file
  pub scope_fits : ScopeFits file scope
  pub notes_room : h ≤ length notes
  pub few_notes : h ≤ most_parts
  pub few_parts : e ≤ most_parts
  pub before : List Note
  pub trees : List WrittenCondition
  pub count : length trees ≡ inner_count head
  pub notes_are : take h notes ≡ before ++ noted_all trees
  pub fits : parts_all trees ≤ e
  pub deep : scope.levels + deep_all trees ≤ most_levels

pub record InnerPlacedAt (file : List ℕ) (scope : HeldScope) (trees : List WrittenCondition) (old new : List RulePart) (p e : ℕ) : Type 0 where
  pub rules : List Rule
  pub named : rules_in (columns_of file) (scope_in scope) trees ≡ some rules
  pub same_parts : parts_all rules ≡ parts_all trees
  pub start : p + parts_all trees ≡ e
  pub written : drop p new ≡ placed_all p rules ++ drop e old

abbrev pub InnerPlacedAs : (file : List ℕ) (scope : HeldScope) → List WrittenCondition → (old new : List RulePart) (e : ℕ) → Option ℕ → Type 0
InnerPlacedAs file scope trees old new e (Some p) = InnerPlacedAt file scope trees old new p e
InnerPlacedAs file scope trees old new e None = rules_in (columns_of file) (scope_in scope) trees ≡ none

abbrev pub InnerPlacedTo : (file : List ℕ) (notes : List Note) (h : ℕ) (old new : List RulePart) (e : ℕ) (scope : HeldScope) (head : Head) → Option ℕ → Type 0
InnerPlacedTo file notes h old new e scope head r = (q : InnerPlaceable file notes h e scope head) → InnerPlacedAs file scope q.trees old new e r

-- ---- a whole rule

-- the first n notes are those of a condition that is within the limits
pub record Nameable (file : List ℕ) (notes : List Note) (n : ℕ) : Type 0 where
  pub sized : Sized file
  pub notes_room : n ≤ length notes
  pub few_notes : n ≤ most_parts
  pub tree : WrittenCondition
  pub count : n ≡ parts tree
  pub shallow : froms_deep tree ≤ most_froms
  pub notes_are : take n notes ≡ noted tree

-- the first n parts are those of the rule that the condition stands for
pub record NamedAt (file : List ℕ) (tree : WrittenCondition) (n : ℕ) (new : List RulePart) : Type 0 where
  pub rule : Rule
  pub named : rule_in (columns_of file) outermost tree ≡ some rule
  pub written : take n new ≡ placed_of rule

-- or some name means nothing
abbrev pub NamedAs : List ℕ → WrittenCondition → ℕ → List RulePart → Bool → Type 0
NamedAs file tree n new true = NamedAt file tree n new
NamedAs file tree n new false = rule_in (columns_of file) outermost tree ≡ none

-- and so it is for whatever condition the notes are of
abbrev pub NamedTo : (file : List ℕ) (notes : List Note) (n : ℕ) → List RulePart → Bool → Type 0
NamedTo file notes n new r = (q : Nameable file notes n) → NamedAs file q.tree n new r
