-- Document 01, Rule text: letters, levels and limits; refusals 7 and 8.
use Rattle.std.specs.Prelude.{Bool, true, false, ◌&&◌, List, [], ◌∷◌, ◌++◌, ℕ, ◌+◌, ◌<◌, T, eqb, leb, ℤ, pos, negsuc, length, get_or}
use Rattle.std.proofs.Math.Option.{Option, none, some}
use Rattle.tables.specs.Lists.{numbered, only, ◌>>=◌}
use Rattle.tables.specs.Bytes.{between, in_range}
use Rattle.tables.specs.declared.Value.{Value}
use Rattle.tables.specs.declared.Value.TheVariants.{Constant, Column}
use Rattle.rule.specs.Condition.{Atom, Join, Apply, Exists, Listed, WrittenCondition, Rule, parts, letters, froms_deep}
use Rattle.rule.specs.declared.Test.{Test}
use Rattle.rule.specs.declared.Test.TheVariants.{Compare, Mark}
use Rattle.rule.specs.declared.FromClause.{FromClause}
use Rattle.rule.specs.declared.FromClause.TheVariants.{Single}
use Rattle.rule.specs.declared.WrittenValue.{WrittenValue}
use Rattle.rule.specs.declared.WrittenValue.TheVariants.{Plain, Named}
use Rattle.rule.specs.declared.Source.{Source}
use Rattle.rule.specs.declared.Source.TheVariants.{Over}

-- ---- refusal 7: the limits

abbrev pub most_parts : ℕ
most_parts = 64

abbrev pub most_froms : ℕ
most_froms = 3

-- refusal 7 does not apply: 'at most 64 parts, at most three FROMs around one another'
unfoldable pub limits_fit : WrittenCondition → Bool
limits_fit a = leb (parts a) most_parts && leb (froms_deep a) most_froms

-- ---- refusal 8: letters, tables and columns

-- a letter, the level that it takes and the table that it ranges over
pub record Binding : Type 0 where
  pub letter : ℕ
  pub level : ℕ
  pub table : ℕ

-- the bindings around a place, the nearest first
abbrev pub Scope : Type 0
Scope = List Binding

-- the judged row's letter, m, and the table that it is a row of
abbrev pub judged_letter : ℕ
judged_letter = 109

abbrev pub judged_table : ℕ
judged_table = 1

-- around a whole rule, m alone is bound: the judged row, level 0
abbrev pub outermost : Scope
outermost = record { letter = judged_letter; level = 0; table = judged_table } ∷ []

-- a FROM binds its letter one level deeper, for its WHERE and its SELECT
abbrev pub bound : Scope → ℕ → ℕ → Scope
bound scope x t = record { letter = x; level = length scope; table = t } ∷ scope

-- what a letter means: the nearest binding of it
unfoldable pub nearest : Scope → ℕ → Option Binding
nearest [] x = none
nearest (b ∷ scope) x = elim (eqb b.letter x) [ true ↦ some b | false ↦ nearest scope x ]

-- the table or column with a written number, if there is one: they are numbered from 1 to most
abbrev pub existing : ℕ → ℤ → Option ℕ
existing most (pos n) = only (between 1 most n) n
existing most (negsuc n) = none

-- columns has the columns of each table
module _ (columns : List ℕ) where
  -- a written value, if its letter is bound and its column exists: a letter's value belongs to its binding's level
  unfoldable pub value_in : Scope → WrittenValue → Option Value
  value_in scope (Plain k) = some (Constant k)
  value_in scope (Named x n) = nearest scope x >>= (λ b. existing (numbered columns b.table 0) n >>= (λ c. some (Column b.level c)))

  -- a test, if its values do
  unfoldable pub test_in : Scope → Test WrittenValue → Option (Test Value)
  test_in scope (Compare op l r) = value_in scope l >>= (λ x. value_in scope r >>= (λ y. some (Compare op x y)))
  test_in scope (Mark m l) = value_in scope l >>= (λ x. some (Mark m x))

  -- a FROM, if its table exists: what it says in a rule, and the scope of its WHERE and its SELECT
  unfoldable pub from_in : Scope → FromClause Source → Option (FromClause ℕ × Scope)
  from_in scope (Single (Over n x)) = existing (length columns) n >>= (λ t. some (Single t, bound scope x t))

  -- the rule that a written condition stands for; the value left of a list is looked up outside the list's FROM
  unfoldable pub rule_in : Scope → WrittenCondition → Option Rule
  rule_in scope (Atom x) = test_in scope x >>= (λ y. some (Atom y))
  rule_in scope (Join j a b) = rule_in scope a >>= (λ x. rule_in scope b >>= (λ y. some (Join j x y)))
  rule_in scope (Apply u a) = rule_in scope a >>= (λ x. some (Apply u x))
  rule_in scope (Exists f w) = from_in scope f >>= (λ g. rule_in g.1 w >>= (λ w'. some (Exists g.0 w')))
  rule_in scope (Listed q op l s f w) =
      from_in scope f >>= (λ g.
      value_in scope l >>= (λ l'. value_in g.1 s >>= (λ s'. rule_in g.1 w >>= (λ w'. some (Listed q op l' s' g.0 w')))))

-- ---- what a rule names exists

-- the table of each level, level 0 first, inside a FROM: one more for each of its letters
abbrev pub within : List ℕ → FromClause ℕ → List ℕ
within levels (Single t) = levels ++ (t ∷ [])

module _ (columns : List ℕ) where
  -- an existing level and column; a constant has 32 bits
  abbrev pub ValueFits : List ℕ → Value → Type 0
  ValueFits levels (Constant k) = T (in_range k)
  ValueFits levels (Column l c) = (l < length levels) × T (between 1 (numbered columns (get_or levels l 0) 0) c)

  abbrev pub TestFits : List ℕ → Test Value → Type 0
  TestFits levels (Compare op l r) = ValueFits levels l × ValueFits levels r
  TestFits levels (Mark m l) = ValueFits levels l

  -- an existing table
  abbrev pub FromFits : FromClause ℕ → Type 0
  FromFits (Single t) = T (between 1 (length columns) t)

  unfoldable pub Fits : List ℕ → Rule → Type 0
  Fits levels (Atom x) = TestFits levels x
  Fits levels (Join j a b) = Fits levels a × Fits levels b
  Fits levels (Apply u a) = Fits levels a
  Fits levels (Exists f w) = FromFits f × Fits (within levels f) w
  Fits levels (Listed q op l s f w) = FromFits f × ValueFits levels l × ValueFits (within levels f) s × Fits (within levels f) w

-- a value names a level below n
abbrev pub ValueScoped : ℕ → Value → Type 0
ValueScoped n (Constant k) = Unit {0}
ValueScoped n (Column l c) = l < n

abbrev pub TestScoped : ℕ → Test Value → Type 0
TestScoped n (Compare op l r) = ValueScoped n l × ValueScoped n r
TestScoped n (Mark m l) = ValueScoped n l

-- with n levels around it, a rule names existing levels alone
unfoldable pub Scoped : ℕ → Rule → Type 0
Scoped n (Atom x) = TestScoped n x
Scoped n (Join j a b) = Scoped n a × Scoped n b
Scoped n (Apply u a) = Scoped n a
Scoped n (Exists f w) = Scoped (letters f + n) w
Scoped n (Listed q op l s f w) = ValueScoped n l × ValueScoped (letters f + n) s × Scoped (letters f + n) w
