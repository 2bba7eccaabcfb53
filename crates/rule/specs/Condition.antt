-- Document 01, Rule text: a condition as a tree. It has no brackets, and OR and AND join two conditions each.
use Rattle.std.specs.Prelude.{ℕ, ◌+◌, max}
use Rattle.tables.specs.declared.Value.{Value}
use Rattle.tables.specs.declared.Comparison.{Comparison}
use Rattle.tables.specs.declared.Connective.{Connective}
use Rattle.tables.specs.declared.Quantifier.{Quantifier}
use Rattle.rule.specs.declared.Test.{Test}
use Rattle.rule.specs.declared.Unary.{Unary}
use Rattle.rule.specs.declared.FromClause.{FromClause}
use Rattle.rule.specs.declared.FromClause.TheVariants.{Single}
use Rattle.rule.specs.declared.WrittenValue.{WrittenValue}
use Rattle.rule.specs.declared.Source.{Source}

-- the tests without inner parts, over operands A. Mark Null l: l IS NULL; Mark NotNull l: l IS NOT NULL; Mark IsDeclined l: l IS DECLINED;
-- Mark NotDeclined l: l IS NOT DECLINED (document 02, Point 4).

-- what a part without a FROM says of the one condition in it: NOT, or a truth test (document 02, Point 1). Is True: IS TRUE; IsNot True: IS NOT TRUE.

-- what a FROM says, over tables S: it names one

-- a condition over operands A and tables S.
-- Exists f w: EXISTS (FROM f WHERE w). Listed Some op l s f w: l op SOME (SELECT s FROM f WHERE w); Listed All: l op ALL (..).
pub data Condition (A S : Type 0) : Type 0 where
  Atom : Test A → Condition A S
  Join : Connective → Condition A S → Condition A S → Condition A S
  Apply : Unary → Condition A S → Condition A S
  Exists : FromClause S → Condition A S → Condition A S
  Listed : Quantifier → Comparison → A → A → FromClause S → Condition A S → Condition A S

-- a value as it is written: a number, or a letter and a number

-- Over n x: table n under the letter x

-- a condition as it is written; and a rule, in which letters have become levels
abbrev pub WrittenCondition : Type 0
WrittenCondition = Condition WrittenValue Source

abbrev pub Rule : Type 0
Rule = Condition Value ℕ

-- how many letters a FROM binds, each of which takes a level
abbrev pub letters : {S : Type 0} → FromClause S → ℕ
letters (Single s) = 1

module _ {A S : Type 0} where
  -- what counts as a part: each connective, each NOT, each test and each truth test; brackets do not
  unfoldable pub parts : Condition A S → ℕ
  parts (Atom x) = 1
  parts (Join j a b) = 1 + parts a + parts b
  parts (Apply u a) = 1 + parts a
  parts (Exists f w) = 1 + parts w
  parts (Listed q op l s f w) = 1 + parts w

  -- how many FROMs stand around one another, each counted as often as it has letters, which is once
  unfoldable pub froms_deep : Condition A S → ℕ
  froms_deep (Atom x) = 0
  froms_deep (Join j a b) = max (froms_deep a) (froms_deep b)
  froms_deep (Apply u a) = froms_deep a
  froms_deep (Exists f w) = letters f + froms_deep w
  froms_deep (Listed q op l s f w) = letters f + froms_deep w
