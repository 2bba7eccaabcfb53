-- Document 01, Rule text: the grammar, production by production, in its order; with the truth tests of document 02, Point 1, and the tests
-- for declined cells of Point 4.
-- `IsFactor ts a rest`: the tokens ts begin with a factor, which reads as a, and the tokens rest come after it.
use Rattle.std.specs.Prelude.{List, [], ◌∷◌, ℕ, ℤ}
use Rattle.tables.specs.declared.Comparison.{Comparison}
use Rattle.tables.specs.declared.Comparison.TheVariants.{Eq, Ne}
use Rattle.tables.specs.declared.Connective.TheVariants.{And, Or}
use Rattle.tables.specs.declared.Quantifier.TheVariants.{Some, All}
use Rattle.tables.specs.declared.MarkTest.TheVariants.{Null, NotNull, IsDeclined, NotDeclined}
use Rattle.rule.specs.Tokens.{AND, OR, NOT, EXISTS, IN, SOME, ALL, IS, NULL, SELECT, FROM, WHERE, Open, Close, Point, TRUE, FALSE, UNKNOWN, DECLINED}
use Rattle.rule.specs.declared.Token.{Token}
use Rattle.rule.specs.declared.Token.TheVariants.{Compares, Letter, Number}
use Rattle.rule.specs.declared.Truth.{Truth}
use Rattle.rule.specs.declared.Truth.TheVariants.{False, Unknown, True}
use Rattle.rule.specs.Condition.{Atom, Join, Apply, Exists, Listed, WrittenCondition}
use Rattle.rule.specs.declared.Test.TheVariants.{Compare, Mark}
use Rattle.rule.specs.declared.Unary.{Unary}
use Rattle.rule.specs.declared.Unary.TheVariants.{Not, Is, IsNot}
use Rattle.rule.specs.declared.FromClause.{FromClause}
use Rattle.rule.specs.declared.FromClause.TheVariants.{Single}
use Rattle.rule.specs.declared.WrittenValue.{WrittenValue}
use Rattle.rule.specs.declared.WrittenValue.TheVariants.{Plain, Named}
use Rattle.rule.specs.declared.Source.{Source}
use Rattle.rule.specs.declared.Source.TheVariants.{Over}

abbrev pub Tokens : Type 0
Tokens = List Token

-- value: a number, or a column
pub data IsValue : Tokens → WrittenValue → Tokens → Type 0 where
  -- number
  number : {n : ℤ} {rest : Tokens} → IsValue (Number n ∷ rest) (Plain n) rest
  -- letter . number
  column : {x : ℕ} {n : ℤ} {rest : Tokens} → IsValue (Letter x ∷ Point ∷ Number n ∷ rest) (Named x n) rest

-- what stands between FROM and WHERE, which the paper writes out in EXISTS and in a list alike: a table under a letter
pub data IsFrom : Tokens → FromClause Source → Tokens → Type 0 where
  -- number letter
  single : {n : ℤ} {x : ℕ} {rest : Tokens} → IsFrom (Number n ∷ Letter x ∷ rest) (Single (Over n x)) rest

-- the words of a truth test: TRUE, FALSE or UNKNOWN
pub data IsTruth : Token → Truth → Type 0 where
  is_true : IsTruth TRUE True
  is_false : IsTruth FALSE False
  is_unknown : IsTruth UNKNOWN Unknown

-- what may follow a bracketed condition: 'IS or IS NOT, then TRUE, FALSE or UNKNOWN'
pub data IsTruthTest : Tokens → Unary → Tokens → Type 0 where
  -- IS truth
  is_truth : {w : Token} {t : Truth} {rest : Tokens} → IsTruth w t → IsTruthTest (IS ∷ w ∷ rest) (Is t) rest
  -- IS NOT truth
  is_not_truth : {w : Token} {t : Truth} {rest : Tokens} → IsTruth w t → IsTruthTest (IS ∷ NOT ∷ w ∷ rest) (IsNot t) rest

mutual
  -- condition: conjunctions with OR between them; what stands left of the last OR is one condition
  pub data IsCondition : Tokens → WrittenCondition → Tokens → Type 0 where
    -- conjunction
    one_conjunction : {ts rest : Tokens} {a : WrittenCondition} → IsConjunction ts a rest → IsCondition ts a rest
    -- condition OR conjunction
    joined_by_or : {ts us rest : Tokens} {a b : WrittenCondition}
        → IsCondition ts a (OR ∷ us) → IsConjunction us b rest → IsCondition ts (Join Or a b) rest

  -- conjunction: factors with AND between them; what stands left of the last AND is one conjunction
  pub data IsConjunction : Tokens → WrittenCondition → Tokens → Type 0 where
    -- factor
    one_factor : {ts rest : Tokens} {a : WrittenCondition} → IsFactor ts a rest → IsConjunction ts a rest
    -- conjunction AND factor
    joined_by_and : {ts us rest : Tokens} {a b : WrittenCondition}
        → IsConjunction ts a (AND ∷ us) → IsFactor us b rest → IsConjunction ts (Join And a b) rest

  -- factor: a test, after any number of NOTs
  pub data IsFactor : Tokens → WrittenCondition → Tokens → Type 0 where
    -- NOT factor
    not_factor : {ts rest : Tokens} {a : WrittenCondition} → IsFactor ts a rest → IsFactor (NOT ∷ ts) (Apply Not a) rest
    -- test
    one_test : {ts rest : Tokens} {a : WrittenCondition} → IsTest ts a rest → IsFactor ts a rest

  -- test: the nine forms of document 01, in the paper's order, the first of which may be followed by a truth test, once; IN is SOME with =, NOT IN is ALL with <>; and
  -- the two of document 02, Point 4, beside IS NULL and IS NOT NULL: 'the new tests `value IS DECLINED` and `value IS NOT DECLINED`'
  pub data IsTest : Tokens → WrittenCondition → Tokens → Type 0 where
    -- ( condition )
    bracketed : {ts rest : Tokens} {a : WrittenCondition} → IsCondition ts a (Close ∷ rest) → IsTest (Open ∷ ts) a rest
    -- ( condition ) truth test
    truth_tested_lem : {ts us rest : Tokens} {u : Unary} {a : WrittenCondition} → IsCondition ts a (Close ∷ us) → IsTruthTest us u rest → IsTest (Open ∷ ts) (Apply u a) rest
    -- EXISTS ( FROM number letter WHERE condition )
    exists : {ts us rest : Tokens} {f : FromClause Source} {w : WrittenCondition}
        → IsFrom ts f (WHERE ∷ us) → IsCondition us w (Close ∷ rest) → IsTest (EXISTS ∷ Open ∷ FROM ∷ ts) (Exists f w) rest
    -- value IS NULL
    is_null : {ts rest : Tokens} {l : WrittenValue} → IsValue ts l (IS ∷ NULL ∷ rest) → IsTest ts (Atom (Mark Null l)) rest
    -- value IS NOT NULL
    is_not_null : {ts rest : Tokens} {l : WrittenValue} → IsValue ts l (IS ∷ NOT ∷ NULL ∷ rest) → IsTest ts (Atom (Mark NotNull l)) rest
    -- value IS DECLINED
    is_declined : {ts rest : Tokens} {l : WrittenValue} → IsValue ts l (IS ∷ DECLINED ∷ rest) → IsTest ts (Atom (Mark IsDeclined l)) rest
    -- value IS NOT DECLINED
    is_not_declined : {ts rest : Tokens} {l : WrittenValue} → IsValue ts l (IS ∷ NOT ∷ DECLINED ∷ rest) → IsTest ts (Atom (Mark NotDeclined l)) rest
    -- value comparison value
    compared : {ts us rest : Tokens} {op : Comparison} {l r : WrittenValue}
        → IsValue ts l (Compares op ∷ us) → IsValue us r rest → IsTest ts (Atom (Compare op l r)) rest
    -- value comparison SOME list
    some_of : {ts us rest : Tokens} {op : Comparison} {l s : WrittenValue} {f : FromClause Source} {w : WrittenCondition}
        → IsValue ts l (Compares op ∷ SOME ∷ us) → IsList us s f w rest → IsTest ts (Listed Some op l s f w) rest
    -- value comparison ALL list
    all_of : {ts us rest : Tokens} {op : Comparison} {l s : WrittenValue} {f : FromClause Source} {w : WrittenCondition}
        → IsValue ts l (Compares op ∷ ALL ∷ us) → IsList us s f w rest → IsTest ts (Listed All op l s f w) rest
    -- value IN list
    is_in : {ts us rest : Tokens} {l s : WrittenValue} {f : FromClause Source} {w : WrittenCondition}
        → IsValue ts l (IN ∷ us) → IsList us s f w rest → IsTest ts (Listed Some Eq l s f w) rest
    -- value NOT IN list
    not_in : {ts us rest : Tokens} {l s : WrittenValue} {f : FromClause Source} {w : WrittenCondition}
        → IsValue ts l (NOT ∷ IN ∷ us) → IsList us s f w rest → IsTest ts (Listed All Ne l s f w) rest

  -- list: a selected value, a FROM and a condition, in brackets.
  -- `IsList ts s f w rest`: the list selects s, its FROM is f and its WHERE is w.
  pub data IsList : Tokens → WrittenValue → FromClause Source → WrittenCondition → Tokens → Type 0 where
    -- ( SELECT value FROM number letter WHERE condition )
    list : {ts us vs rest : Tokens} {v : WrittenValue} {f : FromClause Source} {w : WrittenCondition}
        → IsValue ts v (FROM ∷ us) → IsFrom us f (WHERE ∷ vs) → IsCondition vs w (Close ∷ rest) → IsList (Open ∷ SELECT ∷ ts) v f w rest

-- the whole of some tokens is a condition
abbrev pub Reads : Tokens → WrittenCondition → Type 0
Reads ts a = IsCondition ts a []
