-- The grammar as a function on tokens: the reading that it has, or none. proofs/Reading.antt shows that it finds exactly the readings
-- of Grammar.antt, and that no tokens have two.
use Rattle.std.specs.Prelude.{[], ◌∷◌, ℕ, zero, suc, ◌+◌, ◌*◌, ℤ, length}
use Rattle.std.proofs.Math.Option.{Option, none, some}
use Rattle.tables.specs.Lists.{only, ◌>>=◌, ◌<|>◌}
use Rattle.tables.specs.declared.Comparison.{Comparison}
use Rattle.tables.specs.declared.Comparison.TheVariants.{Eq, Ne}
use Rattle.tables.specs.declared.Connective.{Connective}
use Rattle.tables.specs.declared.Connective.TheVariants.{And, Or}
use Rattle.tables.specs.declared.Quantifier.{Quantifier}
use Rattle.tables.specs.declared.Quantifier.TheVariants.{Some, All}
use Rattle.tables.specs.declared.MarkTest.TheVariants.{Null, NotNull, IsDeclined, NotDeclined}
use Rattle.rule.specs.Tokens.{is_fixed, AND, OR, NOT, EXISTS, IN, SOME, ALL, IS, NULL, SELECT, FROM, WHERE, Open, Close, Point, TRUE, FALSE, UNKNOWN, DECLINED}
use Rattle.rule.specs.declared.Token.{Token}
use Rattle.rule.specs.declared.Token.TheVariants.{Fixed, Compares, Letter, Number}
use Rattle.rule.specs.declared.Truth.{Truth}
use Rattle.rule.specs.declared.Truth.TheVariants.{False, Unknown, True}
use Rattle.rule.specs.Condition.{Atom, Join, Apply, Exists, Listed, WrittenCondition}
use Rattle.rule.specs.declared.Test.TheVariants.{Compare, Mark}
use Rattle.rule.specs.declared.Unary.{Unary}
use Rattle.rule.specs.declared.Unary.TheVariants.{Not, Is, IsNot}
use Rattle.rule.specs.declared.FromClause.{FromClause}
use Rattle.rule.specs.declared.FromClause.TheVariants.{Single}
use Rattle.rule.specs.declared.WrittenValue.{WrittenValue}
use Rattle.rule.specs.declared.WrittenValue.TheVariants.{Plain, Named}
use Rattle.rule.specs.declared.Source.{Source}
use Rattle.rule.specs.declared.Source.TheVariants.{Over}
use Rattle.rule.specs.declared.Word.{Word}
use Rattle.rule.specs.declared.Word.TheVariants.{And as AndWord, Or as OrWord}
use Rattle.rule.specs.Grammar.{Tokens}

-- ---- one token

-- the tokens after a fixed one
unfoldable pub expect : Token → Tokens → Option Tokens
expect t [] = none
expect t (Fixed k ∷ ts) = only (is_fixed t k) ts
expect t (Compares op ∷ ts) = none
expect t (Letter x ∷ ts) = none
expect t (Number n ∷ ts) = none

unfoldable pub read_number : Tokens → Option (ℤ × Tokens)
read_number [] = none
read_number (Fixed k ∷ ts) = none
read_number (Compares op ∷ ts) = none
read_number (Letter x ∷ ts) = none
read_number (Number n ∷ ts) = some (n, ts)

unfoldable pub read_letter : Tokens → Option (ℕ × Tokens)
read_letter [] = none
read_letter (Fixed k ∷ ts) = none
read_letter (Compares op ∷ ts) = none
read_letter (Letter x ∷ ts) = some (x, ts)
read_letter (Number n ∷ ts) = none

unfoldable pub read_comparison : Tokens → Option (Comparison × Tokens)
read_comparison [] = none
read_comparison (Fixed k ∷ ts) = none
read_comparison (Compares op ∷ ts) = some (op, ts)
read_comparison (Letter x ∷ ts) = none
read_comparison (Number n ∷ ts) = none

-- ---- runs of tokens without a condition in them

unfoldable pub read_value : Tokens → Option (WrittenValue × Tokens)
read_value [] = none
read_value (Fixed k ∷ ts) = none
read_value (Compares op ∷ ts) = none
read_value (Letter x ∷ ts) = expect Point ts >>= (λ us. read_number us >>= (λ n. some (Named x n.0, n.1)))
read_value (Number n ∷ ts) = some (Plain n, ts)

-- FROM number letter WHERE
unfoldable pub read_from : Tokens → Option (FromClause Source × Tokens)
read_from ts =
    expect FROM ts >>= (λ us. read_number us >>= (λ n. read_letter n.1 >>= (λ x. expect WHERE x.1 >>= (λ vs. some (Single (Over n.0 x.0), vs)))))

-- what stands before the condition that a test holds
pub data Opening : Type 0 where
  Bracket : Opening
  OfExists : FromClause Source → Opening
  OfList : Quantifier → Comparison → WrittenValue → WrittenValue → FromClause Source → Opening

-- the test, once that condition is read
abbrev pub closed : Opening → WrittenCondition → WrittenCondition
closed Bracket w = w
closed (OfExists f) w = Exists f w
closed (OfList q op l s f) w = Listed q op l s f w

-- how a test begins: it is read to its end, or up to the condition that it holds
pub data Start : Type 0 where
  Whole : WrittenCondition → Tokens → Start
  Around : Opening → Tokens → Start

-- ( SELECT value FROM number letter WHERE
unfoldable pub start_list : Quantifier → Comparison → WrittenValue → Tokens → Option Start
start_list q op l ts = expect Open ts >>= (λ us. expect SELECT us >>= (λ vs. read_value vs >>= (λ s. read_from s.1 >>= (λ f. some (Around (OfList q op l s.0 f.0) f.1)))))

-- what may stand behind a value
unfoldable pub start_value : WrittenValue → Tokens → Option Start
start_value l ts =
    (expect IS ts >>= (λ us. expect NULL us >>= (λ rest. some (Whole (Atom (Mark Null l)) rest))))
    <|> (expect IS ts >>= (λ us. expect NOT us >>= (λ vs. expect NULL vs >>= (λ rest. some (Whole (Atom (Mark NotNull l)) rest)))))
    <|> (expect IS ts >>= (λ us. expect DECLINED us >>= (λ rest. some (Whole (Atom (Mark IsDeclined l)) rest))))
    <|> (expect IS ts >>= (λ us. expect NOT us >>= (λ vs. expect DECLINED vs >>= (λ rest. some (Whole (Atom (Mark NotDeclined l)) rest)))))
    <|> (read_comparison ts >>= (λ c. read_value c.1 >>= (λ r. some (Whole (Atom (Compare c.0 l r.0)) r.1))))
    <|> (read_comparison ts >>= (λ c. expect SOME c.1 >>= (λ us. start_list Some c.0 l us)))
    <|> (read_comparison ts >>= (λ c. expect ALL c.1 >>= (λ us. start_list All c.0 l us)))
    <|> (expect IN ts >>= (λ us. start_list Some Eq l us))
    <|> (expect NOT ts >>= (λ us. expect IN us >>= (λ vs. start_list All Ne l vs)))

unfoldable pub start : Tokens → Option Start
start ts =
    (expect Open ts >>= (λ us. some (Around Bracket us)))
    <|> (expect EXISTS ts >>= (λ us. expect Open us >>= (λ vs. read_from vs >>= (λ f. some (Around (OfExists f.0) f.1)))))
    <|> (read_value ts >>= (λ l. start_value l.0 l.1))

-- ---- conditions

-- what is asked for; more_or a: the rest of a condition of which a is read; more_and a: the rest of a conjunction
pub data Goal : Type 0 where
  condition conjunction factor test : Goal
  more_or more_and : WrittenCondition → Goal

-- the same over the connective: conjunctions joined by OR are a condition, factors joined by AND a conjunction
abbrev pub chain : Connective → Goal
chain Or = condition
chain And = conjunction

abbrev pub operand : Connective → Goal
operand Or = conjunction
operand And = factor

abbrev pub more : Connective → WrittenCondition → Goal
more Or a = more_or a
more And a = more_and a

-- the word, AND or OR
abbrev pub join_word : Connective → Word
join_word Or = OrWord
join_word And = AndWord

-- a reading, and the tokens after it
abbrev pub Found : Type 0
Found = Option (WrittenCondition × Tokens)

abbrev pub branch : Option Tokens → (Tokens → Found) → (Unit {0} → Found) → Found
branch (some us) there missing = there us
branch none there missing = missing tt

abbrev pub started : Option Start → (Opening → Tokens → Found) → Found
started none around = none
started (some (Whole a rest)) around = some (a, rest)
started (some (Around o us)) around = around o us

-- TRUE, FALSE or UNKNOWN
unfoldable pub read_truth : Tokens → Option (Truth × Tokens)
read_truth ts =
    (expect TRUE ts >>= (λ us. some (True, us)))
    <|> (expect FALSE ts >>= (λ us. some (False, us)))
    <|> (expect UNKNOWN ts >>= (λ us. some (Unknown, us)))

-- a truth test, behind its IS
unfoldable pub read_truth_test : Tokens → Option (Unary × Tokens)
read_truth_test ts =
    (read_truth ts >>= (λ t. some (Is t.0, t.1)))
    <|> (expect NOT ts >>= (λ us. read_truth us >>= (λ t. some (IsNot t.0, t.1))))

-- a bracketed condition, with the truth test that follows it, if there is one: where an IS follows, it has to be one
unfoldable pub truth_tested : WrittenCondition → Tokens → Found
truth_tested a ts = branch (expect IS ts) (λ us. read_truth_test us >>= (λ u. some (Apply u.0 a, u.1))) (λ _. some (a, ts))

-- a test whose bracket is closed, and what may follow it: a truth test, where nothing but a condition stands in the bracket, and the bracket is all of the test
abbrev pub ended : Opening → WrittenCondition → Tokens → Found
ended Bracket a rest = truth_tested a rest
ended (OfExists f) a rest = some (a, rest)
ended (OfList q op l s f) a rest = some (a, rest)

-- the bracket that closes behind the condition that a test holds
abbrev pub closing : Opening → WrittenCondition × Tokens → Found
closing o w = expect Close w.1 >>= (λ rest. ended o (closed o w.0) rest)

-- a reading at the front of some tokens, taken as far as OR and AND go on; depth bounds how deep the calls go. Nothing but this file and its
-- proofs speaks of depths
unfoldable pub read : ℕ → Goal → Tokens → Found
read zero goal ts = none
read (suc depth) condition ts = read depth conjunction ts >>= (λ a. read depth (more_or a.0) a.1)
read (suc depth) (more_or a) ts =
    branch (expect OR ts) (λ us. read depth conjunction us >>= (λ b. read depth (more_or (Join Or a b.0)) b.1)) (λ _. some (a, ts))
read (suc depth) conjunction ts = read depth factor ts >>= (λ a. read depth (more_and a.0) a.1)
read (suc depth) (more_and a) ts =
    branch (expect AND ts) (λ us. read depth factor us >>= (λ b. read depth (more_and (Join And a b.0)) b.1)) (λ _. some (a, ts))
read (suc depth) factor ts = branch (expect NOT ts) (λ us. read depth factor us >>= (λ a. some (Apply Not a.0, a.1))) (λ _. read depth test ts)
read (suc depth) test ts = started (start ts) (λ o us. read depth condition us >>= closing o)

-- a depth that no reading of a goal uses up
abbrev pub depth_for : Goal → Tokens → ℕ
depth_for condition ts = 8 * length ts + 5
depth_for conjunction ts = 8 * length ts + 4
depth_for factor ts = 8 * length ts + 3
depth_for test ts = 8 * length ts + 2
depth_for (more_or a) ts = 8 * length ts + 1
depth_for (more_and a) ts = 8 * length ts + 1

-- a reading, at a depth that is always enough (ReadingClaim)
unfoldable pub reading : Goal → Tokens → Found
reading goal ts = read (depth_for goal ts) goal ts

abbrev pub at_end : WrittenCondition × Tokens → Option WrittenCondition
at_end x = elim x.1 [ [] ↦ some x.0 | t ∷ ts ↦ none ]

-- the reading of all the tokens; none: refusal 6
unfoldable pub read_all : Tokens → Option WrittenCondition
read_all ts = reading condition ts >>= at_end
