-- What the functions of src/ promise one another and their callers, in the terms of the code: parts in an array, a row as the number of its first cell. The
-- contract of a public call cites nothing of this file.
use Rattle.std.specs.Prelude.{◌≡◌, cond, List, ℕ, ◌+◌, ◌<◌, ◌≤◌, pos, length, get_or}
use Rattle.tables.specs.Tables.{most_tables, columns_of, tables_of}
use Rattle.tables.specs.Values.{most_levels, Env, cell_of}
use Rattle.tables.specs.declared.Value.{Value}
use Rattle.tables.specs.declared.Value.TheVariants.{Constant}
use Rattle.tables.specs.declared.Comparison.{Comparison}
use Rattle.tables.specs.declared.Comparison.TheVariants.{Eq}
use Rattle.tables.specs.declared.Connective.{Connective}
use Rattle.tables.specs.declared.Quantifier.{Quantifier}
use Rattle.tables.specs.declared.Quantifier.TheVariants.{Some, All}
use Rattle.cells.specs.Code.{seen_cell}
use Rattle.cells.specs.declared.Seen.{Seen}
use Rattle.values.specs.Code.{Readable}
use Rattle.rule.specs.Condition.{Rule, parts, froms_deep}
use Rattle.rule.specs.declared.Test.{Test}
use Rattle.rule.specs.declared.Test.TheVariants.{Compare}
use Rattle.rule.specs.declared.FromClause.TheVariants.{Single}
use Rattle.rule.specs.Names.{most_parts, ValueFits, TestFits, Fits}
use Rattle.rule.specs.Parts.{Head}
use Rattle.rule.specs.declared.Head.TheVariants.{AtomHead, JoinHead, ExistsHead, ListedHead}
use Rattle.rule.specs.Truth.{is_true}
use Rattle.rule.specs.declared.Truth.{Truth}
use Rattle.rule.specs.declared.Truth.TheVariants.{False, True}
use Rattle.rule.specs.Meaning.{test3, compare3, meaning}
use Rattle.names.specs.Code.{rule_part}
use Rattle.names.specs.declared.RulePart.{RulePart}
use Rattle.parts.specs.Parts.{Stands}
use Rattle.evaluator.specs.declared.Evaluation.{Evaluation}

-- the value over no rows
abbrev pub empty_truth : Quantifier → Truth
empty_truth Some = False
empty_truth All = True

-- ---- what evaluating asks, and answers: for whatever levels, rows and rule the numbers stand for

pub record TestReady (e : Evaluation) (w : List ℕ) (test : Test Value) : Type 0 where
  pub levels : List ℕ
  pub env : Env
  pub readable : Readable e.layout.now e.file.now w levels env
  pub fits : TestFits (columns_of e.file.now) levels test

abbrev pub TestEvaluated : (e : Evaluation) (w : List ℕ) (test : Test Value) → Truth → Type 0
TestEvaluated e w test r = (h : TestReady e w test) → r ≡ test3 h.env test

pub record Evaluable (e : Evaluation) (w : List ℕ) (s depth : ℕ) : Type 0 where
  pub levels : List ℕ
  pub env : Env
  pub rule : Rule
  pub readable : Readable e.layout.now e.file.now w levels env
  pub few : s + parts rule ≤ most_parts
  pub stands : Stands e.parts.now s rule
  pub deep : depth ≡ length levels
  pub room : depth + froms_deep rule ≤ most_levels
  pub fits : Fits (columns_of e.file.now) levels rule

abbrev pub Evaluates : (e : Evaluation) (w : List ℕ) (s depth : ℕ) → Truth → Type 0
Evaluates e w s depth r = (h : Evaluable e w s depth) → r ≡ meaning (tables_of e.file.now) h.env h.rule

-- stands where an array has no part
abbrev pub no_part : RulePart
no_part = rule_part 0 (AtomHead (Compare Eq (Constant (pos 0)) (Constant (pos 0))))

-- what part s says by itself
abbrev pub head_in : Evaluation → ℕ → Head
head_in e s = (get_or e.parts.now s no_part).head

-- the number behind part s and its inner parts
abbrev pub end_in : Evaluation → ℕ → ℕ
end_in e s = (get_or e.parts.now s no_part).end

-- part s is this AND or OR; with what the rule says of the number of its right side
pub record Joins (e : Evaluation) (w : List ℕ) (s depth : ℕ) (connective : Connective) : Type 0 where
  pub whole : Evaluable e w s depth
  pub head : head_in e s ≡ JoinHead connective
  pub right_low : s + 1 < end_in e (s + 1)
  pub right_high : end_in e (s + 1) < most_parts

-- part s is EXISTS over this table; with what the rule says of its numbers
pub record Ranges (e : Evaluation) (w : List ℕ) (s depth table : ℕ) : Type 0 where
  pub whole : Evaluable e w s depth
  pub head : head_in e s ≡ ExistsHead (Single table)
  pub table_high : table ≤ most_tables
  pub shallow : depth < most_levels

-- part s is a list
pub record Lists (e : Evaluation) (w : List ℕ) (s depth : ℕ) : Type 0 where
  pub whole : Evaluable e w s depth
  pub quantifier : Quantifier
  pub comparison : Comparison
  pub left : Value
  pub selected : Value
  pub table : ℕ
  pub head : head_in e s ≡ ListedHead quantifier comparison left selected (Single table)
  pub table_high : table ≤ most_tables
  pub shallow : depth < most_levels

-- a list, part s, at one row of its FROM: inner is its WHERE, with the row's level the last
pub record RowReady (e : Evaluation) (v : List ℕ) (s depth : ℕ) (selected : Value) : Type 0 where
  pub inner : Evaluable e v (s + 1) depth
  pub selected_fits : ValueFits (columns_of e.file.now) inner.levels selected

-- the comparison at that row, if it is retained, else the value over no rows; x is what was seen of the left value
abbrev pub RowEvaluated : (e : Evaluation) (v : List ℕ) (s depth : ℕ) (comparison : Comparison) (x : Seen) (selected : Value) (empty : Truth) → Truth → Type 0
RowEvaluated e v s depth comparison x selected empty r =
    (h : RowReady e v s depth selected)
    → r ≡ cond (is_true (meaning (tables_of e.file.now) h.inner.env h.inner.rule)) (compare3 comparison (seen_cell x) (cell_of h.inner.env selected)) empty
