-- Document 01, Meaning, with the truth tests of document 02, Point 1, and the tests for declined cells of Point 4: the value of a rule with each level at a row: true, false or unknown. Cards are not mentioned here.
use Rattle.std.specs.Prelude.{cond, not, List, map, ℕ}
use Rattle.tables.specs.Lists.{any, keep, is_there_one}
use Rattle.tables.specs.Tables.{Cell, Tables, rows_of}
use Rattle.tables.specs.Values.{holds, Env, judged_row, ◌▸◌, cell_of, by_numbers, mark_passes}
use Rattle.tables.specs.declared.Value.{Value}
use Rattle.tables.specs.declared.Comparison.{Comparison}
use Rattle.tables.specs.declared.Quantifier.{Quantifier}
use Rattle.tables.specs.declared.Quantifier.TheVariants.{Some, All}
use Rattle.rule.specs.Truth.{truth, is_true, is_unknown, is_false, is_that, not3, join3}
use Rattle.rule.specs.declared.Truth.{Truth}
use Rattle.rule.specs.declared.Truth.TheVariants.{False, Unknown, True}
use Rattle.rule.specs.Condition.{Atom, Join, Apply, Exists, Listed, Rule}
use Rattle.rule.specs.declared.Test.{Test}
use Rattle.rule.specs.declared.Test.TheVariants.{Compare, Mark}
use Rattle.rule.specs.declared.Unary.{Unary}
use Rattle.rule.specs.declared.Unary.TheVariants.{Not, Is, IsNot}
use Rattle.rule.specs.declared.FromClause.{FromClause}
use Rattle.rule.specs.declared.FromClause.TheVariants.{Single}

-- what NOT makes of a value; and a truth test, of which 'the outcome is never unknown, as in SQL-92' (TruthTestsClaim)
abbrev pub unary3 : Unary → Truth → Truth
unary3 Not a = not3 a
unary3 (Is t) a = truth (is_that t a)
unary3 (IsNot t) a = truth (not (is_that t a))

-- ---- tests

-- a comparison with a blank on either side is unknown; Point 4: 'a declined cell is covered too'
abbrev pub compare3 : Comparison → Cell → Cell → Truth
compare3 op x y = by_numbers Unknown (λ a b. truth (holds op a b)) x y

-- IS NULL and IS NOT NULL are never unknown; nor are IS DECLINED and IS NOT DECLINED, which 'are true or false by the mark' (MarkTestsClaim)
abbrev pub test3 : Env → Test Value → Truth
test3 env (Compare op l r) = compare3 op (cell_of env l) (cell_of env r)
test3 env (Mark m l) = truth (mark_passes m (cell_of env l))

-- ---- subqueries

-- what a comparison's values over the retained rows come to.
-- SOME: true if one is true, else unknown if one is unknown, else false. ALL: false if one is false, else unknown if one is unknown, else
-- true. So over no rows SOME is false and ALL is true.
abbrev pub over3 : Quantifier → List Truth → Truth
over3 Some vs = cond (any is_true vs) True (cond (any is_unknown vs) Unknown False)
over3 All vs = cond (any is_false vs) False (cond (any is_unknown vs) Unknown True)

-- what a FROM ranges over: for each row of its table, the levels around it and one more, at that row
abbrev pub ranged : Tables → Env → FromClause ℕ → List Env
ranged ts env (Single t) = map (λ row. env ▸ row) (rows_of ts t)

-- 'a subquery retains the rows whose WHERE is true': those of a range at which what is asked of each is true
abbrev pub retained : (Env → Truth) → List Env → List Env
retained asked range = keep (λ inside. is_true (asked inside)) range

-- ---- rules

-- EXISTS asks whether a row is retained. The value left of a list is read outside it, the selected one at the retained row.
unfoldable pub meaning : Tables → Env → Rule → Truth
meaning ts env (Atom x) = test3 env x
meaning ts env (Join j a b) = join3 j (meaning ts env a) (meaning ts env b)
meaning ts env (Apply u a) = unary3 u (meaning ts env a)
meaning ts env (Exists f w) = truth (is_there_one (retained (λ inside. meaning ts inside w) (ranged ts env f)))
meaning ts env (Listed q op l s f w) =
    over3 q (map (λ inside. compare3 op (cell_of env l) (cell_of inside s)) (retained (λ inside. meaning ts inside w) (ranged ts env f)))

-- the value on a row of table 1
unfoldable pub judged : Tables → ℕ → Rule → Truth
judged ts row r = meaning ts (judged_row ts row) r
