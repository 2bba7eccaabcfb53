-- Document 01, Proved cases: the texts and the tables' bytes, and what JUDGE is to answer; Meaning's AND, OR and NOT as tables; and texts at the edges of the
-- refusals of reading. The truth tests of document 02, Point 1, and the tests for declined cells of Point 4: their tables, and among the texts, the parts and the edges.
use Rattle.std.specs.Prelude.{List, [], ◌∷◌, ◌++◌, map, ℕ, zero, suc, ℤ, pos, negsuc, length, replicate}
use Rattle.std.proofs.Math.Option.{Option}
use Prim.Native.String.{String}
use Rattle.tables.specs.Bytes.{bytes32}
use Rattle.tables.specs.Cases.{Edge, ◌refused◌, accepted}
use Rattle.tables.specs.Refusals.{Answer, Given, first_applying, Lent}
use Rattle.tables.specs.Tables.{Cell, Blank, Declined, Present}
use Rattle.tables.specs.declared.Comparison.TheVariants.{Eq, Ne, Lt, Le, Gt, Ge}
use Rattle.tables.specs.declared.MarkTest.{MarkTest}
use Rattle.tables.specs.declared.MarkTest.TheVariants.{Null, NotNull, IsDeclined, NotDeclined}
use Rattle.rule.specs.Tokens.{bytes, AND, OR, NOT, EXISTS, IN, SOME, ALL, IS, NULL, SELECT, FROM, WHERE, Open, Close, Point, TRUE, FALSE, UNKNOWN, DECLINED}
use Rattle.rule.specs.declared.Token.{Token}
use Rattle.rule.specs.declared.Token.TheVariants.{Compares, Letter, Number}
use Rattle.rule.specs.declared.TaggedValue.{TaggedValue}
use Rattle.rule.specs.declared.Part.{Part}
use Rattle.rule.specs.declared.Truth.{Truth}
use Rattle.rule.specs.declared.Truth.TheVariants.{False, Unknown, True}
use Rattle.rule.specs.declared.Unary.{Unary}
use Rattle.rule.specs.declared.Unary.TheVariants.{Is, IsNot}
use Rattle.rule.specs.Calls.{reading_refusals, read_call, judge_call}

-- the three tables of the proved cases; the value bytes of the two blank cells are 7 and 9, since they may be anything
abbrev pub case_tables : List ℕ
case_tables =
    (3 ∷ 2 ∷ 3 ∷ 0 ∷ 1 ∷ 2 ∷ 0 ∷ 1 ∷ 0 ∷ 0 ∷ [])
    ++ (bytes32 1 ++ bytes32 5 ++ bytes32 2 ++ bytes32 7 ++ bytes32 3 ++ bytes32 0 ++ bytes32 1 ++ bytes32 9)
    ++ (0 ∷ 0 ∷ 0 ∷ 1 ∷ 0 ∷ 0 ∷ 0 ∷ 1 ∷ [])

pub record Case : Type 0 where
  pub text : String
  pub values : List Truth

infix 10 ◌gives◌
abbrev ◌gives◌ : String → List Truth → Case
t gives vs = record { text = t; values = vs }

abbrev T : Truth
T = True

abbrev U : Truth
U = Unknown

abbrev F : Truth
F = False

-- ---- the truth tests on each value: a line for each test, a column for each value. SQL-92 (8.12, <search condition>) tabulates IS, and has IS NOT as NOT of it

abbrev pub truth_tests : List Unary
truth_tests = Is True ∷ IsNot True ∷ Is False ∷ IsNot False ∷ Is Unknown ∷ IsNot Unknown ∷ []

abbrev pub truth_values : List Truth
truth_values = T ∷ F ∷ U ∷ []

abbrev pub truth_test_table : List (List Truth)
truth_test_table =
    (T ∷ F ∷ F ∷ [])
    ∷ (F ∷ T ∷ T ∷ [])
    ∷ (F ∷ T ∷ F ∷ [])
    ∷ (T ∷ F ∷ T ∷ [])
    ∷ (F ∷ F ∷ T ∷ [])
    ∷ (T ∷ T ∷ F ∷ [])
    ∷ []

-- ---- the tests by the mark on each sort of cell: a line for each test, a column for a blank cell, a declined one and a present one. Point 4: declined 'is blank in every
-- respect, IS NULL included', and IS DECLINED and IS NOT DECLINED are 'true or false by the mark; a number is never declined'

abbrev pub mark_tests : List MarkTest
mark_tests = Null ∷ NotNull ∷ IsDeclined ∷ NotDeclined ∷ []

abbrev pub marked_cells : List Cell
marked_cells = Blank ∷ Declined ∷ Present (pos 5) ∷ []

abbrev pub mark_test_table : List (List Truth)
mark_test_table =
    (T ∷ T ∷ F ∷ [])
    ∷ (F ∷ F ∷ T ∷ [])
    ∷ (F ∷ T ∷ F ∷ [])
    ∷ (T ∷ F ∷ T ∷ [])
    ∷ []

-- ---- Meaning's sentences on NOT, AND and OR, tabulated: for each value, in the order of `truth_values`, and for each pair, a line for the left value and a column
-- for the right one. SQL-92 (8.12) has the same tables

abbrev pub not_table : List Truth
not_table = F ∷ T ∷ U ∷ []

abbrev pub and_table : List (List Truth)
and_table =
    (T ∷ F ∷ U ∷ [])
    ∷ (F ∷ F ∷ F ∷ [])
    ∷ (U ∷ F ∷ U ∷ [])
    ∷ []

abbrev pub or_table : List (List Truth)
or_table =
    (T ∷ T ∷ T ∷ [])
    ∷ (T ∷ F ∷ U ∷ [])
    ∷ (T ∷ U ∷ U ∷ [])
    ∷ []

-- ---- the proved cases

-- the texts with ALL2 and ALL3 written out, and their values on rows 0, 1 and 2
abbrev pub cases : List Case
cases =
    ("m.2 > 0" gives (T ∷ U ∷ F ∷ []))
    ∷ ("NOT m.2 > 0" gives (F ∷ U ∷ T ∷ []))
    ∷ ("m.2 > 0 OR NOT m.2 > 0" gives (T ∷ U ∷ T ∷ []))
    ∷ ("m.2 IS NULL" gives (F ∷ T ∷ F ∷ []))
    ∷ ("m.1 IN (SELECT v.1 FROM 2 v WHERE 1 = 1)" gives (T ∷ U ∷ U ∷ []))
    ∷ ("m.1 NOT IN (SELECT v.1 FROM 2 v WHERE 1 = 1)" gives (F ∷ U ∷ U ∷ []))
    ∷ ("m.1 <> ALL (SELECT v.1 FROM 2 v WHERE v.1 = 1)" gives (F ∷ T ∷ T ∷ []))
    ∷ ("m.2 = ALL (SELECT v.1 FROM 3 v WHERE 1 = 1)" gives (T ∷ T ∷ T ∷ []))
    ∷ ("m.2 = SOME (SELECT v.1 FROM 3 v WHERE 1 = 1)" gives (F ∷ F ∷ F ∷ []))
    ∷ ("EXISTS (FROM 2 v WHERE v.1 > 1)" gives (F ∷ F ∷ F ∷ []))
    ∷ ("NOT EXISTS (FROM 2 v WHERE v.1 > 1)" gives (T ∷ T ∷ T ∷ []))
    ∷ ("m.1 = SOME (SELECT m.1 FROM 2 m WHERE m.1 = 1)" gives (T ∷ F ∷ F ∷ []))
    ∷ []

-- what JUDGE answers at rows 0, 1 and 2
unfoldable pub judged_at : Case → List (Answer Truth)
judged_at c = map (judge_call (bytes c.text) case_tables) (0 ∷ 1 ∷ 2 ∷ [])

abbrev pub expected_at : Case → List (Answer Truth)
expected_at c = map Given c.values

-- each comparison at less, equal and greater, with negative numbers; IS NOT NULL; blank with blank; AND before OR; AND and OR of each pair, with the side that
-- is true, false or unknown on every row on the right and on the left; each truth test on true, unknown and false; NOT before one; one around another, which is never
-- unknown; in a WHERE
abbrev pub test_cases : List Case
test_cases =
    ("m.1 = 2" gives (F ∷ T ∷ F ∷ []))
    ∷ ("m.1 <> 2" gives (T ∷ F ∷ T ∷ []))
    ∷ ("m.1 < 2" gives (T ∷ F ∷ F ∷ []))
    ∷ ("m.1 <= 2" gives (T ∷ T ∷ F ∷ []))
    ∷ ("m.1 > 2" gives (F ∷ F ∷ T ∷ []))
    ∷ ("m.1 >= 2" gives (F ∷ T ∷ T ∷ []))
    ∷ ("-3 = -3" gives (T ∷ T ∷ T ∷ []))
    ∷ ("-3 = -4" gives (F ∷ F ∷ F ∷ []))
    ∷ ("3 = -3" gives (F ∷ F ∷ F ∷ []))
    ∷ ("-3 <> 2" gives (T ∷ T ∷ T ∷ []))
    ∷ ("-3 < m.1" gives (T ∷ T ∷ T ∷ []))
    ∷ ("-3 <= -4" gives (F ∷ F ∷ F ∷ []))
    ∷ ("m.2 IS NOT NULL" gives (T ∷ F ∷ T ∷ []))
    ∷ ("m.2 = m.2" gives (T ∷ U ∷ T ∷ []))
    ∷ ("0 = 0 OR 0 = 1 AND 0 = 2" gives (T ∷ T ∷ T ∷ []))
    ∷ ("m.2 > 0 AND 1 = 1" gives (T ∷ U ∷ F ∷ []))
    ∷ ("1 = 1 AND m.2 > 0" gives (T ∷ U ∷ F ∷ []))
    ∷ ("m.2 > 0 AND 1 = 2" gives (F ∷ F ∷ F ∷ []))
    ∷ ("1 = 2 AND m.2 > 0" gives (F ∷ F ∷ F ∷ []))
    ∷ ("m.2 > 0 AND 1 = ALL (SELECT v.1 FROM 2 v WHERE v.1 IS NULL)" gives (U ∷ U ∷ F ∷ []))
    ∷ ("1 = ALL (SELECT v.1 FROM 2 v WHERE v.1 IS NULL) AND m.2 > 0" gives (U ∷ U ∷ F ∷ []))
    ∷ ("m.2 > 0 OR 1 = 1" gives (T ∷ T ∷ T ∷ []))
    ∷ ("1 = 1 OR m.2 > 0" gives (T ∷ T ∷ T ∷ []))
    ∷ ("m.2 > 0 OR 1 = 2" gives (T ∷ U ∷ F ∷ []))
    ∷ ("1 = 2 OR m.2 > 0" gives (T ∷ U ∷ F ∷ []))
    ∷ ("m.2 > 0 OR 1 = ALL (SELECT v.1 FROM 2 v WHERE v.1 IS NULL)" gives (T ∷ U ∷ U ∷ []))
    ∷ ("1 = ALL (SELECT v.1 FROM 2 v WHERE v.1 IS NULL) OR m.2 > 0" gives (T ∷ U ∷ U ∷ []))
    ∷ ("(m.2 > 0) IS TRUE" gives (T ∷ F ∷ F ∷ []))
    ∷ ("(m.2 > 0) IS NOT TRUE" gives (F ∷ T ∷ T ∷ []))
    ∷ ("(m.2 > 0) IS FALSE" gives (F ∷ F ∷ T ∷ []))
    ∷ ("(m.2 > 0) IS NOT FALSE" gives (T ∷ T ∷ F ∷ []))
    ∷ ("(m.2 > 0) IS UNKNOWN" gives (F ∷ T ∷ F ∷ []))
    ∷ ("(m.2 > 0) IS NOT UNKNOWN" gives (T ∷ F ∷ T ∷ []))
    ∷ ("NOT (m.2 > 0) IS FALSE" gives (T ∷ T ∷ F ∷ []))
    ∷ ("((m.2 > 0) IS UNKNOWN) IS UNKNOWN" gives (F ∷ F ∷ F ∷ []))
    ∷ ("m.1 = ALL (SELECT v.1 FROM 2 v WHERE (v.1 = 1) IS NOT UNKNOWN)" gives (T ∷ F ∷ F ∷ []))
    ∷ ("m.1 = ALL (SELECT v.1 FROM 2 v WHERE (v.1 IS NULL) IS NOT UNKNOWN)" gives (U ∷ F ∷ F ∷ []))
    ∷ []

-- ---- tests of declined cells (document 02, Point 4)

-- as in the tables of the proved cases, but the second column of table 1 holds 5, a blank and a declined cell, and table 2 a 1 and a declined cell; the value bytes of that
-- one are 1 too, and of the other two 7 and 9, so that a cell which is taken for present gives another value
abbrev pub declined_tables : List ℕ
declined_tables =
    (3 ∷ 2 ∷ 3 ∷ 0 ∷ 1 ∷ 2 ∷ 0 ∷ 1 ∷ 0 ∷ 0 ∷ [])
    ++ (bytes32 1 ++ bytes32 5 ++ bytes32 2 ++ bytes32 7 ++ bytes32 3 ++ bytes32 9 ++ bytes32 1 ++ bytes32 1)
    ++ (0 ∷ 0 ∷ 0 ∷ 1 ∷ 0 ∷ 2 ∷ 0 ∷ 2 ∷ [])

-- what JUDGE answers with them at rows 0, 1 and 2
unfoldable pub declined_at : Case → List (Answer Truth)
declined_at c = map (judge_call (bytes c.text) declined_tables) (0 ∷ 1 ∷ 2 ∷ [])

-- the four tests of a number, a blank and a declined cell; of a constant; comparisons, which are unknown of both; NOT, AND, OR and truth tests around them; in a WHERE, and
-- as the selected and the left value of a list
abbrev pub declined_cases : List Case
declined_cases =
    ("m.2 IS DECLINED" gives (F ∷ F ∷ T ∷ []))
    ∷ ("m.2 IS NOT DECLINED" gives (T ∷ T ∷ F ∷ []))
    ∷ ("m.2 IS NULL" gives (F ∷ T ∷ T ∷ []))
    ∷ ("m.2 IS NOT NULL" gives (T ∷ F ∷ F ∷ []))
    ∷ ("5 IS DECLINED" gives (F ∷ F ∷ F ∷ []))
    ∷ ("5 IS NOT DECLINED" gives (T ∷ T ∷ T ∷ []))
    ∷ ("m.2 = m.2" gives (T ∷ U ∷ U ∷ []))
    ∷ ("m.2 <> m.2" gives (F ∷ U ∷ U ∷ []))
    ∷ ("m.2 = 9" gives (F ∷ U ∷ U ∷ []))
    ∷ ("9 <> m.2" gives (T ∷ U ∷ U ∷ []))
    ∷ ("m.2 > 0" gives (T ∷ U ∷ U ∷ []))
    ∷ ("m.2 < 0" gives (F ∷ U ∷ U ∷ []))
    ∷ ("NOT m.2 IS DECLINED" gives (T ∷ T ∷ F ∷ []))
    ∷ ("NOT m.2 IS NOT DECLINED" gives (F ∷ F ∷ T ∷ []))
    ∷ ("NOT m.2 = m.2" gives (F ∷ U ∷ U ∷ []))
    ∷ ("m.2 IS NULL AND m.2 IS NOT DECLINED" gives (F ∷ T ∷ F ∷ []))
    ∷ ("m.2 IS NOT NULL OR m.2 IS DECLINED" gives (T ∷ F ∷ T ∷ []))
    ∷ ("m.2 = 5 OR m.2 IS DECLINED" gives (T ∷ U ∷ T ∷ []))
    ∷ ("(m.2 IS DECLINED) IS UNKNOWN" gives (F ∷ F ∷ F ∷ []))
    ∷ ("(m.2 IS NOT DECLINED) IS TRUE" gives (T ∷ T ∷ F ∷ []))
    ∷ ("(m.2 = 5) IS UNKNOWN" gives (F ∷ T ∷ T ∷ []))
    ∷ ("EXISTS (FROM 2 v WHERE v.1 IS DECLINED)" gives (T ∷ T ∷ T ∷ []))
    ∷ ("EXISTS (FROM 2 v WHERE v.1 IS NULL AND v.1 IS NOT DECLINED)" gives (F ∷ F ∷ F ∷ []))
    ∷ ("EXISTS (FROM 2 v WHERE v.1 = m.1)" gives (T ∷ F ∷ F ∷ []))
    ∷ ("EXISTS (FROM 2 v WHERE v.1 <> 1)" gives (F ∷ F ∷ F ∷ []))
    ∷ ("NOT EXISTS (FROM 2 v WHERE m.2 IS DECLINED)" gives (T ∷ T ∷ F ∷ []))
    ∷ ("m.1 IN (SELECT v.1 FROM 2 v WHERE 1 = 1)" gives (T ∷ U ∷ U ∷ []))
    ∷ ("m.1 NOT IN (SELECT v.1 FROM 2 v WHERE 1 = 1)" gives (F ∷ U ∷ U ∷ []))
    ∷ ("m.1 NOT IN (SELECT v.1 FROM 2 v WHERE v.1 IS NOT DECLINED)" gives (F ∷ T ∷ T ∷ []))
    ∷ ("m.1 = SOME (SELECT v.1 FROM 2 v WHERE v.1 IS DECLINED)" gives (U ∷ U ∷ U ∷ []))
    ∷ ("m.1 = ALL (SELECT v.1 FROM 2 v WHERE v.1 IS NOT DECLINED)" gives (T ∷ F ∷ F ∷ []))
    ∷ ("m.1 = ALL (SELECT v.1 FROM 2 v WHERE 1 = 1)" gives (U ∷ F ∷ F ∷ []))
    ∷ ("m.2 <> SOME (SELECT v.1 FROM 2 v WHERE v.1 = 1)" gives (T ∷ U ∷ U ∷ []))
    ∷ ("m.2 = ALL (SELECT v.1 FROM 3 v WHERE 1 = 1)" gives (T ∷ T ∷ T ∷ []))
    ∷ []

-- ---- the parts of four rules, in full: kind, comparison, table, end, left and right value

abbrev field : ℕ → ℤ → TaggedValue
field t n = record { tag = t; number = n }

abbrev pub unused : TaggedValue
unused = field 0 (pos 0)

abbrev pub part_by : ℕ → ℕ → ℕ → ℕ → TaggedValue → TaggedValue → Part
part_by k op t e l r = record { kind = k; comparison = op; table = t; end = e; left = l; right = r }

pub record PartsCase : Type 0 where
  pub text : String
  pub parts : List Part

-- precedence and grouping: AND before OR, from the left
abbrev chain_case : PartsCase
chain_case = record {
  text = "1 = 1 OR 1 = 2 OR 1 = 3 AND 1 = 4 AND NOT m.1 <= 2 OR EXISTS (FROM 2 v WHERE v.1 IS NULL)";
  parts =
      part_by 2 0 0 13 unused unused
      ∷ part_by 2 0 0 11 unused unused
      ∷ part_by 2 0 0 5 unused unused
      ∷ part_by 4 1 0 4 (field 255 (pos 1)) (field 255 (pos 1))
      ∷ part_by 4 1 0 5 (field 255 (pos 1)) (field 255 (pos 2))
      ∷ part_by 1 0 0 11 unused unused
      ∷ part_by 1 0 0 9 unused unused
      ∷ part_by 4 1 0 8 (field 255 (pos 1)) (field 255 (pos 3))
      ∷ part_by 4 1 0 9 (field 255 (pos 1)) (field 255 (pos 4))
      ∷ part_by 3 0 0 11 unused unused
      ∷ part_by 4 4 0 11 (field 0 (pos 1)) (field 255 (pos 2))
      ∷ part_by 7 0 2 13 unused unused
      ∷ part_by 5 0 0 13 (field 1 (pos 1)) unused
      ∷ [];
}

abbrev nested_case : PartsCase
nested_case = record {
  text = "NOT (m.1 = 1 OR m.2 IS NOT NULL) AND m.1 NOT IN (SELECT v.1 FROM 2 v WHERE v.1 IN (SELECT m.2 FROM 1 m WHERE m.1 > -5))";
  parts =
      part_by 1 0 0 8 unused unused
      ∷ part_by 3 0 0 5 unused unused
      ∷ part_by 2 0 0 5 unused unused
      ∷ part_by 4 1 0 4 (field 0 (pos 1)) (field 255 (pos 1))
      ∷ part_by 6 0 0 5 (field 0 (pos 2)) unused
      ∷ part_by 9 2 2 8 (field 0 (pos 1)) (field 1 (pos 1))
      ∷ part_by 8 1 1 8 (field 1 (pos 1)) (field 2 (pos 2))
      ∷ part_by 4 5 0 8 (field 2 (pos 1)) (field 255 (negsuc 4))
      ∷ [];
}

-- each of the truth tests
abbrev pub truth_case : PartsCase
truth_case = record {
  text = "NOT ((m.1 = 1) IS TRUE AND (m.2 IS NULL) IS NOT TRUE) IS FALSE OR ((m.2 > 0) IS UNKNOWN) IS NOT FALSE OR (1 = 1) IS NOT UNKNOWN";
  parts =
      part_by 2 0 0 14 unused unused
      ∷ part_by 2 0 0 12 unused unused
      ∷ part_by 3 0 0 9 unused unused
      ∷ part_by 12 0 0 9 unused unused
      ∷ part_by 1 0 0 9 unused unused
      ∷ part_by 10 0 0 7 unused unused
      ∷ part_by 4 1 0 7 (field 0 (pos 1)) (field 255 (pos 1))
      ∷ part_by 11 0 0 9 unused unused
      ∷ part_by 5 0 0 9 (field 0 (pos 2)) unused
      ∷ part_by 13 0 0 12 unused unused
      ∷ part_by 14 0 0 12 unused unused
      ∷ part_by 4 5 0 12 (field 0 (pos 2)) (field 255 (pos 0))
      ∷ part_by 15 0 0 14 unused unused
      ∷ part_by 4 1 0 14 (field 255 (pos 1)) (field 255 (pos 1))
      ∷ [];
}

-- IS DECLINED and IS NOT DECLINED of columns, and of a constant
abbrev pub declined_case : PartsCase
declined_case = record {
  text = "NOT m.2 IS DECLINED AND EXISTS (FROM 2 v WHERE v.1 IS NOT DECLINED OR 5 IS DECLINED)";
  parts =
      part_by 1 0 0 7 unused unused
      ∷ part_by 3 0 0 3 unused unused
      ∷ part_by 16 0 0 3 (field 0 (pos 2)) unused
      ∷ part_by 7 0 2 7 unused unused
      ∷ part_by 2 0 0 7 unused unused
      ∷ part_by 17 0 0 6 (field 1 (pos 1)) unused
      ∷ part_by 16 0 0 7 (field 255 (pos 5)) unused
      ∷ [];
}

abbrev pub parts_cases : List PartsCase
parts_cases = chain_case ∷ nested_case ∷ truth_case ∷ declined_case ∷ []

abbrev filler : Part
filler = part_by 99 99 99 99 (field 99 (pos 99)) (field 99 (negsuc 99))

-- READ with room for two parts more, and what it is to give
unfoldable pub parts_read : PartsCase → Lent Part
parts_read c = read_call (bytes c.text) case_tables (map (λ _. filler) c.parts ++ (filler ∷ filler ∷ []))

abbrev pub parts_given : PartsCase → Lent Part
parts_given c = record { result = Given (length c.parts); buffer = c.parts ++ (filler ∷ filler ∷ []) }

-- ---- every word and every sign, once

unfoldable pub every_word : List ℕ
every_word = bytes "AND OR NOT EXISTS IN SOME ALL IS NULL SELECT FROM WHERE ( ) . = <> < <= > >= a z 0 -1 TRUE FALSE UNKNOWN DECLINED"

abbrev pub every_token : List Token
every_token =
    AND ∷ OR ∷ NOT ∷ EXISTS ∷ IN ∷ SOME ∷ ALL ∷ IS ∷ NULL ∷ SELECT ∷ FROM ∷ WHERE
    ∷ Open ∷ Close ∷ Point ∷ Compares Eq ∷ Compares Ne ∷ Compares Lt ∷ Compares Le ∷ Compares Gt ∷ Compares Ge
    ∷ Letter 97 ∷ Letter 122 ∷ Number (pos 0) ∷ Number (negsuc 0) ∷ TRUE ∷ FALSE ∷ UNKNOWN ∷ DECLINED ∷ []

-- ---- texts at the edges of the refusals, with the tables above

-- "1 = 1" n + 1 times, joined by OR: 2n + 1 parts
unfoldable pub chained : ℕ → List ℕ
chained zero = bytes "1 = 1"
chained (suc n) = bytes "1 = 1 OR " ++ chained n

-- a text in n brackets, each followed by IS UNKNOWN: each makes 1 + 2s of the sum s inside it
unfoldable pub unknown_of : ℕ → List ℕ → List ℕ
unknown_of zero text = text
unknown_of (suc n) text = bytes "(" ++ unknown_of n text ++ bytes ") IS UNKNOWN"

unfoldable pub edges : List Edge
edges =
    -- tokens: two letters, no word, two numbers, 10 and 11 digits, the ends of the range, a lone minus, another byte, signs of two bytes
    (bytes "ab" refused 6) ∷ (bytes "1 = 1 ANDOR 1 = 1" refused 4) ∷ (bytes "1-2" refused 6) ∷ accepted (bytes "0000000001=-1") ∷ (bytes "00000000001 = 1" refused 4)
    ∷ accepted (bytes "2147483647 > -2147483648") ∷ (bytes "1 = -2147483649" refused 4) ∷ (bytes "1 = -" refused 4) ∷ (bytes "1 =\t1" refused 4) ∷ accepted (bytes "m.1<=m.2 AND m.1>=1 AND m.1<>m.2")
    -- gaps, and the bytes around letters, digits and capitals; a word cut short
    ∷ accepted (bytes "\n1 =\n1\n") ∷ (bytes "1 =\r1" refused 4) ∷ (bytes "1 = 1:" refused 4) ∷ (bytes "1 = 1/" refused 4) ∷ (bytes "{" refused 4)
    ∷ (bytes "`" refused 4) ∷ (bytes "@" refused 4) ∷ (bytes "[" refused 4) ∷ accepted (bytes "EXISTS (FROM 1 z WHERE z.1 = 1)") ∷ (bytes "NO 1 = 1" refused 4)
    -- a bad token at the end comes before brackets at the start
    ∷ ((replicate 33 40 ++ bytes "!") refused 4)
    -- brackets: 32 open may pass, a ) before them counts, and grammar comes after them
    ∷ accepted (replicate 32 40 ++ bytes "1 = 1" ++ replicate 32 41) ∷ ((bytes ")" ++ replicate 33 40) refused 6) ∷ ((bytes ")" ++ replicate 34 40) refused 5)
    ∷ ((replicate 33 40 ++ bytes "1 = 1" ++ replicate 33 41) refused 5)
    -- 4,096 bytes are read
    ∷ (replicate 4096 32 refused 6) ∷ (replicate 4097 33 refused 3)
    -- grammar comes before limits, and limits before names
    ∷ ((chained 32 ++ bytes " OR") refused 6) ∷ ((chained 32 ++ bytes " OR k.1 = 1") refused 7)
    -- limits: 64 parts and three FROMs may pass
    ∷ accepted (bytes "NOT " ++ chained 31) ∷ (chained 32 refused 7)
    ∷ accepted (bytes "EXISTS (FROM 1 a WHERE EXISTS (FROM 1 b WHERE EXISTS (FROM 1 c WHERE a.1 = b.2)))")
    ∷ accepted (bytes "EXISTS (FROM 1 a WHERE 1 = 1) AND EXISTS (FROM 1 b WHERE 1 = 1) OR EXISTS (FROM 1 c WHERE 1 = 1) OR EXISTS (FROM 1 d WHERE 1 = 1)")
    ∷ (bytes "EXISTS (FROM 1 a WHERE EXISTS (FROM 1 b WHERE EXISTS (FROM 1 c WHERE EXISTS (FROM 1 d WHERE 1 = 1))))" refused 7)
    ∷ accepted (bytes "1 IN (SELECT 1 FROM 1 a WHERE 1 IN (SELECT 1 FROM 1 b WHERE 1 IN (SELECT 1 FROM 1 c WHERE 1 = 1)))")
    ∷ (bytes "1 IN (SELECT 1 FROM 1 a WHERE 1 IN (SELECT 1 FROM 1 b WHERE 1 IN (SELECT 1 FROM 1 c WHERE 1 IN (SELECT 1 FROM 1 d WHERE 1 = 1))))" refused 7)
    -- names: a negative column, an absent table or column, a letter outside its FROM, the selected value inside it
    ∷ (bytes "m.-1 = 1" refused 8) ∷ (bytes "m.3 = 1" refused 8) ∷ (bytes "m.0 = 1" refused 8) ∷ (bytes "EXISTS (FROM 4 v WHERE 1 = 1)" refused 8)
    ∷ (bytes "EXISTS (FROM 2 v WHERE v.2 = 1)" refused 8) ∷ (bytes "v.1 IN (SELECT v.1 FROM 2 v WHERE 1 = 1)" refused 8) ∷ accepted (bytes "m.2 IN (SELECT m.1 FROM 2 m WHERE m.1 = 1)")
    -- the nearest binding: table 1 has two columns, table 2 has one
    ∷ (bytes "EXISTS (FROM 1 v WHERE EXISTS (FROM 2 v WHERE v.2 = 1))" refused 8) ∷ accepted (bytes "EXISTS (FROM 2 v WHERE EXISTS (FROM 1 v WHERE v.2 = 1))")
    -- NOT before NOT, NOT before nothing, and a bracket that is left open
    ∷ accepted (bytes "NOT NOT 1 = 1") ∷ (bytes "NOT" refused 6) ∷ (bytes "(1 = 1" refused 6)
    -- truth tests: behind a bracketed condition alone, once, with one of the three words
    ∷ accepted (bytes "(1 = 1)IS TRUE") ∷ (bytes "(1 = 1) IS TRUE IS TRUE" refused 6) ∷ accepted (bytes "((1 = 1) IS TRUE) IS TRUE") ∷ (bytes "1 = 1 IS TRUE" refused 6)
    ∷ (bytes "TRUE" refused 6) ∷ (bytes "(TRUE) IS TRUE" refused 6) ∷ (bytes "m.1 IS TRUE" refused 6) ∷ (bytes "(m.1) IS TRUE" refused 6) ∷ (bytes "(1 = 1) IS NULL" refused 6) ∷ (bytes "(1 = 1) IS NOT NULL" refused 6)
    ∷ (bytes "(1 = 1) IS" refused 6) ∷ (bytes "(1 = 1) IS NOT" refused 6) ∷ (bytes "(1 = 1) IS NOT NOT TRUE" refused 6) ∷ (bytes "(1 = 1) NOT TRUE" refused 6)
    ∷ (bytes "EXISTS (FROM 1 v WHERE 1 = 1) IS TRUE" refused 6) ∷ (bytes "m.1 IN (SELECT v.1 FROM 2 v WHERE 1 = 1) IS FALSE" refused 6) ∷ (bytes "m.1 IS NULL IS TRUE" refused 6)
    ∷ (bytes "m.1 = ALL (SELECT v.1 FROM 2 v WHERE 1 = 1) IS TRUE" refused 6) ∷ (bytes "m.1 NOT IN (SELECT v.1 FROM 2 v WHERE 1 = 1) IS TRUE" refused 6)
    ∷ accepted (bytes "NOT (1 = 1) IS UNKNOWN AND (1 = 1) IS NOT FALSE OR 1 = 1") ∷ (bytes "(1 = 1) IS TRUEFALSE" refused 4) ∷ (bytes "(1 = 1) IS UNKNOW" refused 4)
    -- they count among the 64 parts
    ∷ accepted (bytes "(" ++ chained 31 ++ bytes ") IS TRUE") ∷ ((bytes "((" ++ chained 31 ++ bytes ") IS TRUE) IS TRUE") refused 7)
    -- and are no FROMs: three around one another may pass, whatever stands between them
    ∷ accepted (bytes "EXISTS (FROM 1 a WHERE (EXISTS (FROM 1 b WHERE (EXISTS (FROM 1 c WHERE a.1 = b.2)) IS TRUE)) IS FALSE)")
    ∷ (bytes "EXISTS (FROM 1 a WHERE (EXISTS (FROM 1 b WHERE (EXISTS (FROM 1 c WHERE EXISTS (FROM 1 d WHERE 1 = 1))) IS TRUE)) IS FALSE)" refused 7)
    -- the sum: 192 may pass, 193 may not, and it comes after limits and names; a sum that no number of 32 bits holds
    ∷ accepted (unknown_of 6 (bytes "1 = 1")) ∷ (unknown_of 7 (bytes "1 = 1") refused 13) ∷ (unknown_of 7 (bytes "k.1 = 1") refused 8) ∷ (unknown_of 7 (chained 32) refused 7)
    ∷ accepted (unknown_of 6 (bytes "1 = 1") ++ bytes " OR EXISTS (FROM 1 v WHERE " ++ unknown_of 5 (bytes "1 = 1") ++ bytes ")")
    ∷ ((unknown_of 6 (bytes "1 = 1") ++ bytes " OR EXISTS (FROM 1 v WHERE EXISTS (FROM 1 v WHERE " ++ unknown_of 5 (bytes "1 = 1") ++ bytes "))") refused 13)
    ∷ (unknown_of 32 (bytes "1 = 1") refused 13)
    -- IS DECLINED and IS NOT DECLINED: behind a value alone, with one NOT at most
    ∷ accepted (bytes "5 IS DECLINED") ∷ accepted (bytes "m.2 IS NOT\nDECLINED AND NOT 5 IS NOT DECLINED") ∷ accepted (bytes "(m.1 IS DECLINED) IS TRUE") ∷ (bytes "m.1 IS DECLINED IS TRUE" refused 6)
    ∷ (bytes "DECLINED" refused 6) ∷ (bytes "m.1 = DECLINED" refused 6) ∷ (bytes "m.1 DECLINED" refused 6) ∷ (bytes "m.1 NOT DECLINED" refused 6) ∷ (bytes "m.1 IS NOT NOT DECLINED" refused 6) ∷ (bytes "m.1 IS" refused 6)
    ∷ (bytes "m.1 IS NOT" refused 6) ∷ (bytes "m.1 IS DECLINED NULL" refused 6) ∷ (bytes "(1 = 1) IS DECLINED" refused 6) ∷ (bytes "(1 = 1) IS NOT DECLINED" refused 6) ∷ (bytes "(m.1) IS DECLINED" refused 6)
    -- the word: neither a shorter run of capitals nor a longer one, and no small letters; and no `!`
    ∷ (bytes "DECLINE" refused 4) ∷ (bytes "DECLINEDX" refused 4) ∷ (bytes "m.1 IS DECLINEDAND 1 = 1" refused 4) ∷ (bytes "m.1 IS declined" refused 6) ∷ (bytes "m.1 = !" refused 4)
    -- its value has to exist; it is one part, with one entry
    ∷ (bytes "k.1 IS DECLINED" refused 8) ∷ (bytes "m.3 IS NOT DECLINED" refused 8) ∷ accepted (bytes "NOT 5 IS DECLINED OR " ++ chained 30) ∷ ((bytes "NOT 5 IS NOT DECLINED OR " ++ chained 31) refused 7)
    ∷ accepted (unknown_of 6 (bytes "5 IS DECLINED")) ∷ (unknown_of 7 (bytes "5 IS NOT DECLINED") refused 13) ∷ []

abbrev pub refusal_at : Edge → Option ℕ
refusal_at e = first_applying (reading_refusals e.input case_tables)
