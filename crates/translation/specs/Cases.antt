-- Document 01, the worked card under Card and the examples of 'Gate says why not', and cards of document 02, Points 1 and 4: their texts and bytes, and what is to
-- come of them.
use Rattle.std.specs.Prelude.{List, [], ◌∷◌, ◌++◌, map, ℕ, replicate}
use Rattle.std.proofs.Math.Option.{Option, none, some}
use Rattle.tables.specs.Bytes.{bytes32}
use Rattle.tables.specs.Refusals.{Answer, Refused, Given}
use Rattle.card.specs.Calls.{check_call, run_call}
use Rattle.rule.specs.Tokens.{bytes}
use Rattle.rule.specs.Calls.{read_call, judge_call}
use Rattle.card.specs.Cases.{worked_card}
use Rattle.rule.specs.Cases.{case_tables, chained, unknown_of, unused, part_by, truth_case}
use Rattle.translation.specs.Calls.{card_call}

-- ---- the text and the tables of the worked card

abbrev pub worked_tables : List ℕ
worked_tables = 1 ∷ 3 ∷ 0 ∷ 0 ∷ []

unfoldable pub worked_text : List ℕ
worked_text = bytes "NOT m.2 < 5"

-- ---- a card with each of the kinds 1 to 8, for the tables of the proved cases

unfoldable pub full_text : List ℕ
full_text =
    bytes
    "NOT (m.1 < 5 AND m.2 IS NULL) OR m.1 <= ALL (SELECT v.1 FROM 2 v WHERE NOT v.1 > -1) OR m.2 = SOME (SELECT w.1 FROM 3 w WHERE NOT EXISTS (FROM 1 m WHERE m.2 IS NOT NULL OR w.1 >= m.1))"

-- the sizes and the kinds, then a line for each record: end, table, comparison, left value, right value
abbrev pub full_card : List ℕ
full_card =
    16 ∷ 0 ∷ 3 ∷ 2 ∷ 1 ∷ 1
    ∷ 2 ∷ 2 ∷ 2 ∷ 5 ∷ 8 ∷ 4 ∷ 2 ∷ 6 ∷ 5 ∷ 3 ∷ 1 ∷ 4 ∷ 1 ∷ 7 ∷ 6 ∷ 5
    ∷ 16 ∷ 0 ∷ 0 ∷ 0 ∷ 0 ∷ 0 ∷ 0 ∷ 0 ∷ 0 ∷ 0 ∷ 0 ∷ 0 ∷ 0 ∷ 0
    ∷ 9 ∷ 0 ∷ 0 ∷ 0 ∷ 0 ∷ 0 ∷ 0 ∷ 0 ∷ 0 ∷ 0 ∷ 0 ∷ 0 ∷ 0 ∷ 0
    ∷ 5 ∷ 0 ∷ 0 ∷ 0 ∷ 0 ∷ 0 ∷ 0 ∷ 0 ∷ 0 ∷ 0 ∷ 0 ∷ 0 ∷ 0 ∷ 0
    ∷ 4 ∷ 0 ∷ 0 ∷ 6 ∷ 0 ∷ 1 ∷ 0 ∷ 0 ∷ 0 ∷ 255 ∷ 5 ∷ 0 ∷ 0 ∷ 0
    ∷ 5 ∷ 0 ∷ 0 ∷ 0 ∷ 0 ∷ 2 ∷ 0 ∷ 0 ∷ 0 ∷ 0 ∷ 0 ∷ 0 ∷ 0 ∷ 0
    ∷ 9 ∷ 0 ∷ 2 ∷ 0 ∷ 0 ∷ 0 ∷ 0 ∷ 0 ∷ 0 ∷ 0 ∷ 0 ∷ 0 ∷ 0 ∷ 0
    ∷ 9 ∷ 0 ∷ 0 ∷ 0 ∷ 0 ∷ 0 ∷ 0 ∷ 0 ∷ 0 ∷ 0 ∷ 0 ∷ 0 ∷ 0 ∷ 0
    ∷ 8 ∷ 0 ∷ 0 ∷ 5 ∷ 1 ∷ 1 ∷ 0 ∷ 0 ∷ 0 ∷ 255 ∷ 255 ∷ 255 ∷ 255 ∷ 255
    ∷ 9 ∷ 0 ∷ 0 ∷ 4 ∷ 0 ∷ 1 ∷ 0 ∷ 0 ∷ 0 ∷ 1 ∷ 1 ∷ 0 ∷ 0 ∷ 0
    ∷ 16 ∷ 0 ∷ 3 ∷ 0 ∷ 0 ∷ 0 ∷ 0 ∷ 0 ∷ 0 ∷ 0 ∷ 0 ∷ 0 ∷ 0 ∷ 0
    ∷ 16 ∷ 0 ∷ 0 ∷ 0 ∷ 0 ∷ 0 ∷ 0 ∷ 0 ∷ 0 ∷ 0 ∷ 0 ∷ 0 ∷ 0 ∷ 0
    ∷ 15 ∷ 0 ∷ 1 ∷ 0 ∷ 0 ∷ 0 ∷ 0 ∷ 0 ∷ 0 ∷ 0 ∷ 0 ∷ 0 ∷ 0 ∷ 0
    ∷ 15 ∷ 0 ∷ 0 ∷ 0 ∷ 0 ∷ 0 ∷ 0 ∷ 0 ∷ 0 ∷ 0 ∷ 0 ∷ 0 ∷ 0 ∷ 0
    ∷ 14 ∷ 0 ∷ 0 ∷ 0 ∷ 2 ∷ 2 ∷ 0 ∷ 0 ∷ 0 ∷ 0 ∷ 0 ∷ 0 ∷ 0 ∷ 0
    ∷ 15 ∷ 0 ∷ 0 ∷ 3 ∷ 1 ∷ 1 ∷ 0 ∷ 0 ∷ 0 ∷ 2 ∷ 1 ∷ 0 ∷ 0 ∷ 0
    ∷ 16 ∷ 0 ∷ 0 ∷ 1 ∷ 0 ∷ 2 ∷ 0 ∷ 0 ∷ 0 ∷ 1 ∷ 1 ∷ 0 ∷ 0 ∷ 0
    ∷ []

-- ---- the card of IS UNKNOWN, for the tables of the worked card; and one with every truth test, for those of the proved cases

unfoldable pub unknown_text : List ℕ
unknown_text = bytes "(m.3 > 0) IS UNKNOWN"

-- and, then <= and >, both of kind 6
abbrev pub unknown_bytes : List ℕ
unknown_bytes =
    3 ∷ 0 ∷ 1 ∷ 3
    ∷ 1 ∷ 6 ∷ 6
    ∷ 3 ∷ 0 ∷ 0 ∷ 0 ∷ 0 ∷ 0 ∷ 0 ∷ 0 ∷ 0 ∷ 0 ∷ 0 ∷ 0 ∷ 0 ∷ 0
    ∷ 2 ∷ 0 ∷ 0 ∷ 4 ∷ 0 ∷ 3 ∷ 0 ∷ 0 ∷ 0 ∷ 255 ∷ 0 ∷ 0 ∷ 0 ∷ 0
    ∷ 3 ∷ 0 ∷ 0 ∷ 5 ∷ 0 ∷ 3 ∷ 0 ∷ 0 ∷ 0 ∷ 255 ∷ 0 ∷ 0 ∷ 0 ∷ 0
    ∷ []

unfoldable pub truth_text : List ℕ
truth_text = bytes truth_case.text

abbrev pub truth_bytes : List ℕ
truth_bytes =
    11 ∷ 0 ∷ 3 ∷ 2 ∷ 1 ∷ 1
    ∷ 2 ∷ 2 ∷ 1 ∷ 5 ∷ 8 ∷ 1 ∷ 6 ∷ 6 ∷ 2 ∷ 5 ∷ 5
    ∷ 11 ∷ 0 ∷ 0 ∷ 0 ∷ 0 ∷ 0 ∷ 0 ∷ 0 ∷ 0 ∷ 0 ∷ 0 ∷ 0 ∷ 0 ∷ 0
    ∷ 8 ∷ 0 ∷ 0 ∷ 0 ∷ 0 ∷ 0 ∷ 0 ∷ 0 ∷ 0 ∷ 0 ∷ 0 ∷ 0 ∷ 0 ∷ 0
    ∷ 5 ∷ 0 ∷ 0 ∷ 0 ∷ 0 ∷ 0 ∷ 0 ∷ 0 ∷ 0 ∷ 0 ∷ 0 ∷ 0 ∷ 0 ∷ 0
    ∷ 4 ∷ 0 ∷ 0 ∷ 1 ∷ 0 ∷ 1 ∷ 0 ∷ 0 ∷ 0 ∷ 255 ∷ 1 ∷ 0 ∷ 0 ∷ 0
    ∷ 5 ∷ 0 ∷ 0 ∷ 0 ∷ 0 ∷ 2 ∷ 0 ∷ 0 ∷ 0 ∷ 0 ∷ 0 ∷ 0 ∷ 0 ∷ 0
    ∷ 8 ∷ 0 ∷ 0 ∷ 0 ∷ 0 ∷ 0 ∷ 0 ∷ 0 ∷ 0 ∷ 0 ∷ 0 ∷ 0 ∷ 0 ∷ 0
    ∷ 7 ∷ 0 ∷ 0 ∷ 4 ∷ 0 ∷ 2 ∷ 0 ∷ 0 ∷ 0 ∷ 255 ∷ 0 ∷ 0 ∷ 0 ∷ 0
    ∷ 8 ∷ 0 ∷ 0 ∷ 5 ∷ 0 ∷ 2 ∷ 0 ∷ 0 ∷ 0 ∷ 255 ∷ 0 ∷ 0 ∷ 0 ∷ 0
    ∷ 11 ∷ 0 ∷ 0 ∷ 0 ∷ 0 ∷ 0 ∷ 0 ∷ 0 ∷ 0 ∷ 0 ∷ 0 ∷ 0 ∷ 0 ∷ 0
    ∷ 10 ∷ 0 ∷ 0 ∷ 1 ∷ 255 ∷ 1 ∷ 0 ∷ 0 ∷ 0 ∷ 255 ∷ 1 ∷ 0 ∷ 0 ∷ 0
    ∷ 11 ∷ 0 ∷ 0 ∷ 2 ∷ 255 ∷ 1 ∷ 0 ∷ 0 ∷ 0 ∷ 255 ∷ 1 ∷ 0 ∷ 0 ∷ 0
    ∷ []

-- ---- cards with tests for declined cells, for the tables of the worked card: one of IS DECLINED, one of NOT before it, and one with both kinds under a NOT

unfoldable pub declined_text : List ℕ
declined_text = bytes "m.2 IS DECLINED"

unfoldable pub not_declined_text : List ℕ
not_declined_text = bytes "NOT m.2 IS DECLINED"

-- one entry of a kind, on m.2
abbrev pub mark_card : ℕ → List ℕ
mark_card kind = 1 ∷ 0 ∷ 1 ∷ 3 ∷ kind ∷ 1 ∷ 0 ∷ 0 ∷ 0 ∷ 0 ∷ 2 ∷ 0 ∷ 0 ∷ 0 ∷ 0 ∷ 0 ∷ 0 ∷ 0 ∷ 0 ∷ []

unfoldable pub both_text : List ℕ
both_text = bytes "NOT (m.2 IS DECLINED AND NOT m.1 IS DECLINED) OR 5 IS NOT DECLINED"

abbrev pub both_bytes : List ℕ
both_bytes =
    5 ∷ 0 ∷ 1 ∷ 3
    ∷ 2 ∷ 2 ∷ 10 ∷ 9 ∷ 10
    ∷ 5 ∷ 0 ∷ 0 ∷ 0 ∷ 0 ∷ 0 ∷ 0 ∷ 0 ∷ 0 ∷ 0 ∷ 0 ∷ 0 ∷ 0 ∷ 0
    ∷ 4 ∷ 0 ∷ 0 ∷ 0 ∷ 0 ∷ 0 ∷ 0 ∷ 0 ∷ 0 ∷ 0 ∷ 0 ∷ 0 ∷ 0 ∷ 0
    ∷ 3 ∷ 0 ∷ 0 ∷ 0 ∷ 0 ∷ 2 ∷ 0 ∷ 0 ∷ 0 ∷ 0 ∷ 0 ∷ 0 ∷ 0 ∷ 0
    ∷ 4 ∷ 0 ∷ 0 ∷ 0 ∷ 0 ∷ 1 ∷ 0 ∷ 0 ∷ 0 ∷ 0 ∷ 0 ∷ 0 ∷ 0 ∷ 0
    ∷ 5 ∷ 0 ∷ 0 ∷ 0 ∷ 255 ∷ 5 ∷ 0 ∷ 0 ∷ 0 ∷ 0 ∷ 0 ∷ 0 ∷ 0 ∷ 0
    ∷ []

-- ---- a later file for the tables of the proved cases

abbrev pub later_tables : List ℕ
later_tables =
    (3 ∷ 2 ∷ 1 ∷ 0 ∷ 1 ∷ 0 ∷ 0 ∷ 1 ∷ 2 ∷ 0 ∷ [])
    ++ (bytes32 4000000000 ++ bytes32 0 ++ bytes32 17 ++ bytes32 18)
    ++ (1 ∷ 0 ∷ 0 ∷ 2 ∷ [])

-- ---- RUN and LIST on the card of case 3, which is true on rows 0 and 2

-- a card that fills its buffer
unfoldable pub third_card : List ℕ
third_card = (card_call (bytes "m.2 > 0 OR NOT m.2 > 0") case_tables (replicate 51 0)).buffer

-- ---- the refusal table

-- the number of the refusal that an answer is
abbrev pub refusal_of : {A : Type 0} → Answer A → Option ℕ
refusal_of (Refused n) = some n
refusal_of (Given x) = none

-- one table, one column, no rows
abbrev pub empty_tables : List ℕ
empty_tables = 1 ∷ 1 ∷ 0 ∷ 0 ∷ []

-- one table of two columns and three rows, all cells 0
abbrev pub three_rows : List ℕ
three_rows = (1 ∷ 2 ∷ 3 ∷ 0 ∷ []) ++ replicate 30 0

-- READ with room for 64 parts
unfoldable pub read_refusal : List ℕ → List ℕ → Option ℕ
read_refusal text file = refusal_of (read_call text file (replicate 64 (part_by 0 0 0 0 unused unused))).result

-- the examples of the table, in its order; that of 2 'ends in 03' (document 02, Point 4), and 6 has two. Then a bad mark, and wrong sizes, with a text that is refused too. Then 13 from each call that reads, before 11 and 12: seven IS UNKNOWN in one another, a sum of 255; and
-- 11 and 12 where six of them, 127, are no reason to refuse
unfoldable pub refusal_examples : List (Option ℕ)
refusal_examples =
    read_refusal (bytes "1 = 1") (0 ∷ [])
    ∷ read_refusal (bytes "1 = 1") (0x01 ∷ 0x01 ∷ 0x01 ∷ 0x00 ∷ 0x00 ∷ 0x00 ∷ 0x00 ∷ 0x00 ∷ 0x03 ∷ [])
    ∷ read_refusal (replicate 4097 32) empty_tables
    ∷ read_refusal (bytes "m.1 = 2147483648") empty_tables
    ∷ read_refusal (replicate 33 40) empty_tables
    ∷ read_refusal [] empty_tables
    ∷ read_refusal (bytes "m.1 =") empty_tables
    ∷ read_refusal (chained 32) empty_tables
    ∷ read_refusal (bytes "k.1 = 1") empty_tables
    ∷ refusal_of (check_call (0x00 ∷ 0x00 ∷ []))
    ∷ refusal_of (run_call worked_card three_rows 0)
    ∷ refusal_of (judge_call (bytes "m.1 = 1") three_rows 3)
    ∷ refusal_of (card_call worked_text worked_tables (replicate 18 0)).result
    ∷ read_refusal (bytes "!") (0x01 ∷ 0x01 ∷ 0x01 ∷ 0x00 ∷ 0x00 ∷ 0x00 ∷ 0x00 ∷ 0x00 ∷ 0x03 ∷ [])
    ∷ read_refusal (replicate 4097 32) (0 ∷ [])
    ∷ read_refusal (unknown_of 7 (bytes "1 = 1")) empty_tables
    ∷ refusal_of (read_call (unknown_of 7 (bytes "1 = 1")) empty_tables []).result
    ∷ refusal_of (judge_call (unknown_of 7 (bytes "1 = 1")) empty_tables 99)
    ∷ refusal_of (card_call (unknown_of 7 (bytes "1 = 1")) empty_tables []).result
    ∷ refusal_of (judge_call (unknown_of 6 (bytes "1 = 1")) empty_tables 99)
    ∷ refusal_of (card_call (unknown_of 6 (bytes "1 = 1")) empty_tables []).result
    ∷ []

abbrev pub refusal_numbers : List (Option ℕ)
refusal_numbers = map some (1 ∷ 2 ∷ 3 ∷ 4 ∷ 5 ∷ 6 ∷ 6 ∷ 7 ∷ 8 ∷ 9 ∷ 10 ∷ 11 ∷ 12 ∷ 2 ∷ 1 ∷ 13 ∷ 13 ∷ 13 ∷ 13 ∷ 11 ∷ 12 ∷ [])
