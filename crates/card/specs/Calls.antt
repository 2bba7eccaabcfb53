-- CHECK, RUN and LIST (document 01, What the product holds): which refusal, or which answer, for any bytes and any row number.
use Rattle.std.specs.Prelude.{Bool, false, not, List, [], ◌∷◌, ◌++◌, ℕ}
use Rattle.std.proofs.Math.Option.{Option, none, some}
use Rattle.tables.specs.Lists.{same}
use Rattle.tables.specs.Tables.{columns_of, tables_of, rows_where}
use Rattle.tables.specs.Values.{judged_row}
use Rattle.tables.specs.Refusals.{passes, Refusal, ◌if◌, first_applying, Answer, unless, Lent, lend, tables_refusals, row_refusal}
use Rattle.card.specs.Card.{Card, answer}
use Rattle.card.specs.Layout.{columns_in, card_from}
use Rattle.card.specs.Sound.{sound}

-- the answer of the card that some bytes hold, at a row; bytes that hold none are no sound card, and no call asks for their answer
abbrev pub card_says : List ℕ → ℕ → Option Card → Bool
card_says file row none = false
card_says file row (some c) = answer (tables_of file) (judged_row (tables_of file) row) c

-- what a card says of a row of table 1
unfoldable pub says_yes : List ℕ → List ℕ → ℕ → Bool
says_yes card file row = card_says file row (card_from card)

-- the rows of table 1 that a card says yes to
abbrev pub yes_rows : List ℕ → List ℕ → List ℕ
yes_rows card file = rows_where file (says_yes card file)

-- ---- the refusals

-- 9: card not sound
unfoldable pub check_refusals : List ℕ → List Refusal
check_refusals card = (9 if not (sound card)) ∷ []

-- refusal 10 does not apply: the card was made for this number of tables and these columns (the number of tables is the list's length)
unfoldable pub fits_tables : List ℕ → List ℕ → Bool
fits_tables card file = same (columns_in card) (columns_of file)

-- what RUN and LIST look at first
unfoldable pub gate_refusals : List ℕ → List ℕ → List Refusal
gate_refusals card file = tables_refusals file ++ (check_refusals card ++ ((10 if not (fits_tables card file)) ∷ []))

unfoldable pub run_refusals : List ℕ → List ℕ → ℕ → List Refusal
run_refusals card file row = gate_refusals card file ++ (row_refusal file row ∷ [])

-- ---- the order of each call's refusals, by their numbers: where several apply, the first in the call's list is given. By document 01 it is 'the lowest
-- applying number', so each list rises

abbrev pub check_order : List ℕ
check_order = 9 ∷ []

abbrev pub run_order : List ℕ
run_order = 1 ∷ 2 ∷ 9 ∷ 10 ∷ 11 ∷ []

abbrev pub list_order : List ℕ
list_order = 1 ∷ 2 ∷ 9 ∷ 10 ∷ 12 ∷ []

-- ---- the calls

-- CHECK looks at a card alone: nothing to answer, or refusal 9
unfoldable pub check_call : List ℕ → Answer (Unit {0})
check_call card = passes (check_refusals card)

-- RUN answers yes or no for one row
unfoldable pub run_call : List ℕ → List ℕ → ℕ → Answer Bool
run_call card file row = unless (first_applying (run_refusals card file row)) (λ _. says_yes card file row)

-- LIST writes the numbers of the rows that the card says yes to into the lent list, one element each, and answers how many
unfoldable pub list_call : List ℕ → List ℕ → List ℕ → Lent ℕ
list_call card file buffer = lend (gate_refusals card file) (yes_rows card file) buffer
