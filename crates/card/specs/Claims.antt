-- What proofs/ shows of these definitions.
use Rattle.std.specs.Prelude.{◌≡◌, true, false, ◌↔◌, ◌⊎◌, ℕ, ◌<◌, ◌≤◌, length, get_or, drop}
use mathlib.Core.List.{List, ◌++◌, map, Memᴰ}
use Rattle.std.proofs.Math.Option.{none, some}
use Rattle.tables.specs.Tables.{Tables, row_count}
use Rattle.tables.specs.Values.{Env}
use Rattle.tables.specs.Claims.{as_blank, tables_as_blank}
use Rattle.tables.specs.Refusals.{numbers, first_applying, Refused, Given, lend_refusals}
use Rattle.card.specs.Card.{Card, answer, entries}
use Rattle.card.specs.Layout.{kind_bytes, asks_declined, card_bytes, card_length, columns_in, card_from}
use Rattle.card.specs.Sound.{sound, Sound}
use Rattle.card.specs.Calls.{says_yes, yes_rows, check_refusals, gate_refusals, run_refusals, check_order, run_order, list_order, check_call, run_call, list_call}
use Rattle.card.specs.Cases.{edges, gate_edges, gate_answers, gate_expected, kind_cases, kind_answers, kind_expected}

-- the test of a sound card passes just those bytes that are the bytes of a fitting card, and reads that card and its columns from them; what
-- fits, and the limits, are the same definitions on both sides (EdgesClaim tries them)
pub record SoundClaim : Type 0 where
  pub passes : (bs : List ℕ) → Sound bs → sound bs ≡ true
  pub passes_only : (bs : List ℕ) → ((i : ℕ) → get_or bs i 0 < 256) → sound bs ≡ true → Sound bs
  pub holds_card : (bs : List ℕ) (s : Sound bs) → card_from bs ≡ some s.card
  pub holds_columns : (bs : List ℕ) (s : Sound bs) → columns_in bs ≡ s.columns

-- the length in bytes that the section Card gives
abbrev pub LengthClaim : Type 0
LengthClaim = (columns : List ℕ) (c : Card) → length (card_bytes columns c) ≡ card_length (length columns) (entries c)

-- document 02, Point 4: a card asks whether cells are declined exactly where one of its entries has kind 9 or kind 10
abbrev pub AsksClaim : Type 0
AsksClaim = (c : Card) → (asks_declined c ≡ true) ↔ (Memᴰ 9 (kind_bytes c) ⊎ Memᴰ 10 (kind_bytes c))

-- declined 'is blank in every respect': a card without such entries gives the same answer when every declined cell is taken for a blank one, whatever the tables hold and at whatever
-- rows
abbrev pub DeclinedBlankClaim : Type 0
DeclinedBlankClaim = (ts : Tables) (env : Env) (c : Card) → asks_declined c ≡ false → answer ts env c ≡ answer (tables_as_blank ts) (map (map as_blank) env) c

-- CHECK, RUN and LIST by cases: CHECK passes just the sound cards; what RUN and LIST look at first is passed up unchanged, with the buffer as it
-- was; then RUN gives the card's answer unless table 1 has no such row, and LIST the rows unless the buffer has fewer elements
pub record CallsClaim : Type 0 where
  pub check_sound : (card : List ℕ) → sound card ≡ true → check_call card ≡ Given tt
  pub check_unsound : (card : List ℕ) → sound card ≡ false → check_call card ≡ Refused 9
  pub run_refused : (card file : List ℕ) (row n : ℕ) → first_applying (gate_refusals card file) ≡ some n → run_call card file row ≡ Refused n
  pub run_no_row : (card file : List ℕ) (row : ℕ) → first_applying (gate_refusals card file) ≡ none → row_count file 1 ≤ row → run_call card file row ≡ Refused 11
  pub run_given : (card file : List ℕ) (row : ℕ) → first_applying (gate_refusals card file) ≡ none → row < row_count file 1
      → run_call card file row ≡ Given (says_yes card file row)
  pub list_refused : (card file buffer : List ℕ) (n : ℕ) → first_applying (gate_refusals card file) ≡ some n
      → list_call card file buffer ≡ record { result = Refused n; buffer = buffer }
  pub list_short : (card file buffer : List ℕ) → first_applying (gate_refusals card file) ≡ none → length buffer < length (yes_rows card file)
      → list_call card file buffer ≡ record { result = Refused 12; buffer = buffer }
  pub list_given : (card file buffer : List ℕ) → first_applying (gate_refusals card file) ≡ none → length (yes_rows card file) ≤ length buffer
      → list_call card file buffer ≡ record { result = Given (length (yes_rows card file)); buffer = yes_rows card file ++ drop (length (yes_rows card file)) buffer }

-- CHECK, RUN and LIST try their refusals in the published order, whatever they are given, and so the first in that order is given (FirstClaim of the crate
-- tables)
pub record OrderClaim : Type 0 where
  pub checking : (card : List ℕ) → numbers (check_refusals card) ≡ check_order
  pub running : (card file : List ℕ) (row : ℕ) → numbers (run_refusals card file row) ≡ run_order
  pub listing : (card file buffer : List ℕ) → numbers (lend_refusals (gate_refusals card file) (yes_rows card file) buffer) ≡ list_order

-- RUN and LIST on cards and files of which several may be wrong, together
abbrev pub GateEdgesClaim : Type 0
GateEdgesClaim = map gate_answers gate_edges ≡ map gate_expected gate_edges

-- the cards at the edges of soundness, together
abbrev pub EdgesClaim : Type 0
EdgesClaim = map (λ e. sound e.card) edges ≡ map (λ e. e.is_sound) edges

-- each kind, by its byte: RUN row by row, LIST with room and without, together
abbrev pub KindsClaim : Type 0
KindsClaim = map kind_answers kind_cases ≡ map kind_expected kind_cases
