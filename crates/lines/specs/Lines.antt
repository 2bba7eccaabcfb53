-- Document 02, Point 2: a table as comma lines (RFC 4180 without quotes), read and written; of Point 4 the field of a declined cell. Which texts are such
-- lines is said by productions as well, in Grammar.antt.
use Rattle.std.specs.Prelude.{true, false, cond, ℕ, eqb}
use mathlib.Core.List.{List, [], ◌∷◌, ◌++◌, map, flat_map}
use Rattle.std.proofs.Math.Option.{Option, some}
use Rattle.tables.specs.Lists.{same, ◌>>=◌}
use Rattle.tables.specs.Tables.{Cell, Blank, Declined, Present, Row, Table}
use Rattle.numerals.specs.Numerals.{numeral_of, numeral}

-- ---- the bytes

-- between the fields of a line
abbrev pub comma : ℕ
comma = 44

-- LF
abbrev pub line_feed : ℕ
line_feed = 10

-- CR
abbrev pub carriage_return : ℕ
carriage_return = 13

-- `!`
abbrev pub exclamation : ℕ
exclamation = 33

-- Point 4: 'In the comma files a declined cell is a lone `!`'
abbrev pub declined_field : List ℕ
declined_field = exclamation ∷ []

-- ---- pieces of a text

-- a byte before the first of some pieces
abbrev pub before : ℕ → List (List ℕ) → List (List ℕ)
before b [] = (b ∷ []) ∷ []
before b (piece ∷ pieces) = (b ∷ piece) ∷ pieces

-- what stands between the bytes of a text that are `at`: a piece more than there are such bytes
unfoldable pub split : ℕ → List ℕ → List (List ℕ)
split at [] = [] ∷ []
split at (b ∷ bs) = elim (eqb b at) [ true ↦ [] ∷ split at bs | false ↦ before b (split at bs) ]

-- pieces with one of these bytes between two of them
unfoldable pub joined : ℕ → List (List ℕ) → List ℕ
joined at [] = []
joined at (piece ∷ []) = piece
joined at (piece ∷ next ∷ pieces) = piece ++ (at ∷ joined at (next ∷ pieces))

-- ---- reading

-- 'A field is a number as in document 01, or empty for blank', or a lone `!` for declined
unfoldable pub field_read : List ℕ → Option Cell
field_read [] = some Blank
field_read (b ∷ bs) = cond (same (b ∷ bs) declined_field) (some Declined) (numeral_of (b ∷ bs) >>= λ k. some (Present k))

-- what is read of each of some pieces, where each can be read
unfoldable pub each : {A B : Type 0} → (A → Option B) → List A → Option (List B)
each read [] = some []
each read (x ∷ xs) = read x >>= λ y. each read xs >>= λ ys. some (y ∷ ys)

-- a line without its end: one or more fields, with commas between them
unfoldable pub fields_of : List ℕ → List (List ℕ)
fields_of line = split comma line

unfoldable pub line_read : List ℕ → Option Row
line_read line = each field_read (fields_of line)

-- 'Lines end in LF or CRLF': what stands before an LF, without the CR that belongs to it
unfoldable pub without_return : List ℕ → List ℕ
without_return [] = []
without_return (b ∷ []) = elim (eqb b carriage_return) [ true ↦ [] | false ↦ b ∷ [] ]
without_return (b ∷ c ∷ bs) = b ∷ without_return (c ∷ bs)

-- the lines from what stands between the LFs: 'the last perhaps in neither; no line begins after the last line end'
unfoldable pub ended : List (List ℕ) → List (List ℕ)
ended [] = []
ended ([] ∷ []) = []
ended ((b ∷ bs) ∷ []) = (b ∷ bs) ∷ []
ended (piece ∷ next ∷ pieces) = without_return piece ∷ ended (next ∷ pieces)

-- the lines of a text, each without its end; 'An empty file has no rows'
unfoldable pub lines_of : List ℕ → List (List ℕ)
lines_of text = ended (split line_feed text)

-- the table that a text says, if each of its fields can be read: a row for each line
unfoldable pub table_read : List ℕ → Option Table
table_read text = each line_read (lines_of text)

-- ---- writing

-- 'numbers without spare zeros', nothing for a blank, and a lone `!` for a declined cell
unfoldable pub field_text : Cell → List ℕ
field_text Blank = []
field_text Declined = declined_field
field_text (Present k) = numeral k

-- 'LF after each line'
unfoldable pub line_text : Row → List ℕ
line_text row = joined comma (map field_text row) ++ (line_feed ∷ [])

unfoldable pub lines_text : Table → List ℕ
lines_text rows = flat_map line_text rows
