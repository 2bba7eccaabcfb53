-- Document 02, Points 2 and 4: the grammar of comma lines, production by production, after RFC 4180: a field, a line, a line end, and lines.
use Rattle.std.specs.Prelude.{List, [], ◌∷◌, ◌++◌, ℕ, ℤ}
use Rattle.tables.specs.Tables.{Cell, Blank, Declined, Present, Row, Table}
use Rattle.numerals.specs.Claims.{IsNumeral}
use Rattle.lines.specs.Lines.{comma, line_feed, carriage_return, exclamation}

-- field: a number, empty for blank, or a lone `!` for declined
pub data IsField : List ℕ → Cell → Type 0 where
  -- number
  number : {t : List ℕ} {k : ℤ} → IsNumeral t k → IsField t (Present k)
  -- nothing
  empty : IsField [] Blank
  -- !
  declined : IsField (exclamation ∷ []) Declined

-- line: fields with commas between them, one at least
pub data IsLine : List ℕ → Row → Type 0 where
  -- field
  one_field : {t : List ℕ} {x : Cell} → IsField t x → IsLine t (x ∷ [])
  -- field , line
  more_fields : {t u : List ℕ} {x : Cell} {xs : Row} → IsField t x → IsLine u xs → IsLine (t ++ (comma ∷ u)) (x ∷ xs)

-- line end: LF or CRLF
pub data IsLineEnd : List ℕ → Type 0 where
  -- LF
  lf : IsLineEnd (line_feed ∷ [])
  -- CR LF
  crlf : IsLineEnd (carriage_return ∷ line_feed ∷ [])

-- lines: each with its end, the last perhaps without; no line begins after the last line end, so a line without end is not empty; and an empty file has no rows
pub data IsLines : List ℕ → Table → Type 0 where
  -- nothing
  no_line : IsLines [] []
  -- line, not empty
  last_line : {b : ℕ} {t : List ℕ} {row : Row} → IsLine (b ∷ t) row → IsLines (b ∷ t) (row ∷ [])
  -- line, line end, lines
  ended_line : {t e u : List ℕ} {row : Row} {rows : Table} → IsLine t row → IsLineEnd e → IsLines u rows → IsLines (t ++ (e ++ u)) (row ∷ rows)
