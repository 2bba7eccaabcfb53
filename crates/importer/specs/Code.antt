-- What the functions of src/ promise one another: a line read from the left, where the number of its fields is known, and the cells that are kept. The
-- contract of IMPORT cites nothing of this file.
use Rattle.std.specs.Prelude.{◌≡◌, Bool, true, false, cond, ℕ, zero, suc, ◌+◌, ◌*◌, ◌<◌, ◌≤◌, eqb, ℤ, List, [], ◌∷◌, ◌++◌, map, length, take, drop, Option, Some, None}
use mathlib.Core.List.{flat_map}
use Rattle.std.proofs.Math.Option.{Option as MathOption, none, some}
use Rattle.tables.specs.Lists.{◌>>=◌, only}
use Rattle.tables.specs.Tables.{most_rows, most_cells, Cell, Blank, Declined, Present, Row, Table}
use Rattle.files.specs.Files.{RawCell, raw_cell, value_bytes}
use Rattle.numerals.specs.Numerals.{first_number}
use Rattle.lines.specs.Lines.{comma, line_feed, carriage_return, exclamation, table_read}
use Rattle.lines.specs.Calls.{stored_cell, fields_counted}
use Rattle.importer.specs.declared.Field.{Field}

-- ---- one field

-- a declined cell of one byte where a `!` stands, else a blank cell of no bytes
abbrev pub lone_cell : Bool → Cell × ℕ
lone_cell true = (Declined, 1)
lone_cell false = (Blank, 0)

-- the cell of a text that begins with no number, and how many bytes it takes
abbrev pub other_cell : List ℕ → Cell × ℕ
other_cell [] = (Blank, 0)
other_cell (b ∷ bs) = lone_cell (eqb b exclamation)

-- the cell of the number that a text begins with, and how many bytes it takes; the other cell where it begins with none
abbrev pub number_cell : Cell × ℕ → MathOption (ℤ × ℕ) → Cell × ℕ
number_cell other none = other
number_cell other (some x) = (Present x.0, x.1)

unfoldable pub field_from : List ℕ → Cell × ℕ
field_from text = number_cell (other_cell text) (first_number text)

-- the field at place i: its cell as it is stored, and the place behind it, which is in the text
pub record FieldAt (text : List ℕ) (i : ℕ) (f : Field) : Type 0 where
  pub stored : raw_cell f.bits f.mark ≡ stored_cell (field_from (drop i text)).0
  pub ends : f.end ≡ i + (field_from (drop i text)).1
  pub inside : f.end ≤ length text

-- ---- what stands behind a field

-- behind a CR: how many bytes the line end takes, if LF follows
unfoldable pub feed_from : List ℕ → MathOption ℕ
feed_from [] = none
feed_from (b ∷ bs) = only (eqb b line_feed) 2

-- how many bytes the line end takes, if one stands there; the last line may have none
unfoldable pub end_from : List ℕ → MathOption ℕ
end_from [] = some 0
end_from (b ∷ bs) = cond (eqb b line_feed) (some 1) (cond (eqb b carriage_return) (feed_from bs) none)

-- how many bytes the comma takes, if one stands there
unfoldable pub comma_from : List ℕ → MathOption ℕ
comma_from [] = none
comma_from (b ∷ bs) = only (eqb b comma) 1

-- where so many fields of the line are left: a comma, or the line end
unfoldable pub behind_from : ℕ → List ℕ → MathOption ℕ
behind_from zero text = end_from text
behind_from (suc left) text = comma_from text

-- the place behind what takes so many bytes from i on
abbrev pub place_after : ℕ → MathOption ℕ → Option ℕ
place_after i none = None
place_after i (some n) = Some (i + n)

-- ---- a line

-- the cells of what is left of a line, with so many fields, and how many bytes it takes with its end
unfoldable pub line_from : ℕ → List ℕ → MathOption (Row × ℕ)
line_from zero text = some ([], 0)
line_from (suc left) text =
    let x = field_from text in
    behind_from left (drop x.1 text) >>= λ n. (line_from left (drop (x.1 + n) text) >>= λ r. some (x.0 ∷ r.0, x.1 + n + r.1))

abbrev pub line_after : ℕ → MathOption (Row × ℕ) → Option ℕ
line_after i none = None
line_after i (some r) = Some (i + r.1)

-- ---- the cells that are kept

-- room for as many values as marks
pub record Room (values : List (List ℕ)) (marks : List ℕ) : Type 0 where
  pub both : length values ≡ length marks
  pub few : length marks ≤ most_cells

-- values and marks of these cells stand at the start of two arrays
pub record Kept (values : List (List ℕ)) (marks : List ℕ) (cells : List RawCell) : Type 0 where
  pub values_kept : take (length cells) values ≡ map value_bytes cells
  pub marks_kept : take (length cells) marks ≡ map (λ c. c.mark) cells

-- from two arrays to two others: as long, and where k cells were kept, these are kept besides, if there is room for them
pub record MoreKept (values : List (List ℕ)) (marks : List ℕ) (k : ℕ) (cells : List RawCell) (values' : List (List ℕ)) (marks' : List ℕ) : Type 0 where
  pub room : Room values' marks'
  pub long : length marks' ≡ length marks
  pub kept : (before : List RawCell) → length before ≡ k → k + length cells ≤ length marks → Kept values marks before → Kept values' marks' (before ++ cells)

-- a line that was read: the place behind it, and its cells
pub record LineKept (text : List ℕ) (i columns k : ℕ) (values : List (List ℕ)) (marks : List ℕ) (r : Option ℕ) (values' : List (List ℕ)) (marks' : List ℕ) : Type 0 where
  pub after : r ≡ line_after i (line_from columns (drop i text))
  pub room : Room values' marks'
  pub long : length marks' ≡ length marks
  pub more : (x : Row × ℕ) → line_from columns (drop i text) ≡ some x → MoreKept values marks k (map stored_cell x.0) values' marks'

-- ---- all lines

-- the table that a text says, if each line has so many fields
abbrev pub if_counted : ℕ → MathOption Table → MathOption Table
if_counted columns none = none
if_counted columns (some rows) = only (fields_counted columns rows) rows

unfoldable pub rows_in : ℕ → List ℕ → MathOption Table
rows_in columns text = if_counted columns (table_read text)

abbrev pub rows_counted : MathOption Table → Option ℕ
rows_counted none = None
rows_counted (some rows) = Some (length rows)

-- all lines that were read: how many they are, and their cells, if there is room and they are not too many
pub record TableKept (text : List ℕ) (columns : ℕ) (values : List (List ℕ)) (marks : List ℕ) (r : Option ℕ) (values' : List (List ℕ)) (marks' : List ℕ) : Type 0 where
  pub counted : r ≡ rows_counted (rows_in columns text)
  pub kept : (rows : Table) → rows_in columns text ≡ some rows → length rows ≤ most_rows → length rows * columns ≤ length marks
      → Kept values' marks' (flat_map (map stored_cell) rows)
  pub bound : (rows : Table) → rows_in columns text ≡ some rows → length rows * columns ≤ length text + 1
  pub room : Room values' marks'
  pub long : length marks' ≡ length marks

-- there is room for all cells that are allowed, or for all that the text can say: a byte stands behind each but the last
pub data Few (text : List ℕ) (cells : ℕ) : Type 0 where
  all_cells : most_cells ≤ cells → Few text cells
  short_text : length text < cells → Few text cells
