-- Document 01, Proved cases, the paragraph on the program: what it prints for the bytes of its two files.
use Rattle.std.specs.Prelude.{◌≡◌, List, [], ◌∷◌, ◌++◌, ℕ, ◌+◌, ◌*◌, pos, length, take, drop}
use Rattle.std.proofs.Math.Option.{Option, none, some}
use Rattle.tables.specs.Tables.{most_rows, most_tables, most_cells, columns_of, row_count}
use Rattle.tables.specs.Refusals.{first_applying}
use Rattle.numerals.specs.Texts.{bytes}
use Rattle.numerals.specs.Numerals.{numeral}
use Rattle.rule.specs.Calls.{most_bytes, reading_refusals, rule_of, with_rule, true_rows}

abbrev pub line_feed : List ℕ
line_feed = 10 ∷ []

-- the row numbers, a line each
unfoldable pub row_lines : List ℕ → List ℕ
row_lines [] = []
row_lines (r ∷ rs) = (numeral (pos r) ++ line_feed) ++ row_lines rs

-- the admitted count, the rows of table 1, then the row numbers
unfoldable pub rows_text : ℕ → List ℕ → List ℕ
rows_text total rows = bytes "rows " ++ (numeral (pos (length rows)) ++ (bytes " of " ++ (numeral (pos total) ++ (line_feed ++ row_lines rows))))

-- a refusal
unfoldable pub refusal_text : ℕ → List ℕ
refusal_text n = bytes "refused " ++ (numeral (pos n) ++ line_feed)

abbrev pub output_for : List ℕ → List ℕ → Option ℕ → List ℕ
output_for text file (some n) = refusal_text n
output_for text file none = rows_text (row_count file 1) (with_rule (rule_of text (columns_of file)) [] (true_rows file))

-- the first refusal of reading that applies, or the rows where the rule is true
unfoldable pub output : List ℕ → List ℕ → List ℕ
output text file = output_for text file (first_applying (reading_refusals text file))

-- ---- how long its output is at most: a line of 18 bytes, and one of 5 for each row

abbrev pub most_output : ℕ
most_output = 18 + 5 * most_rows

-- ---- how much of its files the program reads: a byte more than any that is accepted has

abbrev pub read_of_text : ℕ
read_of_text = most_bytes + 1

abbrev pub read_of_tables : ℕ
read_of_tables = 1 + 3 * most_tables + 5 * most_cells + 1

-- what is written for what was read: where that is as much of two files as the program reads, it is the output for these files, from the start of a lent
-- buffer on, and how many bytes it has; the buffer past it is as it was
pub record WrittenFor (read_text read_tables before after : List ℕ) (n : ℕ) : Type 0 where
  pub bytes_are : (text file : List ℕ) → read_text ≡ take read_of_text text → read_tables ≡ take read_of_tables file
      → after ≡ output text file ++ drop (length (output text file)) before
  pub count_is : (text file : List ℕ) → read_text ≡ take read_of_text text → read_tables ≡ take read_of_tables file → n ≡ length (output text file)
