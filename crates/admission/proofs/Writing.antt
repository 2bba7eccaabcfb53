-- What is written piece by piece into the output: a word, a number, a line for each row.
use mathlib.Core.Path.{◌≡◌, refl, sym, ap, ◌∙◌}
use mathlib.Core.List.{List, [], ◌∷◌, ◌++◌, append_assoc, append-nil}
use Prim.Native.Nat.{ℕ, ◌+◌, ◌<◌, ◌≤◌}
use native.Mathlib.Omega.{arith}
use lib.IntN.{pos}
use lib.ListN.{length, get_or, take, set, length-append}
use Rattle.std.proofs.lemmas.List.{take_more}
use Rattle.tables.specs.Lists.{placed}
use Rattle.tables.proofs.Placed.{placed_length, placed_none, placed_one, placed_next}
use Rattle.numerals.specs.Numerals.{most_digits, numeral}
use Rattle.numerals.proofs.Digits.{digits_short}
use Rattle.admission.specs.Output.{line_feed, row_lines}

-- ---- one piece behind another

-- some bytes are written from place i on, and the next place is behind them
pub record Written (before : List ℕ) (i : ℕ) (bytes after : List ℕ) (next : ℕ) : Type 0 where
  pub is : after ≡ placed before i bytes
  pub behind : next ≡ i + length bytes

module _ (before : List ℕ) (i : ℕ) where
  written_none : Written before i [] before i
  written_none = record { is = sym (placed_none before i); behind = omega arith }

  module _ (bytes after : List ℕ) (next : ℕ) (w : Written before i bytes after next) where
    pub written_length : next ≤ length before → length after ≡ length before
    written_length room = let n = w.behind in ap length w.is ∙ placed_length before i bytes (omega arith)

    written_more : i ≤ length before → (more after' : List ℕ) (next' : ℕ) → Written after next more after' next' → Written before i (bytes ++ more) after' next'
    written_more room more after' next' v =
        let n = w.behind in
        let m = v.behind in
        let l = length-append bytes more in
        record {
          is = v.is ∙ ap (λ (o : List ℕ). placed o next more) w.is ∙ placed_next before i bytes next more room n;
          behind = omega arith;
        }

    -- one byte
    written_byte : (x : ℕ) → next < length before → Written before i (bytes ++ (x ∷ [])) (set after next x) (next + 1)
    written_byte x h =
        let n = w.behind in
        let l = written_length (omega arith) in
        written_more (omega arith) (x ∷ []) (set after next x) (next + 1) (record { is = placed_one after next x (omega arith); behind = refl })

-- ---- a number

pub number_length : (n : ℕ) → n < 10000 → length (numeral (pos n)) ≤ 4
number_length n h = digits_short most_digits 3 n h

-- ---- a line for each row

lines_append : (xs ys : List ℕ) → row_lines (xs ++ ys) ≡ row_lines xs ++ row_lines ys
unfolding row_lines
lines_append [] ys = refl
lines_append (x ∷ xs) ys =
    ap (λ (l : List ℕ). (numeral (pos x) ++ line_feed) ++ l) (lines_append xs ys) ∙ sym (append_assoc (numeral (pos x) ++ line_feed) (row_lines xs) (row_lines ys))

lines_next : (rows : List ℕ) (k : ℕ) → k < length rows → row_lines (take (k + 1) rows) ≡ row_lines (take k rows) ++ (numeral (pos (get_or rows k 0)) ++ line_feed)
unfolding row_lines
lines_next rows k h =
    ap row_lines (take_more rows k 0 h)
    ∙ lines_append (take k rows) (get_or rows k 0 ∷ [])
    ∙ ap (λ (l : List ℕ). row_lines (take k rows) ++ l) (append-nil (numeral (pos (get_or rows k 0)) ++ line_feed))

pub lines_none : (before : List ℕ) (i : ℕ) → Written before i (row_lines []) before i
unfolding row_lines
lines_none before i = written_none before i

pub line_written : (before rows out out' : List ℕ) (i k at at' : ℕ) → i ≤ length before → at ≤ length before → at' < length before → k < length rows
    → Written before i (row_lines (take k rows)) out at → Written out at (numeral (pos (get_or rows k 0))) out' at'
    → Written before i (row_lines (take (k + 1) rows)) (set out' at' 10) (at' + 1)
line_written before rows out out' i k at at' room room' h l w v =
    let s = written_length before i (row_lines (take k rows)) out at w room' in
    rw (lines_next rows k l)
    (written_more before i (row_lines (take k rows)) out at w room (numeral (pos (get_or rows k 0)) ++ line_feed) (set out' at' 10) (at' + 1)
    (written_byte out at (numeral (pos (get_or rows k 0))) out' at' v 10 (omega arith)))

pub ruleset numbers_short = (number_length)
