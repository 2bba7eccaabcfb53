-- A text that grows from the output's start on, and the two texts that are written so: a refusal, and a list of rows.
use mathlib.Core.Path.{◌≡◌, refl, sym, ap, ◌∙◌}
use mathlib.Core.List.{List, [], ◌++◌, append_assoc}
use Prim.Native.Nat.{ℕ, ◌+◌, ◌≤◌}
use native.Mathlib.Omega.{arith}
use lib.IntN.{pos}
use lib.ListN.{length, take, drop, length-append}
use lib.Seq.{length-take-le}
use Rattle.tables.specs.Lists.{placed}
use Rattle.tables.proofs.Placed.{placed_length, placed_none, placed_start, placed_next}
use Rattle.numerals.specs.Texts.{bytes}
use Rattle.numerals.specs.Numerals.{numeral}
use Rattle.admission.specs.Output.{most_output, line_feed, row_lines, rows_text, refusal_text}

-- this text was written from the start of an output on; it has at most so many bytes, and the next place is behind it
pub record Begun (before text : List ℕ) (most : ℕ) (out : List ℕ) (next : ℕ) : Type 0 where
  pub size : length out ≡ most_output
  pub short : next ≤ most
  pub ends : next ≡ length text
  pub begins : out ≡ placed before 0 text

pub begun_none : (out : List ℕ) → length out ≡ most_output → Begun out [] 0 out 0
begun_none out l = record { size = l; short = omega arith; ends = refl; begins = sym (placed_none out 0) }

-- some bytes more
pub begun_more : (before text : List ℕ) (most : ℕ) (out : List ℕ) (i : ℕ) → Begun before text most out i
    → (new after : List ℕ) (next k : ℕ) → after ≡ placed out i new → next ≡ i + length new → length new ≤ k → most + k ≤ most_output
    → Begun before (text ++ new) (most + k) after next
begun_more before text most out i b new after next k e n h room =
    let l = b.size in
    let s = b.short in
    record {
      size = ap length e ∙ placed_length out i new (omega arith) ∙ l;
      short = omega arith;
      ends = n ∙ ap (λ (m : ℕ). m + length new) b.ends ∙ sym (length-append text new);
      begins = e ∙ ap (λ (o : List ℕ). placed o i new) b.begins ∙ placed_next before 0 text i new (omega arith) (omega (arith, b.ends));
    }

-- what is known of the whole text
abbrev pub Answered : (before text out : List ℕ) (next : ℕ) → Type 0
Answered before text out next = (out ≡ placed before 0 text) × ((next ≡ length text) × ((next ≤ length out) × (next ≡ length (take next out))))

pub begun_answered : (before text : List ℕ) (most : ℕ) (out : List ℕ) (next : ℕ) → Begun before text most out next → most ≤ most_output
    → (text' : List ℕ) → text ≡ text' → Answered before text' out next
begun_answered before text most out next b room text' same =
    let l : next ≤ length out = omega (arith, b.size, b.short) in
    (b.begins ∙ ap (placed before 0) same, (b.ends ∙ ap length same, (l, sym (length-take-le next out l))))

-- and of another, which is the same
pub printed_as : (before text out : List ℕ) (next : ℕ) (text' : List ℕ) → Answered before text out next → text ≡ text'
    → (out ≡ text' ++ drop (length text') before) × ((next ≡ length text') × ((next ≤ length out) × (next ≡ length (take next out))))
printed_as before text out next text' a same =
    (a.0 ∙ ap (placed before 0) same ∙ placed_start before text', (a.1.0 ∙ ap length same, a.1.1))

pub refusal_grouped : (n : ℕ) → (bytes "refused " ++ numeral (pos n)) ++ line_feed ≡ refusal_text n
unfolding refusal_text
refusal_grouped n = append_assoc (bytes "refused ") (numeral (pos n)) line_feed

-- the first line of a list of rows, as far as its first number, and as far as its second
abbrev pub to_admitted : ℕ → List ℕ
to_admitted n = bytes "rows " ++ numeral (pos n)

abbrev pub to_total : ℕ → ℕ → List ℕ
to_total n total = (to_admitted n ++ bytes " of ") ++ numeral (pos total)

pub rows_grouped : (n total : ℕ) (rows : List ℕ) → length rows ≡ n → (to_total n total ++ line_feed) ++ row_lines rows ≡ rows_text total rows
unfolding rows_text
rows_grouped n total rows e = rw (sym e) (simp append_assoc)
