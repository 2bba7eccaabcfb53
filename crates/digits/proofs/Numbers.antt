-- A number that is found, from the run of its digits.
use mathlib.Core.Path.{◌≡◌, refl, sym, ap, ◌∙◌}
use mathlib.Core.Bool.{Bool, true, false, and-false}
use mathlib.Core.List.{List, ◌∷◌}
use mathlib.Core.Option.{Option as MathOption, none, some}
use Rattle.std.specs.Prelude.{Option, Some, None}
use Prim.Native.Nat.{ℕ, zero, suc, ◌+◌, ◌-◌, ◌≤◌, ◌<◌}
use native.Mathlib.Omega.{arith}
use borrow.Author.Tests.{leb-true, leb-false, lt-ltb, le-ltb}
use lib.Dec.{leb}
use lib.IntN.{ℤ, pos}
use lib.ListN.{length, drop, get_or, length-drop, drop_of_length-le}
use lib.Seq.{drop-cons}
use Rattle.tables.specs.Bytes.{between, in_range}
use Rattle.tables.proofs.Tests.{between_yes, between_no}
use Rattle.numerals.specs.Texts.{take_while}
use Rattle.numerals.specs.Numerals.{is_digit, minus, most_digits, spelled, negative, number_of, first_number}
use Rattle.numerals.proofs.Reading.{first_minus, first_other, first_told}
use Rattle.digits.specs.Code.{DigitsAt, found_as}
use Rattle.digits.specs.declared.Run.{Run}
use Rattle.digits.specs.declared.Found.{Found}

-- ---- the range of a number

pub above_in : (n : ℕ) → n ≤ 2147483647 → in_range (pos n) ≡ true
above_in n h = lt-ltb n 2147483648 (omega arith)

pub above_out : (n : ℕ) → 2147483647 < n → in_range (pos n) ≡ false
above_out n h = le-ltb n 2147483648 (omega arith)

pub range_below : (n : ℕ) → n ≤ 2147483648 → in_range (negative n) ≡ true
range_below zero h = refl
range_below (suc n) h = lt-ltb n 2147483648 (omega arith)

pub range_out : (n : ℕ) → 2147483648 < n → in_range (negative n) ≡ false
range_out zero h = absurd (omega arith)
range_out (suc n) h = le-ltb n 2147483648 (omega arith)

-- ---- the number of the digits that stand at place i

module _ (sign : ℕ → ℤ) (before : ℕ) (text : List ℕ) (i greatest : ℕ) where
  abbrev digits : List ℕ
  digits = take_while is_digit (drop i text)

  -- no digit, or too many, or a number that is too great
  pub number_no : ((n : ℕ) → greatest < n → in_range (sign n) ≡ false) → DigitsAt text i greatest None → none ≡ number_of sign before digits
  unfolding number_of
  number_no out f = go (leb (spelled digits) greatest) refl
    where
      go : (t : Bool) → leb (spelled digits) greatest ≡ t → none ≡ number_of sign before digits
      go true e = rw (between_no 1 most_digits (length digits) (λ low high. f (low, (high, leb-true _ _ e))))
      go false e = rw (out (spelled digits) (leb-false _ _ e), and-false (between 1 most_digits (length digits)))

  pub number_found : (run : Run) → ((n : ℕ) → n ≤ greatest → in_range (sign n) ≡ true) → DigitsAt text i greatest (Some run) → (c : ℤ) (j : ℕ)
      → c ≡ sign run.number → run.end - j ≡ before + (run.end - i) → some (c, run.end - j) ≡ number_of sign before digits
  unfolding number_of
  number_found run fits ((low, (high, most)), (ends, is)) c j t k =
      let long : run.end - i ≡ length digits = omega arith in
      rw (between_yes 1 most_digits (length digits) low high, fits (spelled digits) most, t, k, long, is)

-- ---- the number at place i of a text

pub nothing_at : (text : List ℕ) (i : ℕ) → length text ≤ i → none ≡ first_number (drop i text)
unfolding first_number
nothing_at text i h = sym (ap first_number (drop_of_length-le text h))

module _ (text : List ℕ) (i b : ℕ) (h : i < length text) (w : b ≡ get_or text i 0) where
  here : drop i text ≡ get_or text i 0 ∷ drop (suc i) text
  here = drop-cons text i 0 h

  pub unsigned_here : (o : MathOption (ℤ × ℕ)) → (b ≡ minus → ⊥) → o ≡ number_of pos 0 (take_while is_digit (drop i text)) → o ≡ first_number (drop i text)
  unsigned_here o z e =
      e ∙ ap (λ (l : List ℕ). number_of pos 0 (take_while is_digit l)) here
      ∙ sym (ap first_number here ∙ first_other (get_or text i 0) (drop (suc i) text) (λ m. z (w ∙ m)))

  pub minus_here : (r : Option Found) → b ≡ minus → found_as (i + 1 - 1) r ≡ number_of negative 1 (take_while is_digit (drop (i + 1) text))
      → found_as i r ≡ first_number (drop i text)
  minus_here r z e =
      let start : i ≡ i + 1 - 1 = omega arith in
      let next : i + 1 ≡ suc i = omega arith in
      ap (λ (k : ℕ). found_as k r) start ∙ e ∙ ap (λ (k : ℕ). number_of negative 1 (take_while is_digit (drop k text))) next
      ∙ sym (ap first_number here ∙ first_minus (get_or text i 0) (drop (suc i) text) (sym w ∙ z))

-- where a number that is found ends
pub found_ends : (text : List ℕ) (i : ℕ) (n : ℤ) (e : ℕ) → some (n, e - i) ≡ first_number (drop i text) → (i < e) × (e ≤ length text)
found_ends text i n e f =
    let told = first_told (drop i text) n (e - i) (sym f) in
    let low = told.some_byte in
    let high = told.within in
    (omega arith, omega (arith, length-drop i text))
