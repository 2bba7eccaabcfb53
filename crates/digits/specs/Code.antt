-- What the functions of src/ promise one another and their callers, in the terms of the code: runs of bytes at places of a text, and numbers.
-- No contract of a public call cites this file.
use Rattle.std.specs.Prelude.{◌≡◌, List, ℕ, zero, suc, ◌+◌, ◌*◌, ◌-◌, ◌<◌, ◌≤◌, ℤ, length, drop, Option, Some, None, MatchOption}
use Rattle.std.proofs.Math.Option.{Option as MathOption, none, some}
use Rattle.tables.specs.Bytes.{between}
use Rattle.numerals.specs.Texts.{take_while}
use Rattle.numerals.specs.Numerals.{is_digit, most_digits, in_base}
use Rattle.digits.specs.declared.Run.{Run}
use Rattle.digits.specs.declared.Found.{Found}

-- ---- runs of bytes

abbrev pub power : ℕ → ℕ → ℕ
power base zero = 1
power base (suc k) = base * power base k

-- the bytes from low to high are digits of the base, and so many of them make up at most a number of 64 bits
pub record Spellable (low high base zero_byte most : ℕ) : Type 0 where
  pub digits_low : zero_byte ≤ low
  pub digits_high : high < base + zero_byte
  pub fits : power base most ≤ 18446744073709551616

-- the run of these bytes that starts at place i: the place after it, and what it spells, unless it is too long
pub record RunAt (text : List ℕ) (i low high base zero_byte most : ℕ) (r : Run) : Type 0 where
  pub ends : r.end ≡ i + length (take_while (between low high) (drop i text))
  pub spells : r.end - i ≤ most → r.number ≡ in_base base zero_byte 0 (take_while (between low high) (drop i text))

-- ---- numbers

-- the run of digits from place i on, where it has 1 to 10 of them, and the number that they spell is at most so great
abbrev pub DigitsAt : List ℕ → ℕ → ℕ → Option Run → Type 0
DigitsAt text i greatest r =
    let digits = take_while is_digit (drop i text) in
    let fits = (1 ≤ length digits) × ((length digits ≤ most_digits) × (in_base 10 48 0 digits ≤ greatest)) in
    MatchOption r (fits → ⊥) (λ run. fits × ((run.end ≡ i + length digits) × (run.number ≡ in_base 10 48 0 digits)))

-- a number that was found, and how many bytes it takes from place i on
abbrev pub found_as : ℕ → Option Found → MathOption (ℤ × ℕ)
found_as i (Some r) = some (r.number, r.end - i)
found_as i None = none
