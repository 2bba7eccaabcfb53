-- What proofs/ shows of these definitions.
use Rattle.std.specs.Prelude.{◌≡◌, Bool, true, false, not, ◌||◌, List, ◌∷◌, ◌++◌, map, ◌↔◌, ℕ, suc, ◌≤◌, eqb, ℤ, pos, length, get_or}
use Rattle.std.proofs.Math.Option.{none, some}
use Rattle.tables.specs.Lists.{all}
use Rattle.tables.specs.Bytes.{in_range}
use Rattle.numerals.specs.Texts.{bytes}
use Rattle.numerals.specs.Numerals.{is_digit, minus, most_digits, spelled, negative, first_number, numeral_of, numeral, is_plain}
use Rattle.numerals.specs.Cases.{plain_cases, spare_cases, no_numerals, read_of, written_of, plain_of}

-- 1 to 10 digits, and the number that they spell, with its sign, in range
pub record DigitsAre (sign : ℕ → ℤ) (digits : List ℕ) (k : ℤ) : Type 0 where
  pub each : all is_digit digits ≡ true
  pub some_digit : 1 ≤ length digits
  pub few : length digits ≤ most_digits
  pub number : k ≡ sign (spelled digits)
  pub fits : in_range k ≡ true

-- a text is a number: digits alone, or a minus and then digits
pub data IsNumeral : List ℕ → ℤ → Type 0 where
  unsigned : {digits : List ℕ} {k : ℤ} → DigitsAre pos digits k → IsNumeral digits k
  signed : {digits : List ℕ} {k : ℤ} → DigitsAre negative digits k → IsNumeral (minus ∷ digits) k

-- the bytes of a number
abbrev pub is_numeral_byte : ℕ → Bool
is_numeral_byte b = is_digit b || eqb b minus

-- a number in range is read back from how it is written, and a text without spare zeros is had back from the number that it is; so different numbers are
-- written differently. What is read is in range. A text that is read has 1 to 11 bytes, each of them a digit or the minus, and so has one that is written
pub record NumeralsClaim : Type 0 where
  pub exactly : (t : List ℕ) (k : ℤ) → (numeral_of t ≡ some k) ↔ IsNumeral t k
  pub written_then_read : (k : ℤ) → in_range k ≡ true → numeral_of (numeral k) ≡ some k
  pub read_then_written : (t : List ℕ) (k : ℤ) → numeral_of t ≡ some k → is_plain t ≡ true → numeral k ≡ t
  pub written_plain : (k : ℤ) → in_range k ≡ true → is_plain (numeral k) ≡ true
  pub told_apart : (j k : ℤ) → in_range j ≡ true → in_range k ≡ true → numeral j ≡ numeral k → j ≡ k
  pub read_in_range : (t : List ℕ) (k : ℤ) → numeral_of t ≡ some k → in_range k ≡ true
  pub read_length : (t : List ℕ) (k : ℤ) → numeral_of t ≡ some k → (1 ≤ length t) × (length t ≤ suc most_digits)
  pub read_bytes : (t : List ℕ) (k : ℤ) → numeral_of t ≡ some k → all is_numeral_byte t ≡ true
  pub written_length : (k : ℤ) → in_range k ≡ true → (1 ≤ length (numeral k)) × (length (numeral k) ≤ suc most_digits)
  pub written_bytes : (k : ℤ) → in_range k ≡ true → all is_numeral_byte (numeral k) ≡ true

-- a number ends where its digits do: what a text that is not empty begins with is found alike where something else than a digit follows it
abbrev pub NumberEndsClaim : Type 0
NumberEndsClaim = (b : ℕ) (bs rest : List ℕ) → is_digit (get_or rest 0 0) ≡ false → first_number ((b ∷ bs) ++ rest) ≡ first_number (b ∷ bs)

-- the cases, together
pub record NumeralCasesClaim : Type 0 where
  pub plain_read : map read_of plain_cases ≡ map (λ c. some c.number) plain_cases
  pub plain_written : map written_of plain_cases ≡ map (λ c. bytes c.text) plain_cases
  pub plain_plain : all plain_of plain_cases ≡ true
  pub spare_read : map read_of spare_cases ≡ map (λ c. some c.number) spare_cases
  pub spare_plain : all (λ c. not (plain_of c)) spare_cases ≡ true
  pub none_read : map (λ t. numeral_of (bytes t)) no_numerals ≡ map (λ t. none) no_numerals
