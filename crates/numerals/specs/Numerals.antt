-- Numbers as texts. Document 01, Rule text: a number is a minus or none, then the whole run of digits, at most 10, −2,147,483,648 to 2,147,483,647.
-- Document 02, Point 2: numbers are written without spare zeros.
use Rattle.std.specs.Prelude.{Bool, true, false, ◌&&◌, ◌||◌, List, [], ◌∷◌, ◌++◌, ℕ, zero, suc, ◌+◌, ◌*◌, ◌-◌, ◌/◌, ◌%◌, eqb, ltb, ℤ, pos, negsuc, neg_ℤ, length}
use Rattle.std.proofs.Math.Option.{Option, none}
use Rattle.tables.specs.Lists.{same, only, ◌>>=◌}
use Rattle.tables.specs.Bytes.{between, in_range}
use Rattle.numerals.specs.Texts.{take_while}

-- ---- the bytes

-- the digit d, 0 to 9
abbrev pub digit : ℕ → ℕ
digit d = 48 + d

abbrev pub is_digit : ℕ → Bool
is_digit = between 48 57

abbrev pub minus : ℕ
minus = 45

-- ---- reading

-- how many digits a number may have
abbrev pub most_digits : ℕ
most_digits = 10

-- the number that bytes spell as digits of a base, where n is spelled before them; zero_byte is the byte of the digit 0
abbrev pub in_base : ℕ → ℕ → ℕ → List ℕ → ℕ
in_base base zero_byte n [] = n
in_base base zero_byte n (b ∷ bs) = in_base base zero_byte (base * n + (b - zero_byte)) bs

-- the number that decimal digits spell
abbrev pub spelled : List ℕ → ℕ
spelled digits = in_base 10 (digit 0) 0 digits

-- a number with a minus before it
abbrev pub negative : ℕ → ℤ
negative n = neg_ℤ (pos n)

-- a run of digits as a number with its sign, and how many bytes it takes, where so many stand before the run: 1 to 10 digits, −2,147,483,648 to 2,147,483,647
unfoldable pub number_of : (ℕ → ℤ) → ℕ → List ℕ → Option (ℤ × ℕ)
number_of sign before digits =
    let k = sign (spelled digits) in
    only (between 1 most_digits (length digits) && in_range k) (k, before + length digits)

-- the number that a text begins with, and how many bytes it takes: a minus or none, then the whole run of digits
unfoldable pub first_number : List ℕ → Option (ℤ × ℕ)
first_number [] = none
first_number (b ∷ bs) =
    elim (eqb b minus) [ true ↦ number_of negative 1 (take_while is_digit bs) | false ↦ number_of pos 0 (take_while is_digit (b ∷ bs)) ]

-- the number that a whole text is: one that takes all of its bytes
unfoldable pub numeral_of : List ℕ → Option ℤ
numeral_of text = first_number text >>= λ x. only (eqb x.1 (length text)) x.0

-- ---- writing

-- the digits of a number without spare zeros, at most so many: below ten it is a digit itself, else the digits of its tenth stand before the last one
unfoldable pub digits_of : ℕ → ℕ → List ℕ
digits_of zero n = []
digits_of (suc most) n = elim (ltb n 10) [ true ↦ digit n ∷ [] | false ↦ digits_of most (n / 10) ++ (digit (n % 10) ∷ []) ]

-- a number of 32 bits as it is written
abbrev pub numeral : ℤ → List ℕ
numeral (pos n) = digits_of most_digits n
numeral (negsuc n) = minus ∷ digits_of most_digits (suc n)

-- ---- spare zeros

-- a text begins with one of the digits 1 to 9
abbrev pub leads : List ℕ → Bool
leads [] = false
leads (b ∷ bs) = between (digit 1) (digit 9) b

-- of a text that is a number, that it has no spare zeros: it is 0 alone, or its digits begin with another one, with a minus before them or none; so it is not −0
abbrev pub is_plain : List ℕ → Bool
is_plain [] = false
is_plain (b ∷ bs) = elim (eqb b minus) [ true ↦ leads bs | false ↦ leads (b ∷ bs) || same (b ∷ bs) (digit 0 ∷ []) ]
