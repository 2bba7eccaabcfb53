-- Texts and the numbers that they are: as they are written, and with spare zeros; and texts that are no number.
use Rattle.std.specs.Prelude.{Bool, List, [], ◌∷◌, ℕ, ℤ, pos, negsuc}
use Rattle.std.proofs.Math.Option.{Option}
use Prim.Native.String.{String}
use Rattle.numerals.specs.Texts.{bytes}
use Rattle.numerals.specs.Numerals.{numeral_of, numeral, is_plain}

pub record NumeralCase : Type 0 where
  pub text : String
  pub number : ℤ

infix 10 ◌is◌
abbrev ◌is◌ : String → ℤ → NumeralCase
t is k = record { text = t; number = k }

-- without spare zeros, up to both ends of the range
unfoldable pub plain_cases : List NumeralCase
plain_cases =
    ("0" is pos 0) ∷ ("7" is pos 7) ∷ ("9" is pos 9) ∷ ("10" is pos 10) ∷ ("42" is pos 42) ∷ ("99" is pos 99) ∷ ("100" is pos 100) ∷ ("907" is pos 907)
    ∷ ("1000" is pos 1000) ∷ ("2147483647" is pos 2147483647) ∷ ("-1" is negsuc 0) ∷ ("-10" is negsuc 9) ∷ ("-2147483648" is negsuc 2147483647) ∷ []

-- with spare zeros, up to ten digits; a minus before 0
unfoldable pub spare_cases : List NumeralCase
spare_cases =
    ("007" is pos 7) ∷ ("00" is pos 0) ∷ ("-0" is pos 0) ∷ ("-01" is negsuc 0) ∷ ("0000000001" is pos 1) ∷ ("-0000000000" is pos 0)
    ∷ ("-0000000002" is negsuc 1) ∷ []

-- one beyond each end of the range, eleven digits, no digit, another byte before, behind or between, the bytes around the digits
unfoldable pub no_numerals : List String
no_numerals =
    "2147483648" ∷ "-2147483649" ∷ "9999999999" ∷ "00000000001" ∷ "-12345678901" ∷ "" ∷ "-"
    ∷ "--1" ∷ "+1" ∷ "1 " ∷ " 1" ∷ "- 1" ∷ "1.0" ∷ "1-" ∷ "1,2" ∷ "1\r" ∷ "/" ∷ "1:" ∷ []

abbrev pub read_of : NumeralCase → Option ℤ
read_of c = numeral_of (bytes c.text)

abbrev pub written_of : NumeralCase → List ℕ
written_of c = numeral c.number

abbrev pub plain_of : NumeralCase → Bool
plain_of c = is_plain (bytes c.text)
