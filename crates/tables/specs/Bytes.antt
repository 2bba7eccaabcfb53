-- Bytes and numbers. Document 01, Tables: all multi-byte fields are little-endian, and a value has 4 bytes and a sign.
use Rattle.std.specs.Prelude.{Bool, cond, ◌&&◌, List, [], ◌∷◌, ℕ, ◌+◌, ◌-◌, ◌*◌, ◌/◌, ◌%◌, leb, ltb, ℤ, pos, negsuc, get_or}

-- n is one of low to high
abbrev pub between : ℕ → ℕ → ℕ → Bool
between low high n = leb low n && leb n high

-- byte i of some bytes, counted from 0; past their end, 0
abbrev pub byte_at : List ℕ → ℕ → ℕ
byte_at bs i = get_or bs i 0

-- two bytes, and four, as a number: the lowest byte first
abbrev pub word16 : List ℕ → ℕ → ℕ
word16 bs i = byte_at bs i + 256 * byte_at bs (i + 1)

abbrev pub word32 : List ℕ → ℕ → ℕ
word32 bs i = byte_at bs i + 256 * byte_at bs (i + 1) + 65536 * byte_at bs (i + 2) + 16777216 * byte_at bs (i + 3)

-- and a number as two bytes, and as four
abbrev pub bytes16 : ℕ → List ℕ
bytes16 n = n % 256 ∷ n / 256 % 256 ∷ []

abbrev pub bytes32 : ℕ → List ℕ
bytes32 n = n % 256 ∷ n / 256 % 256 ∷ n / 256 / 256 % 256 ∷ n / 256 / 256 / 256 % 256 ∷ []

-- 32 bits as a signed number, in two's complement: −2,147,483,648 to 2,147,483,647
abbrev pub signed : ℕ → ℤ
signed n = cond (ltb n 2147483648) (pos n) (negsuc (4294967295 - n))

-- and the 32 bits of such a number
abbrev pub bits : ℤ → ℕ
bits (pos n) = n
bits (negsuc n) = 4294967295 - n

-- a number that 32 bits can hold
abbrev pub in_range : ℤ → Bool
in_range (pos n) = ltb n 2147483648
in_range (negsuc n) = ltb n 2147483648
