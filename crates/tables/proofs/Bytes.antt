-- Numbers from their bytes and back; signed numbers from their bits and back.
use mathlib.Core.Path.{◌≡◌, refl, ap, ap₂, ◌∙◌}
use mathlib.Core.Bool.{Bool, true, false, cond}
use mathlib.Core.List.{List, [], ◌∷◌, ◌++◌}
use Prim.Native.Nat.{ℕ, ◌+◌, ◌-◌, ◌*◌, ◌/◌, ◌%◌, ◌<◌}
use native.Mathlib.Omega.{arith}
use borrow.Author.Tests.{lt-ltb, le-ltb, ltb-true, ltb-false}
use lib.Dec.{T, ltb, lt→ltb, ltb→lt}
use lib.IntN.{ℤ, pos, negsuc}
use Rattle.tables.specs.Bytes.{bytes16, bytes32, signed, bits, in_range}

pub from16 : (n : ℕ) → n < 65536 → n % 256 + 256 * (n / 256 % 256) ≡ n
from16 n h = omega arith

pub from32 : (n : ℕ) → n < 4294967296 → n % 256 + 256 * (n / 256 % 256) + 65536 * (n / 256 / 256 % 256) + 16777216 * (n / 256 / 256 / 256 % 256) ≡ n
from32 n h = omega arith

pub to16 : (a b : ℕ) → a < 256 → b < 256 → bytes16 (a + 256 * b) ≡ a ∷ b ∷ []
to16 a b ha hb =
    let p : (a + 256 * b) % 256 ≡ a = omega arith in
    let n : (a + 256 * b) / 256 ≡ b = omega arith in
    let q : b % 256 ≡ b = omega arith in
    rw (p, n, q)

pub to32 : (a b c d : ℕ) → a < 256 → b < 256 → c < 256 → d < 256 → bytes32 (a + 256 * b + 65536 * c + 16777216 * d) ≡ a ∷ b ∷ c ∷ d ∷ []
to32 a b c d ha hb hc hd =
    let p : (a + 256 * b + 65536 * c + 16777216 * d) % 256 ≡ a = omega arith in
    let n : (a + 256 * b + 65536 * c + 16777216 * d) / 256 ≡ b + 256 * c + 65536 * d = omega arith in
    let q : (b + 256 * c + 65536 * d) % 256 ≡ b = omega arith in
    let m : (b + 256 * c + 65536 * d) / 256 ≡ c + 256 * d = omega arith in
    rw (p, n, q, m) (ap (λ (l : List ℕ). a ∷ b ∷ l) (to16 c d hc hd))

-- four bytes are twice two
pub four_bytes : (n : ℕ) → bytes16 (n % 65536) ++ bytes16 (n / 65536) ≡ bytes32 n
four_bytes n =
    let h : n / 65536 ≡ n / 256 / 256 = omega arith in
    let l : n % 65536 ≡ n % 256 + 256 * (n / 256 % 256) = omega arith in
    ap₂ ◌++◌ (ap bytes16 l ∙ to16 (n % 256) (n / 256 % 256) (omega arith) (omega arith)) (ap bytes16 h)

-- ---- numbers with a sign

pub bits_small : (k : ℤ) → T (in_range k) → bits k < 4294967296
bits_small (pos n) h = omega (arith, ltb→lt n 2147483648 h)
bits_small (negsuc n) h = omega arith

pub signed_bits : (k : ℤ) → T (in_range k) → signed (bits k) ≡ k
signed_bits (pos n) h = rw (lt-ltb n 2147483648 (ltb→lt n 2147483648 h))
signed_bits (negsuc n) h =
    let l = ltb→lt n 2147483648 h in
    let z : 4294967295 - (4294967295 - n) ≡ n = omega arith in
    rw (le-ltb (4294967295 - n) 2147483648 (omega arith)) (ap negsuc z)

-- every 32 bits are those of a number in range
pub in_range_lem : (n : ℕ) → n < 4294967296 → (bits (signed n) ≡ n) × T (in_range (signed n))
in_range_lem n small = go (ltb n 2147483648) refl
  where
    go : (t : Bool) → ltb n 2147483648 ≡ t → let k = cond t (pos n) (negsuc (4294967295 - n)) in (bits k ≡ n) × T (in_range k)
    go true e = (refl, lt→ltb n 2147483648 (ltb-true n 2147483648 e))
    go false e = let l = ltb-false n 2147483648 e in (omega arith, lt→ltb (4294967295 - n) 2147483648 (omega arith))
