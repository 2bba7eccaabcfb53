-- Numbers that are written and read back, and texts that are read and written back.
use mathlib.Core.Path.{◌≡◌, refl, sym, ap, ◌∙◌}
use mathlib.Core.Bool.{Bool, true, false, ◌||◌}
use mathlib.Core.List.{List, [], ◌∷◌}
use mathlib.Core.Option.{some}
use Prim.Native.Nat.{ℕ, zero, suc, ◌+◌, ◌-◌, ◌*◌, ◌≤◌, ◌<◌}
use native.Mathlib.Omega.{arith}
use borrow.Author.Tests.{ltb-true, ne_eqb}
use lib.IntN.{ℤ, pos, negsuc}
use lib.ListN.{length}
use Rattle.tables.specs.Lists.{all, same}
use Rattle.tables.specs.Bytes.{in_range}
use Rattle.tables.proofs.Tests.{both, bounds, is_so, is_true}
use Rattle.tables.proofs.Sizes.{same_is}
use Rattle.numerals.specs.Numerals.{digit, is_digit, minus, most_digits, in_base, spelled, negative, digits_of, numeral_of, numeral, leads, is_plain}
use Rattle.numerals.specs.Claims.{DigitsAre, IsNumeral, unsigned, signed, is_numeral_byte, NumeralsClaim}
use Rattle.numerals.proofs.Digits.{power10, digits_one, digits_spell, digits_each, digits_lead, digits_some, digits_few, digits_back}
use Rattle.numerals.proofs.Reading.{exactly}

-- ---- what is written

digits_are : (sign : ℕ → ℤ) (n : ℕ) → n < power10 most_digits → in_range (sign n) ≡ true → DigitsAre sign (digits_of most_digits n) (sign n)
digits_are sign n h e = record {
  each = digits_each most_digits n;
  some_digit = digits_some 9 n;
  few = digits_few most_digits n;
  number = ap sign (sym (digits_spell most_digits n h));
  fits = e;
}

written_is : (k : ℤ) → in_range k ≡ true → IsNumeral (numeral k) k
written_is (pos n) e = let h = ltb-true n 2147483648 e in unsigned (digits_are pos n (omega arith) e)
written_is (negsuc n) e = let h = ltb-true n 2147483648 e in signed (digits_are negative (suc n) (omega arith) e)

-- ---- spare zeros

-- digits are no minus
plain_digits : (t : List ℕ) → all is_digit t ≡ true → 1 ≤ length t → is_plain t ≡ (leads t || same t (digit 0 ∷ []))
plain_digits [] e h = absurd (omega arith)
plain_digits (b ∷ bs) e h =
    let (low, high) = bounds 48 57 b (both (is_digit b) (all is_digit bs) (is_so _ e)).0 in
    rw (is_plain, ne_eqb b minus (λ z. omega arith))

written_plain : (k : ℤ) → in_range k ≡ true → is_plain (numeral k) ≡ true
written_plain (pos zero) e = rw (digits_one 9 0 (omega arith))
written_plain (pos (suc n)) e =
    let h = ltb-true (suc n) 2147483648 e in
    plain_digits (digits_of most_digits (suc n)) (digits_each most_digits (suc n)) (digits_some 9 (suc n))
    ∙ ap (λ (t : Bool). t || same (digits_of most_digits (suc n)) (digit 0 ∷ [])) (digits_lead most_digits (suc n) (omega arith) (omega arith))
written_plain (negsuc n) e = let h = ltb-true n 2147483648 e in digits_lead most_digits (suc n) (omega arith) (omega arith)

-- ---- what is read

-- digits that begin with another one than 0 spell no 0
spelled_some : (ds : List ℕ) → leads ds ≡ true → 1 ≤ spelled ds
spelled_some [] e = absurd (is_so false e)
spelled_some (d ∷ ds) e = let (low, high) = bounds 49 57 d (is_so _ e) in omega (arith, spelled_up ds (10 * 0 + (d - 48)))
  where
    spelled_up : (ds : List ℕ) (n : ℕ) → n ≤ in_base 10 48 n ds
    spelled_up [] n = omega arith
    spelled_up (d ∷ ds) n = omega (arith, spelled_up ds (10 * n + (d - 48)))

-- a minus before a number that is not 0
minus_written : (n : ℕ) → 1 ≤ n → numeral (negative n) ≡ minus ∷ digits_of most_digits n
minus_written zero h = absurd (omega arith)
minus_written (suc n) h = refl

back : (t : List ℕ) (k : ℤ) → IsNumeral t k → is_plain t ≡ true → numeral k ≡ t
back t k (unsigned d) e = ap numeral d.number ∙ go (leads t) refl (sym (plain_digits t d.each d.some_digit) ∙ e)
  where
    go : (b : Bool) → leads t ≡ b → (leads t || same t (digit 0 ∷ [])) ≡ true → digits_of most_digits (spelled t) ≡ t
    go true f e = digits_back t most_digits d.each f d.few
    go false f e =
        let z : t ≡ digit 0 ∷ [] = same_is t (digit 0 ∷ []) (is_so _ (rw f at e)) in
        rw z (digits_one 9 0 (omega arith))
back t k (signed {digits = ds} d) e =
    ap numeral d.number ∙ minus_written (spelled ds) (spelled_some ds e) ∙ ap (λ (l : List ℕ). minus ∷ l) (digits_back ds most_digits d.each e d.few)

in_range_lem : (t : List ℕ) (k : ℤ) → IsNumeral t k → in_range k ≡ true
in_range_lem t k (unsigned d) = d.fits
in_range_lem t k (signed d) = d.fits

long : (t : List ℕ) (k : ℤ) → IsNumeral t k → (1 ≤ length t) × (length t ≤ suc most_digits)
long t k (unsigned d) = let low = d.some_digit in let high = d.few in (omega arith, omega arith)
long t k (signed d) = let low = d.some_digit in let high = d.few in (omega arith, omega arith)

-- digits are bytes of a number
digit_bytes : (ds : List ℕ) → all is_digit ds ≡ true → all is_numeral_byte ds ≡ true
digit_bytes [] e = refl
digit_bytes (d ∷ ds) e =
    let (p, q) = both (is_digit d) (all is_digit ds) (is_so _ e) in
    rw (is_true (is_digit d) p) (digit_bytes ds (is_true _ q))

bytes_are : (t : List ℕ) (k : ℤ) → IsNumeral t k → all is_numeral_byte t ≡ true
bytes_are t k (unsigned d) = digit_bytes t d.each
bytes_are t k (signed {digits = ds} d) = digit_bytes ds d.each

-- ---- together

pub numerals_claim : NumeralsClaim
numerals_claim = record {
  exactly = exactly;
  written_then_read = read_back;
  read_then_written = λ t k e. back t k ((exactly t k).0 e);
  written_plain = written_plain;
  told_apart = λ j k p q e. let a = read_back j p in let b = read_back k q in let c = ap numeral_of e in cc;
  read_in_range = λ t k e. in_range_lem t k ((exactly t k).0 e);
  read_length = λ t k e. long t k ((exactly t k).0 e);
  read_bytes = λ t k e. bytes_are t k ((exactly t k).0 e);
  written_length = λ k e. long (numeral k) k (written_is k e);
  written_bytes = λ k e. bytes_are (numeral k) k (written_is k e);
}
  where
    read_back : (k : ℤ) → in_range k ≡ true → numeral_of (numeral k) ≡ some k
    read_back k e = (exactly (numeral k) k).1 (written_is k e)
