-- The digits of a number, counted and written from the last one to the first.
use mathlib.Core.Path.{◌≡◌, refl, sym, ap, ◌∙◌}
use mathlib.Core.List.{List, [], ◌∷◌, ◌++◌, append_assoc, append-nil}
use Prim.Native.Nat.{ℕ, zero, suc, ◌+◌, ◌*◌, ◌/◌, ◌%◌, ◌≤◌, ◌<◌}
use native.Mathlib.Omega.{arith}
use lib.IntN.{ℤ, pos, negsuc, nat_abs}
use Rattle.std.specs.Prelude.{◌<ℤ◌, ◌≤ℤ◌}
use Rattle.std.proofs.Common.{rules}
use lib.ListN.{length, set, length-append, length-set}
use Rattle.tables.specs.Lists.{placed}
use Rattle.tables.proofs.Placed.{placed_none, placed_one, placed_next, placed_before}
use Rattle.numerals.specs.Numerals.{digit, minus, most_digits, digits_of, numeral}
use Rattle.numerals.proofs.Digits.{power10, digits_one, digits_tenth, digits_some, digits_short}
use Rattle.cells.specs.Code.{words32}

abbrev digits_all : ℕ → List ℕ
digits_all n = digits_of most_digits n

-- ---- how many they are

pub power_some : (k : ℕ) → 1 ≤ power10 k
power_some zero = omega arith
power_some (suc k) = let h = power_some k in omega arith

-- the powers of ten up to some number, passed one by one
pub record Passed (n count power : ℕ) : Type 0 where
  pub zeros : ℕ
  pub count_is : count ≡ suc zeros
  pub power_is : power ≡ power10 (suc zeros)
  pub reached : 1 ≤ zeros → power10 zeros ≤ n

pub passed_first : (n : ℕ) → Passed n 1 10
passed_first n = record { zeros = 0; count_is = refl; power_is = refl; reached = λ h. absurd (omega arith) }

pub passed_next : (n count power : ℕ) → Passed n count power → power ≤ n → Passed n (count + 1) (10 * power)
passed_next n count power p h =
    let c = p.count_is in
    let e = p.power_is in
    record { zeros = suc p.zeros; count_is = omega arith; power_is = ap (λ (m : ℕ). 10 * m) e; reached = λ l. omega (arith, e) }

pub length_one : (n : ℕ) → n < 10 → length (digits_of most_digits n) ≡ 1
length_one n h = ap length (digits_one 9 n h)

pub length_tenth : (n : ℕ) → 10 ≤ n → n < words32 → length (digits_of most_digits n) ≡ length (digits_of most_digits (n / 10)) + 1
length_tenth n l h = ap length (digits_tenth n l (omega arith)) ∙ length-append (digits_all (n / 10)) (digit (n % 10) ∷ [])

-- no fewer than the powers of ten that a number reaches
length_long : (k n : ℕ) → n < words32 → power10 k ≤ n → suc k ≤ length (digits_of most_digits n)
length_long zero n h l = digits_some 9 n
length_long (suc k) n h l =
    let p = power_some k in
    let e = length_tenth n (omega arith) h in
    omega (arith, length_long k (n / 10) (omega arith) (omega arith))

pub passed_few : (n count power : ℕ) → n < words32 → Passed n count power → count ≤ length (digits_of most_digits n)
passed_few n count power h p = go p.zeros p.count_is p.reached
  where
    go : (zeros : ℕ) → count ≡ suc zeros → (1 ≤ zeros → power10 zeros ≤ n) → count ≤ length (digits_of most_digits n)
    go zero e f = omega (arith, digits_some 9 n)
    go (suc k) e f = omega (arith, length_long (suc k) n h (f (omega arith)))

-- the first power above it: as many digits as it has zeros
pub passed_all : (n count power : ℕ) → n < words32 → Passed n count power → n < power → count ≡ length (digits_of most_digits n)
passed_all n count power h p l =
    let c = p.count_is in
    let e = p.power_is in
    omega (arith, passed_few n count power h p, digits_short most_digits p.zeros n (omega (arith, e)))

-- ---- written

-- all digits behind those of the rest are written, and the next goes to `at`
pub record WrittenTo (before : List ℕ) (i n : ℕ) (out : List ℕ) (at rest : ℕ) : Type 0 where
  pub less : rest ≤ n
  pub behind : List ℕ
  pub whole : digits_of most_digits n ≡ digits_of most_digits rest ++ behind
  pub place : at + 1 ≡ i + length (digits_of most_digits rest)
  pub is : out ≡ placed before (at + 1) behind
  pub size : length out ≡ length before

pub written_none : (before : List ℕ) (i n at : ℕ) → at + 1 ≡ i + length (digits_of most_digits n) → WrittenTo before i n before at n
written_none before i n at e =
    record { less = omega arith; behind = []; whole = sym (append-nil (digits_of most_digits n)); place = e; is = sym (placed_none before (at + 1)); size = refl }

module _ (before : List ℕ) (i n : ℕ) (out : List ℕ) (at rest : ℕ) (w : WrittenTo before i n out at rest)
    (room : i + length (digits_of most_digits n) ≤ length before) where
  all_length : length (digits_all n) ≡ length (digits_all rest) + length w.behind
  all_length = ap length w.whole ∙ length-append (digits_all rest) w.behind

  pub at_within : at < length before
  at_within = omega (arith, all_length, w.place)

  -- one byte before those that are written
  byte_before : (x : ℕ) → set out at x ≡ placed before at (x ∷ w.behind)
  byte_before x =
      let h = at_within in
      let s = w.size in
      placed_one out at x (omega arith)
      ∙ ap (λ (o : List ℕ). placed o at (x ∷ [])) w.is
      ∙ placed_before before at (x ∷ []) (at + 1) w.behind (omega arith) refl

  pub place_more : 10 ≤ rest → n < words32 → 1 ≤ at
  place_more l h = let m = w.less in omega (arith, w.place, length_tenth rest l (omega arith), digits_some 9 (rest / 10))

  pub written_more : 10 ≤ rest → n < words32 → (at' : ℕ) → at' + 1 ≡ at → WrittenTo before i n (set out at (digit (rest % 10))) at' (rest / 10)
  written_more l h at' e =
      let m = w.less in
      record {
        less = omega arith;
        behind = digit (rest % 10) ∷ w.behind;
        whole =
            w.whole
            ∙ ap (λ (ds : List ℕ). ds ++ w.behind) (digits_tenth rest l (omega arith))
            ∙ append_assoc (digits_all (rest / 10)) (digit (rest % 10) ∷ []) w.behind;
        place = omega (arith, w.place, length_tenth rest l (omega arith));
        is = byte_before (digit (rest % 10)) ∙ ap (λ (k : ℕ). placed before k (digit (rest % 10) ∷ w.behind)) (sym e);
        size = simp length-set w.size;
      }

  pub written_all : rest < 10 → set out at (digit rest) ≡ placed before i (digits_of most_digits n)
  written_all l =
      let z : at ≡ i = omega (arith, w.place, length_one rest l) in
      byte_before (digit rest)
      ∙ ap (λ (k : ℕ). placed before k (digit rest ∷ w.behind)) z
      ∙ ap (placed before i) (sym (w.whole ∙ ap (λ (ds : List ℕ). ds ++ w.behind) (digits_one 9 rest l)))

-- ---- a number, as it is written

pub numeral_below : (n : ℤ) → n <ℤ pos 0 → numeral n ≡ minus ∷ digits_of most_digits (nat_abs n)
numeral_below (negsuc n) h = refl
numeral_below (pos n) h = absurd (search (rules, h))

pub numeral_above : (n : ℤ) → pos 0 ≤ℤ n → numeral n ≡ digits_of most_digits (nat_abs n)
numeral_above (pos n) h = refl
numeral_above (negsuc n) h = absurd (search (rules, h))

-- the minus, then the digits
pub minus_written : (before : List ℕ) (i : ℕ) (n : ℤ) (after : List ℕ) → i < length before → n <ℤ pos 0
    → after ≡ placed (set before i minus) (i + 1) (digits_of most_digits (nat_abs n)) → after ≡ placed before i (numeral n)
minus_written before i n after h l e =
    let ds = digits_of most_digits (nat_abs n) in
    e
    ∙ ap (λ (o : List ℕ). placed o (i + 1) ds) (placed_one before i minus h)
    ∙ placed_next before i (minus ∷ []) (i + 1) ds (omega arith) refl
    ∙ ap (placed before i) (sym (numeral_below n l))
