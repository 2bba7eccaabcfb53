-- The digits of a number: what they spell, their bytes, the first of them, and how many they are; and digits that are had back from the number they spell.
use mathlib.Core.Path.{◌≡◌, refl, sym, ap, ap₂, ◌∙◌}
use mathlib.Core.Bool.{Bool, true, false, ◌&&◌}
use mathlib.Core.List.{List, [], ◌∷◌, ◌++◌, append_assoc, append-nil}
use Prim.Native.Nat.{ℕ, zero, suc, ◌+◌, ◌-◌, ◌*◌, ◌/◌, ◌%◌, ◌≤◌, ◌<◌}
use native.Mathlib.Omega.{arith}
use borrow.Author.Tests.{ltb-true, ltb-false, lt-ltb, le-ltb}
use lib.Dec.{ltb}
use lib.ListN.{length, length-append}
use Rattle.tables.specs.Lists.{all}
use Rattle.tables.proofs.Tests.{between_yes, bounds, both, is_so, is_true}
use Rattle.numerals.specs.Numerals.{digit, is_digit, most_digits, in_base, spelled, digits_of, leads}

-- ---- digits behind others

pub in_base_append : (base zero_byte n : ℕ) (a b : List ℕ) → in_base base zero_byte n (a ++ b) ≡ in_base base zero_byte (in_base base zero_byte n a) b
in_base_append base zero_byte n [] b = refl
in_base_append base zero_byte n (x ∷ a) b = in_base_append base zero_byte (base * n + (x - zero_byte)) a b

all_more : (p : ℕ → Bool) (ds : List ℕ) (d : ℕ) → all p ds ≡ true → p d ≡ true → all p (ds ++ (d ∷ [])) ≡ true
all_more p [] d a b = rw b
all_more p (x ∷ ds) d a b = go (p x) a (λ h. all_more p ds d h b)
  where
    go : (t : Bool) → (t && all p ds) ≡ true → (all p ds ≡ true → all p (ds ++ (d ∷ [])) ≡ true) → (t && all p (ds ++ (d ∷ []))) ≡ true
    go true h f = f h
    go false h f = h

leads_more : (ds : List ℕ) (d : ℕ) → leads ds ≡ true → leads (ds ++ (d ∷ [])) ≡ true
leads_more [] d h = absurd (is_so false h)
leads_more (x ∷ ds) d h = h

-- ---- the digits of a number

-- the numbers of so many digits are below this
abbrev pub power10 : ℕ → ℕ
power10 zero = 1
power10 (suc k) = 10 * power10 k

module _ (k n : ℕ) where
  pub digits_one : n < 10 → digits_of (suc k) n ≡ digit n ∷ []
  unfolding digits_of
  digits_one h = rw (digits_of, lt-ltb n 10 h)

  pub digits_last : 10 ≤ n → digits_of (suc k) n ≡ digits_of k (n / 10) ++ (digit (n % 10) ∷ [])
  unfolding digits_of
  digits_last h = rw (digits_of, le-ltb n 10 h)

  -- what holds in both cases
  by_ten : (P : List ℕ → Type 0) → (n < 10 → P (digit n ∷ [])) → (10 ≤ n → P (digits_of k (n / 10) ++ (digit (n % 10) ∷ []))) → P (digits_of (suc k) n)
  by_ten P one more = go (ltb n 10) refl
    where
      go : (t : Bool) → ltb n 10 ≡ t → P (digits_of (suc k) n)
      go true e = let h = ltb-true n 10 e in rw (digits_one h) (one h)
      go false e = let h = ltb-false n 10 e in rw (digits_last h) (more h)

-- room for more digits than a number has changes nothing
digits_enough : (k n : ℕ) → n < power10 (suc k) → digits_of (suc (suc k)) n ≡ digits_of (suc k) n
digits_enough zero n h = digits_one 1 n h ∙ sym (digits_one 0 n h)
digits_enough (suc k) n h =
    by_ten (suc k) n (λ ds. digits_of (suc (suc (suc k))) n ≡ ds) (digits_one (suc (suc k)) n)
    (λ l. digits_last (suc (suc k)) n l ∙ ap (λ (ds : List ℕ). ds ++ (digit (n % 10) ∷ [])) (digits_enough k (n / 10) (omega arith)))

-- so the digits of a number are those of its tenth and the last one
pub digits_tenth : (n : ℕ) → 10 ≤ n → n < power10 most_digits → digits_of most_digits n ≡ digits_of most_digits (n / 10) ++ (digit (n % 10) ∷ [])
digits_tenth n l h = digits_last 9 n l ∙ ap (λ (ds : List ℕ). ds ++ (digit (n % 10) ∷ [])) (sym (digits_enough 8 (n / 10) (omega arith)))

pub digits_spell : (k n : ℕ) → n < power10 k → spelled (digits_of k n) ≡ n
unfolding digits_of
digits_spell zero n h = omega arith
digits_spell (suc k) n h =
    by_ten k n (λ ds. spelled ds ≡ n) (λ l. omega arith)
    (λ l. in_base_append 10 48 0 (digits_of k (n / 10)) (digit (n % 10) ∷ []) ∙ rw (digits_spell k (n / 10) (omega arith)) (omega arith))

pub digits_each : (k n : ℕ) → all is_digit (digits_of k n) ≡ true
unfolding digits_of
digits_each zero n = refl
digits_each (suc k) n =
    by_ten k n (λ ds. all is_digit ds ≡ true) (λ l. rw (between_yes 48 57 (digit n) (omega arith) (omega arith)))
    (λ l. all_more is_digit (digits_of k (n / 10)) (digit (n % 10)) (digits_each k (n / 10)) (between_yes 48 57 (digit (n % 10)) (omega arith) (omega arith)))

pub digits_lead : (k n : ℕ) → 1 ≤ n → n < power10 k → leads (digits_of k n) ≡ true
digits_lead zero n l h = absurd (omega arith)
digits_lead (suc k) n l h =
    by_ten k n (λ ds. leads ds ≡ true) (λ m. between_yes 49 57 (digit n) (omega arith) (omega arith))
    (λ m. leads_more (digits_of k (n / 10)) (digit (n % 10)) (digits_lead k (n / 10) (omega arith) (omega arith)))

-- at least one, and at most as many as there may be
pub digits_some : (k n : ℕ) → 1 ≤ length (digits_of (suc k) n)
digits_some k n = by_ten k n (λ ds. 1 ≤ length ds) (λ l. omega arith) (λ l. omega (arith, length-append (digits_of k (n / 10)) (digit (n % 10) ∷ [])))

pub digits_few : (k n : ℕ) → length (digits_of k n) ≤ k
unfolding digits_of
digits_few zero n = omega arith
digits_few (suc k) n =
    by_ten k n (λ ds. length ds ≤ suc k) (λ l. omega arith)
    (λ l. omega (arith, length-append (digits_of k (n / 10)) (digit (n % 10) ∷ []), digits_few k (n / 10)))

-- and as few as a power of ten above it has zeros
pub digits_short : (most k n : ℕ) → n < power10 (suc k) → length (digits_of most n) ≤ suc k
unfolding digits_of
digits_short zero k n h = omega arith
digits_short (suc most) zero n h = omega (arith, ap length (digits_one most n h))
digits_short (suc most) (suc k) n h =
    by_ten most n (λ ds. length ds ≤ suc (suc k)) (λ l. omega arith)
    (λ l. omega (arith, length-append (digits_of most (n / 10)) (digit (n % 10) ∷ []), digits_short most k (n / 10) (omega arith)))

-- ---- digits that are had back

-- behind the digits of a number that is not 0
digits_on : (ds : List ℕ) (k n : ℕ) → 1 ≤ n → all is_digit ds ≡ true → digits_of (k + length ds) (in_base 10 48 n ds) ≡ digits_of k n ++ ds
digits_on [] k n l e = rw (append-nil (digits_of k n)) (ap (λ (j : ℕ). digits_of j n) (omega arith))
digits_on (d ∷ ds) k n l e =
    let (p, q) = both (is_digit d) (all is_digit ds) (is_so _ e) in
    let (low, high) = bounds 48 57 d p in
    let m : ℕ = 10 * n + (d - 48) in
    let z : k + suc (length ds) ≡ suc k + length ds = omega arith in
    let tenth : m / 10 ≡ n = omega arith in
    let last : digit (m % 10) ≡ d = omega arith in
    ap (λ (j : ℕ). digits_of j (in_base 10 48 m ds)) z
    ∙ digits_on ds (suc k) m (omega arith) (is_true _ q)
    ∙ ap (λ (l : List ℕ). l ++ ds) (digits_last k m (omega arith) ∙ ap₂ (λ (a b : ℕ). digits_of k a ++ (b ∷ [])) tenth last)
    ∙ append_assoc (digits_of k n) (d ∷ []) ds

pub digits_back : (ds : List ℕ) (most : ℕ) → all is_digit ds ≡ true → leads ds ≡ true → length ds ≤ most → digits_of most (spelled ds) ≡ ds
digits_back [] most e f h = absurd (is_so false f)
digits_back (d ∷ ds) most e f h =
    let q = (both (is_digit d) (all is_digit ds) (is_so _ e)).1 in
    let (low, high) = bounds 49 57 d (is_so _ f) in
    let k : ℕ = most - suc (length ds) in
    let n : ℕ = 10 * 0 + (d - 48) in
    let z : most ≡ suc k + length ds = omega arith in
    let back : digit n ≡ d = omega arith in
    ap (λ (j : ℕ). digits_of j (in_base 10 48 n ds)) z
    ∙ digits_on ds (suc k) n (omega arith) (is_true _ q)
    ∙ ap (λ (l : List ℕ). l ++ ds) (digits_one k n (omega arith) ∙ ap (λ (b : ℕ). b ∷ []) back)
