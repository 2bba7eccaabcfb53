-- What is read: the number that a text begins with, and the number that it is.
use mathlib.Core.Path.{◌≡◌, refl, sym, ap, ap₂, ◌∙◌}
use mathlib.Core.Bool.{Bool, true, false, ◌&&◌}
use mathlib.Core.List.{List, [], ◌∷◌, ◌++◌}
use mathlib.Core.Logic.{◌↔◌}
use mathlib.Core.Option.{Option, none, some}
use Prim.Native.Nat.{ℕ, suc, ◌+◌, ◌≤◌}
use native.Mathlib.Omega.{arith}
use borrow.Author.Tests.{eqb-true, eqb-false, eq-eqb, ne_eqb}
use lib.Dec.{eqb}
use lib.IntN.{ℤ, pos}
use lib.ListN.{length}
use Rattle.tables.specs.Lists.{all, only, ◌>>=◌}
use Rattle.tables.specs.Bytes.{between, in_range}
use Rattle.tables.proofs.Tests.{both, bounds, between_yes, is_so, is_true}
use Rattle.numerals.specs.Texts.{take_while}
use Rattle.numerals.specs.Numerals.{is_digit, minus, most_digits, spelled, negative, number_of, first_number, numeral_of}
use Rattle.numerals.specs.Claims.{DigitsAre, IsNumeral, unsigned, signed, NumberEndsClaim}
use Rattle.numerals.proofs.Runs.{run_length, run_all, run_whole, run_full, run_stops}

-- ---- the number of a run of digits

-- what is found where the test passes
only_told : {A : Type 0} (t : Bool) (x y : A) → only t x ≡ some y → (t ≡ true) × (x ≡ y)
only_told true x y e = (refl, cc)
only_told false x y e = let z : ◌≡◌ {A = ℕ} 0 1 = cc in absurd (omega arith)

module _ (sign : ℕ → ℤ) (before : ℕ) (digits : List ℕ) where
  pub record RunTold (k : ℤ) (n : ℕ) : Type 0 where
    pub some_digit : 1 ≤ length digits
    pub few : length digits ≤ most_digits
    pub number : k ≡ sign (spelled digits)
    pub fits : in_range k ≡ true
    pub takes : n ≡ before + length digits

  pub number_told : (k : ℤ) (n : ℕ) → number_of sign before digits ≡ some (k, n) → RunTold k n
  unfolding number_of
  number_told k n e =
      let (t, same) = only_told (between 1 most_digits (length digits) && in_range (sign (spelled digits))) _ _ e in
      let (p, q) = both (between 1 most_digits (length digits)) (in_range (sign (spelled digits))) (is_so _ t) in
      let (low, high) = bounds 1 most_digits (length digits) p in
      let is : k ≡ sign (spelled digits) = sym (ap (λ (x : ℤ × ℕ). x.0) same) in
      record { some_digit = low; few = high; number = is; fits = ap in_range is ∙ is_true _ q; takes = sym (ap (λ (x : ℤ × ℕ). x.1) same) }

  pub number_is : (k : ℤ) → DigitsAre sign digits k → number_of sign before digits ≡ some (k, before + length digits)
  unfolding number_of
  number_is k d =
      rw (between_yes 1 most_digits (length digits) d.some_digit d.few, ← d.number, d.fits)

-- ---- the number that a text begins with

pub first_minus : (b : ℕ) (bs : List ℕ) → b ≡ minus → first_number (b ∷ bs) ≡ number_of negative 1 (take_while is_digit bs)
unfolding first_number
first_minus b bs e = rw (first_number, eq-eqb b minus e)

pub first_other : (b : ℕ) (bs : List ℕ) → (b ≡ minus → ⊥) → first_number (b ∷ bs) ≡ number_of pos 0 (take_while is_digit (b ∷ bs))
unfolding first_number
first_other b bs e = rw (first_number, ne_eqb b minus e)

-- by its first byte
by_first : (P : Option (ℤ × ℕ) → Type 0) (b : ℕ) (bs : List ℕ) → (b ≡ minus → P (number_of negative 1 (take_while is_digit bs)))
    → ((b ≡ minus → ⊥) → P (number_of pos 0 (take_while is_digit (b ∷ bs)))) → P (first_number (b ∷ bs))
by_first P b bs with-minus other = go (eqb b minus) refl
  where
    go : (t : Bool) → eqb b minus ≡ t → P (first_number (b ∷ bs))
    go true e = let h = eqb-true b minus e in rw (first_minus b bs h) (with-minus h)
    go false e = let h = eqb-false b minus e in rw (first_other b bs h) (other h)

-- a number that is found is in range, and takes at least a byte and at most all of them
pub record FirstTold (text : List ℕ) (k : ℤ) (n : ℕ) : Type 0 where
  pub fits : in_range k ≡ true
  pub some_byte : 1 ≤ n
  pub within : n ≤ length text

pub first_told : (text : List ℕ) (k : ℤ) (n : ℕ) → first_number text ≡ some (k, n) → FirstTold text k n
unfolding first_number
first_told [] k n e = let z : ◌≡◌ {A = ℕ} 0 1 = cc in absurd (omega arith)
first_told (b ∷ bs) k n e =
    by_first (λ o. o ≡ some (k, n) → FirstTold (b ∷ bs) k n) b bs
    (λ h f. from negative 1 bs f (omega arith))
    (λ h f. from pos 0 (b ∷ bs) f (omega arith))
    e
  where
    from : (sign : ℕ → ℤ) (before : ℕ) (l : List ℕ) → number_of sign before (take_while is_digit l) ≡ some (k, n) → before + length l ≤ suc (length bs)
        → FirstTold (b ∷ bs) k n
    from sign before l f h =
        let r = number_told sign before (take_while is_digit l) k n f in
        let low = r.some_digit in
        record { fits = r.fits; some_byte = omega (arith, r.takes); within = omega (arith, r.takes, run_length is_digit l) }

pub number_ends_claim : NumberEndsClaim
number_ends_claim b bs rest e =
    by_first (λ o. first_number (b ∷ (bs ++ rest)) ≡ o) b bs
    (λ h. first_minus b (bs ++ rest) h ∙ ap (number_of negative 1) (run_stops is_digit bs rest e))
    (λ h. first_other b (bs ++ rest) h ∙ ap (number_of pos 0) (run_stops is_digit (b ∷ bs) rest e))

-- ---- the number that a text is

whole_told : (o : Option (ℤ × ℕ)) (n : ℕ) (k : ℤ) → (o >>= λ x. only (eqb x.1 n) x.0) ≡ some k → o ≡ some (k, n)
whole_told none n k e = let z : ◌≡◌ {A = ℕ} 0 1 = cc in absurd (omega arith)
whole_told (some x) n k e =
    let (t, same) = only_told (eqb x.1 n) x.0 k e in
    ap some (ap₂ (λ (a : ℤ) (b : ℕ). (a, b)) same (eqb-true x.1 n t))

pub whole_first : (t : List ℕ) (k : ℤ) → numeral_of t ≡ some k → first_number t ≡ some (k, length t)
unfolding numeral_of
whole_first t k e = whole_told (first_number t) (length t) k e

pub first_whole : (t : List ℕ) (k : ℤ) → first_number t ≡ some (k, length t) → numeral_of t ≡ some k
unfolding numeral_of
first_whole t k e = rw (e, eq-eqb (length t) (length t) refl)

-- the run that takes all bytes is all of them
told_digits : (sign : ℕ → ℤ) (before : ℕ) (ds : List ℕ) (k : ℤ)
    → number_of sign before (take_while is_digit ds) ≡ some (k, before + length ds) → DigitsAre sign ds k
told_digits sign before ds k e =
    let r = number_told sign before (take_while is_digit ds) k (before + length ds) e in
    let whole = run_full is_digit ds (omega (arith, r.takes)) in
    let low = r.some_digit in
    let high = r.few in
    let long = ap length whole in
    record {
      each = ap (all is_digit) (sym whole) ∙ run_all is_digit ds;
      some_digit = omega arith;
      few = omega arith;
      number = r.number ∙ ap (λ (l : List ℕ). sign (spelled l)) whole;
      fits = r.fits;
    }

told : (t : List ℕ) (k : ℤ) → first_number t ≡ some (k, length t) → IsNumeral t k
unfolding first_number
told [] k e = let z : ◌≡◌ {A = ℕ} 0 1 = cc in absurd (omega arith)
told (b ∷ bs) k e =
    by_first (λ o. o ≡ some (k, suc (length bs)) → IsNumeral (b ∷ bs) k) b bs
    (λ h f. rw h (signed (told_digits negative 1 bs k (f ∙ ap (λ (n : ℕ). some (k, n)) (omega arith)))))
    (λ h f. unsigned (told_digits pos 0 (b ∷ bs) k (f ∙ ap (λ (n : ℕ). some (k, n)) (omega arith))))
    e

digits_whole : (sign : ℕ → ℤ) (before : ℕ) (ds : List ℕ) (k : ℤ) → DigitsAre sign ds k
    → number_of sign before (take_while is_digit ds) ≡ some (k, before + length ds)
digits_whole sign before ds k d = ap (number_of sign before) (run_whole is_digit ds d.each) ∙ number_is sign before ds k d

numeral_is : (t : List ℕ) (k : ℤ) → IsNumeral t k → first_number t ≡ some (k, length t)
numeral_is t k (unsigned {digits = []} d) = absurd (omega (arith, d.some_digit))
numeral_is t k (unsigned {digits = b ∷ bs} d) =
    let (low, high) = bounds 48 57 b (both (is_digit b) (all is_digit bs) (is_so _ d.each)).0 in
    first_other b bs (λ h. omega arith) ∙ digits_whole pos 0 (b ∷ bs) k d ∙ ap (λ (n : ℕ). some (k, n)) (omega arith)
numeral_is t k (signed {digits = ds} d) = first_minus minus ds refl ∙ digits_whole negative 1 ds k d ∙ ap (λ (n : ℕ). some (k, n)) (omega arith)

pub exactly : (t : List ℕ) (k : ℤ) → (numeral_of t ≡ some k) ↔ IsNumeral t k
exactly t k = (λ e. told t k (whole_first t k e), λ d. first_whole t k (numeral_is t k d))
