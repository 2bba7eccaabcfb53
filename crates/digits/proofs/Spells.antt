-- What a run of digits spells in a base, digit by digit.
use mathlib.Core.Path.{◌≡◌, refl, sym, ap, subst, ◌∙◌}
use mathlib.Core.Bool.{true}
use mathlib.Core.List.{List, [], ◌∷◌, ◌++◌}
use Prim.Native.Nat.{ℕ, zero, suc, ◌+◌, ◌*◌, ◌-◌, ◌≤◌, ◌<◌}
use native.Mathlib.Nat.{le_refl, mul-le-mul, mul-suc}
use native.Mathlib.Omega.{arith}
use lib.ListN.{length, take, drop, get_or, length-drop}
use lib.Seq.{take-suc, get_or-drop}
use Rattle.tables.specs.Bytes.{between}
use Rattle.tables.proofs.Tests.{is_so, bounds}
use Rattle.numerals.specs.Texts.{take_while}
use Rattle.numerals.specs.Numerals.{in_base}
use Rattle.numerals.proofs.Digits.{in_base_append}
use Rattle.numerals.proofs.Runs.{run_take, Passed, passed_none, passed_more, run_within}
use Rattle.digits.specs.Code.{power, Spellable, RunAt}

power_more : (base j d : ℕ) → 1 ≤ base → power base j ≤ power base (j + d)
power_more base j zero h = let e : j + 0 ≡ j = omega arith in rw e (le_refl (power base j))
power_more base j (suc d) h =
    let e : j + suc d ≡ suc (j + d) = omega arith in
    let m = mul-le-mul {n₁ = 1} {m₁ = power base (j + d)} {n₂ = base} {m₂ = power base (j + d)} h (le_refl _) in
    rw e (omega (arith, m, power_more base j d h))

-- a power is at most a later one
power_up : (base j k : ℕ) → 1 ≤ base → j ≤ k → power base j ≤ power base k
power_up base j k h l = let e : j + (k - j) ≡ k = omega arith in subst (λ (n : ℕ). power base j ≤ power base n) e (power_more base j (k - j) h)

-- the run from i on has come to e, and n is spelled so far
pub record SpelledTo (text : List ℕ) (i low high base zero_byte most n e : ℕ) : Type 0 where
  pub passed : Passed (between low high) text i e
  pub so_far : e - i ≤ most → (n < power base (e - i)) × (n ≡ in_base base zero_byte 0 (take (e - i) (drop i text)))

pub spelled_none : (text : List ℕ) (i low high base zero_byte most : ℕ) → i ≤ length text → SpelledTo text i low high base zero_byte most 0 i
spelled_none text i low high base zero_byte most h =
    let z : i - i ≡ 0 = omega arith in
    record { passed = passed_none _ text i h; so_far = λ _. (rw z (omega arith), rw z refl) }

module _ (text : List ℕ) (i low high base zero_byte most n e b : ℕ) (s : Spellable low high base zero_byte most) (h : SpelledTo text i low high base zero_byte most n e)
    (l : e < length text) (w : b ≡ get_or text e 0) (in_run : between low high b ≡ true) where
  passed_one : Passed (between low high) text i (e + 1)
  passed_one = passed_more _ text i e b h.passed l w in_run

  -- a byte behind those that are spelled
  pub spelled_past : most ≤ e - i → SpelledTo text i low high base zero_byte most n (e + 1)
  spelled_past m = record { passed = passed_one; so_far = λ k. absurd (omega (arith, h.passed.from)) }

  digit_in : (zero_byte ≤ b) × (b < base + zero_byte)
  digit_in = let (p, q) = bounds low high b (is_so _ in_run) in (omega (arith, s.digits_low), omega (arith, s.digits_high))

  -- one digit more
  module _ (m : e - i < most) where
    next_below : base * n + (b - zero_byte) < power base (suc (e - i))
    next_below =
        let f = mul-le-mul {n₁ = base} {m₁ = suc n} {n₂ = base} {m₂ = power base (e - i)} (omega arith) (h.so_far (omega arith)).0 in
        omega (arith, f, mul-suc base n, digit_in.0, digit_in.1)

    pub room : base * n + (b - zero_byte) < 18446744073709551616
    room =
        omega (arith, next_below, s.fits, power_up base (suc (e - i)) most (omega (arith, digit_in.0, digit_in.1)) m)

    next_digit : take (suc (e - i)) (drop i text) ≡ take (e - i) (drop i text) ++ (b ∷ [])
    next_digit =
        let there : get_or (drop i text) (e - i) 0 ≡ b = get_or-drop i text (e - i) 0 ∙ ap (λ (k : ℕ). get_or text k 0) (omega (arith, h.passed.from)) ∙ sym w in
        take-suc (drop i text) (e - i) 0 (omega (arith, length-drop i text, h.passed.from)) ∙ ap (λ (x : ℕ). take (e - i) (drop i text) ++ (x ∷ [])) there

    pub spelled_more : SpelledTo text i low high base zero_byte most (base * n + (b - zero_byte)) (e + 1)
    spelled_more =
        let z : e + 1 - i ≡ suc (e - i) = omega (arith, h.passed.from) in
        let is = (h.so_far (omega arith)).1 in
        record {
          passed = passed_one;
          so_far =
              λ _. (
                rw z next_below,
                rw (z, next_digit, in_base_append base zero_byte 0 (take (e - i) (drop i text)) (b ∷ [])) (ap (λ (k : ℕ). base * k + (b - zero_byte)) is),
              );
        }

-- the run ends here
pub run_found : (text : List ℕ) (i low high base zero_byte most n e : ℕ) → i ≤ length text → SpelledTo text i low high base zero_byte most n e
    → e ≡ i + length (take_while (between low high) (drop i text)) → RunAt text i low high base zero_byte most (record { end = e; number = n })
run_found text i low high base zero_byte most n e l h w =
    let (from, upto, long) = run_within (between low high) text i e l w in
    record {
      ends = w;
      spells =
          λ m. (h.so_far m).1 ∙ ap (in_base base zero_byte 0) (ap (λ (k : ℕ). take k (drop i text)) long ∙ run_take (between low high) (drop i text));
    }
