-- Truth values: what a part makes of the values in it; SOME and ALL go row by row.
use Rattle.std.specs.Prelude.{◌≡◌, refl, Bool, true, false, cond, ◌||◌, List, [], ◌∷◌, map, ℕ, zero, suc, ◌<◌}
use mathlib.Core.Path.{sym, ap, ◌∙◌}
use native.Mathlib.Nat.{le_of_suc-le-suc, not-suc-le-zero}
use native.Mathlib.Omega.{arith}
use Rattle.tables.specs.Lists.{tabulate, any, put, keep}
use Rattle.tables.specs.declared.Connective.{Connective}
use Rattle.tables.specs.declared.Connective.TheVariants.{And, Or}
use Rattle.tables.specs.declared.Quantifier.{Quantifier}
use Rattle.tables.specs.declared.Quantifier.TheVariants.{Some, All}
use Rattle.rule.specs.Truth.{truth, is_true, and3, or3, not3, join3, deciding, truth_number}
use Rattle.rule.specs.declared.Truth.{Truth}
use Rattle.rule.specs.declared.Truth.TheVariants.{False, Unknown, True}
use Rattle.rule.specs.Meaning.{over3}
use Rattle.rule.proofs.Truths.{some_cons, all_cons}
use Rattle.rule.proofs.Arithmetic.{number_high, same_truth, arithmetic_claim}
use Rattle.evaluator.specs.Code.{empty_truth}

-- ---- connectives

-- one side decides, the left or the right one
pub left_stop : (j : Connective) (a b : Truth) → a ≡ deciding j → deciding j ≡ join3 j a b
left_stop j a b e = sym (ap (λ v. join3 j v b) e ∙ arithmetic_claim.left_decides j b)

right_stop : (j : Connective) (a b : Truth) → deciding j ≡ b → deciding j ≡ join3 j a b
right_stop j a b e = sym (ap (join3 j a) (sym e) ∙ arithmetic_claim.right_decides j a)

join_assoc : (j : Connective) (a b d : Truth) → join3 j (join3 j a b) d ≡ join3 j a (join3 j b d)
join_assoc And a b d =
    same_truth _ _ (omega (arith, arithmetic_claim.and_is a b, arithmetic_claim.and_is b d, arithmetic_claim.and_is (and3 a b) d, arithmetic_claim.and_is a (and3 b d)))
join_assoc Or a b d =
    same_truth _ _ (omega (arith, arithmetic_claim.or_is a b, arithmetic_claim.or_is b d, arithmetic_claim.or_is (or3 a b) d, arithmetic_claim.or_is a (or3 b d)))

-- a row is retained where its value is true
pub not_kept : (a : Truth) → (a ≡ True → ⊥) → is_true a ≡ false
not_kept False f = refl
not_kept Unknown f = refl
not_kept True f = absurd (f refl)

-- ---- SOME and ALL

-- SOME is OR over the rows, ALL is AND
abbrev pub over_rows : Quantifier → Connective
over_rows Some = Or
over_rows All = And

abbrev pub over_two : Quantifier → Truth → Truth → Truth
over_two q a b = join3 (over_rows q) a b

-- the value over no rows, and the one that decides
pub over_decides : (q : Quantifier) → not3 (empty_truth q) ≡ deciding (over_rows q)
over_decides Some = refl
over_decides All = refl

pub over_none : (q : Quantifier) → over3 q [] ≡ empty_truth q
over_none Some = refl
over_none All = refl

over_cons : (q : Quantifier) (v : Truth) (vs : List Truth) → over3 q (v ∷ vs) ≡ over_two q v (over3 q vs)
over_cons Some v vs = some_cons v vs
over_cons All v vs = all_cons v vs

-- a row that is not retained counts as the value over no rows
empty_two : (q : Quantifier) (a : Truth) → over_two q (empty_truth q) a ≡ a
empty_two Some a = refl
empty_two All a = refl

two_empty : (q : Quantifier) (a : Truth) → over_two q a (empty_truth q) ≡ a
two_empty Some a = same_truth _ _ (omega (arith, arithmetic_claim.or_is a False))
two_empty All a = same_truth _ _ (omega (arith, arithmetic_claim.and_is a True, number_high a))

module _ {A : Type 0} (q : Quantifier) (retained : A → Bool) (f : A → Truth) where
  -- over the rows that are retained, and over all rows
  pub over_kept : (xs : List A) → over3 q (map f (keep retained xs)) ≡ over3 q (map (λ x. cond (retained x) (f x) (empty_truth q)) xs)
  over_kept [] = refl
  over_kept (x ∷ xs) =
      go (retained x) ∙ ap (over_two q (cond (retained x) (f x) (empty_truth q))) (over_kept xs)
      ∙ sym (over_cons q (cond (retained x) (f x) (empty_truth q)) (map (λ x. cond (retained x) (f x) (empty_truth q)) xs))
    where
      go : (b : Bool) → over3 q (map f (put b x (keep retained xs))) ≡ over_two q (cond b (f x) (empty_truth q)) (over3 q (map f (keep retained xs)))
      go true = over_cons q (f x) (map f (keep retained xs))
      go false = sym (empty_two q (over3 q (map f (keep retained xs))))

-- EXISTS is SOME over whether rows are retained
pub exists_some : {A : Type 0} (retained : A → Bool) (xs : List A) → truth (any retained xs) ≡ over3 Some (map (λ x. truth (retained x)) xs)
exists_some retained [] = refl
exists_some retained (x ∷ xs) =
    go (retained x) ∙ ap (or3 (truth (retained x))) (exists_some retained xs)
    ∙ sym (over_cons Some (truth (retained x)) (map (λ x. truth (retained x)) xs))
  where
    go : (b : Bool) → truth (b || any retained xs) ≡ or3 (truth b) (truth (any retained xs))
    go true = refl
    go false = refl

-- one more row
pub over_more : (q : Quantifier) (n : ℕ) (f : ℕ → Truth) → over3 q (tabulate (suc n) f) ≡ over_two q (over3 q (tabulate n f)) (f n)
over_more q zero f = over_cons q (f 0) [] ∙ ap (over_two q (f 0)) (over_none q) ∙ two_empty q (f 0) ∙ sym (ap (λ v. over_two q v (f 0)) (over_none q) ∙ empty_two q (f 0))
over_more q (suc n) f =
    over_cons q (f 0) (tabulate (suc n) (λ k. f (suc k)))
    ∙ ap (over_two q (f 0)) (over_more q n (λ k. f (suc k)))
    ∙ sym (join_assoc (over_rows q) (f 0) (over3 q (tabulate n (λ k. f (suc k)))) (f (suc n)))
    ∙ ap (λ v. over_two q v (f (suc n))) (sym (over_cons q (f 0) (tabulate n (λ k. f (suc k)))))

-- a row that decides
pub over_stop : (q : Quantifier) (n : ℕ) (f : ℕ → Truth) (k : ℕ) → k < n → f k ≡ deciding (over_rows q) → deciding (over_rows q) ≡ over3 q (tabulate n f)
over_stop q zero f k l e = absurd (not-suc-le-zero l)
over_stop q (suc n) f zero l e = left_stop (over_rows q) (f 0) _ e ∙ sym (over_cons q (f 0) _)
over_stop q (suc n) f (suc k) l e =
    right_stop (over_rows q) (f 0) _ (over_stop q n (λ k. f (suc k)) k (le_of_suc-le-suc l) e) ∙ sym (over_cons q (f 0) _)

-- a is the value over the rows so far, b that of one more: neither decides
module _ (q : Quantifier) where
  abbrev pub Open : Truth → Type 0
  Open a = a ≡ deciding (over_rows q) → ⊥

pub open_two : (q : Quantifier) (a b : Truth) → Open q a → Open q b → Open q (over_two q a b)
open_two Some False b f g e = g e
open_two Some Unknown False f g e = f e
open_two Some Unknown Unknown f g e = f e
open_two Some Unknown True f g e = g refl
open_two Some True b f g e = f refl
open_two All False b f g e = f refl
open_two All Unknown False f g e = g refl
open_two All Unknown Unknown f g e = f e
open_two All Unknown True f g e = f e
open_two All True b f g e = g e

-- then the value is unknown with a row that is unknown, and else stays
pub unknown_two : (q : Quantifier) (a : Truth) → Open q a → Unknown ≡ over_two q a Unknown
unknown_two Some False f = refl
unknown_two Some Unknown f = refl
unknown_two Some True f = absurd (f refl)
unknown_two All False f = absurd (f refl)
unknown_two All Unknown f = refl
unknown_two All True f = refl

pub known_two : (q : Quantifier) (a b : Truth) → Open q b → (b ≡ Unknown → ⊥) → a ≡ over_two q a b
known_two Some a False f g = sym (two_empty Some a)
known_two Some a Unknown f g = absurd (g refl)
known_two Some a True f g = absurd (f refl)
known_two All a False f g = absurd (f refl)
known_two All a Unknown f g = absurd (g refl)
known_two All a True f g = sym (two_empty All a)

-- the value over no rows does not decide
pub none_open : (q : Quantifier) → Open q (empty_truth q)
none_open Some e = omega (arith, ap truth_number e)
none_open All e = omega (arith, ap truth_number e)

-- which quantifier it is, by its value over no rows
abbrev pub empty_over : Truth → Quantifier
empty_over False = Some
empty_over Unknown = All
empty_over True = All

pub empty_back : (q : Quantifier) → empty_over (empty_truth q) ≡ q
empty_back Some = refl
empty_back All = refl
