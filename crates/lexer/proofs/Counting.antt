-- The count of ( less that of ), as the code keeps it: both counts, and whether the limit was passed.
use mathlib.Core.Path.{◌≡◌, refl, sym, ap, ◌∙◌}
use mathlib.Core.Bool.{Bool, true, false, cond, false≢true}
use mathlib.Core.List.{[], ◌∷◌, ◌++◌, append-nil, append_assoc}
use mathlib.Core.Logic.{◌⊎◌, inl, inr}
use Prim.Native.Nat.{ℕ, suc, ◌+◌, ◌-◌, ◌≤◌, ◌<◌}
use native.Mathlib.Omega.{arith}
use borrow.Author.Tests.{ltb-true, ltb-false, lt-ltb, le-ltb}
use lib.Dec.{ltb}
use lib.IntN.{ℤ, pos, negsuc, sub_ℕ, ◌+ℤ◌, +ℤ_idr}
use lib.Signed.{lt_z}
use Rattle.rule.specs.Tokens.{most_open, Open, Close, is_fixed, bracket_step, opens_fit}
use Rattle.rule.specs.declared.Token.{Token}
use Rattle.rule.specs.declared.Token.TheVariants.{Fixed, Compares, Letter, Number}
use Rattle.rule.specs.declared.Word.{Word}
use Rattle.rule.specs.declared.Word.TheVariants.{Open as OpenWord, Close as CloseWord}
use Rattle.rule.proofs.Words.{same_word_is}
use Rattle.rule.specs.Grammar.{Tokens}

-- ---- a difference of two counts

same_difference : (a b c d : ℕ) → a + d ≡ c + b → sub_ℕ a b ≡ sub_ℕ c d
same_difference a b c d h = go (ltb a b) refl
  where
    go : (t : Bool) → ltb a b ≡ t → sub_ℕ a b ≡ sub_ℕ c d
    go true e = let l = ltb-true a b e in rw (e, lt-ltb c d (omega arith)) (ap negsuc (omega arith))
    go false e = let l = ltb-false a b e in rw (e, le-ltb c d (omega arith)) (ap pos (omega arith))

one_more : (a b : ℕ) → sub_ℕ a b +ℤ pos 1 ≡ sub_ℕ (a + 1) b
one_more a b = go (ltb a b) refl
  where
    go : (t : Bool) → ltb a b ≡ t → sub_ℕ a b +ℤ pos 1 ≡ sub_ℕ (a + 1) b
    go true e = let l = ltb-true a b e in rw (e) (same_difference 1 (suc (b - suc a)) (a + 1) b (omega arith))
    go false e = let l = ltb-false a b e in rw (e, le-ltb (a + 1) b (omega arith)) (ap pos (omega arith))

one_less : (a b : ℕ) → sub_ℕ a b +ℤ negsuc 0 ≡ sub_ℕ a (b + 1)
one_less a b = go (ltb a b) refl
  where
    go : (t : Bool) → ltb a b ≡ t → sub_ℕ a b +ℤ negsuc 0 ≡ sub_ℕ a (b + 1)
    go true e = let l = ltb-true a b e in rw (e, lt-ltb a (b + 1) (omega arith)) (ap negsuc (omega arith))
    go false e = let l = ltb-false a b e in rw (e) (same_difference (a - b) 1 a (b + 1) (omega arith))

too_many : (a b : ℕ) → b + most_open < a → lt_z (pos most_open) (sub_ℕ a b) ≡ true
too_many a b h = rw (le-ltb a b (omega arith)) (lt-ltb most_open (a - b) (omega arith))

few : (a b : ℕ) → a ≤ b + most_open → lt_z (pos most_open) (sub_ℕ a b) ≡ false
few a b h = go (ltb a b) refl
  where
    go : (t : Bool) → ltb a b ≡ t → lt_z (pos most_open) (sub_ℕ a b) ≡ false
    go true e = rw (e)
    go false e = let l = ltb-false a b e in rw (e) (le-ltb most_open (a - b) (omega arith))

-- ---- what other tokens count for

pub step_word : {t : Token} {k : Word} → t ≡ Fixed k → (k ≡ OpenWord → ⊥) → (k ≡ CloseWord → ⊥) → bracket_step t ≡ pos 0
step_word {k = k} is f g = rw is (go (is_fixed Open k) refl (is_fixed Close k) refl)
  where
    go : (x : Bool) → is_fixed Open k ≡ x → (y : Bool) → is_fixed Close k ≡ y → elim x [ true ↦ pos 1 | false ↦ elim y [ true ↦ negsuc 0 | false ↦ pos 0 ] ] ≡ pos 0
    go true e y d = absurd (f (sym (same_word_is OpenWord k e)))
    go false e true d = absurd (g (sym (same_word_is CloseWord k d)))
    go false e false d = refl

pub step_other : (t : Token) → ((k : Word) → t ≡ Fixed k → ⊥) → bracket_step t ≡ pos 0
step_other (Fixed k) f = absurd (f k refl)
step_other (Compares op) f = refl
step_other (Letter x) f = refl
step_other (Number n) f = refl

-- ---- the tokens up to a place, of which o are ( and c are ): whether they fit decides over them and all that follow, or the rest decides from the difference on

pub record BracketsCounted (ts : Tokens) (o c : ℕ) (fit : Bool) : Type 0 where
  pub few_open : fit ≡ true → o ≤ c + most_open
  pub rest : (us : Tokens) → opens_fit (pos 0) (ts ++ us) ≡ cond fit (opens_fit (sub_ℕ o c) us) false

pub counted_none : BracketsCounted [] 0 0 true
counted_none = record { few_open = λ e. omega arith; rest = λ us. refl }

pub counted_all : (ts : Tokens) (o c : ℕ) (fit : Bool) → BracketsCounted ts o c fit → fit ≡ opens_fit (pos 0) ts
unfolding opens_fit
counted_all ts o c true h = sym (ap (opens_fit (pos 0)) (sym (append-nil ts)) ∙ h.rest [])
counted_all ts o c false h = sym (ap (opens_fit (pos 0)) (sym (append-nil ts)) ∙ h.rest [])

-- a token t behind ts, with which the counts o and c become p and d
module _ (ts : Tokens) (t : Token) (o c p d : ℕ) (e : sub_ℕ o c +ℤ bracket_step t ≡ sub_ℕ p d) where
  -- the tokens behind ts are t and others
  behind : (us : Tokens) → opens_fit (pos 0) ((ts ++ (t ∷ [])) ++ us) ≡ opens_fit (pos 0) (ts ++ (t ∷ us))
  behind us = ap (opens_fit (pos 0)) (append_assoc ts (t ∷ []) us)

  over : d + most_open < p → (us : Tokens) → opens_fit (sub_ℕ o c) (t ∷ us) ≡ false
  unfolding opens_fit
  over m us = rw (opens_fit, e, too_many p d m) refl

  under : p ≤ d + most_open → (us : Tokens) → opens_fit (sub_ℕ o c) (t ∷ us) ≡ opens_fit (sub_ℕ p d) us
  unfolding opens_fit
  under m us = rw (opens_fit, e, few p d m) (ap (λ (z : ℤ). opens_fit z us) e)

  -- t opens one too many
  pub counted_over : (fit : Bool) → BracketsCounted ts o c fit → d + most_open < p → BracketsCounted (ts ++ (t ∷ [])) p d false
  counted_over true h m = record { few_open = λ e. absurd (false≢true e); rest = λ us. behind us ∙ h.rest (t ∷ us) ∙ over m us }
  counted_over false h m = record { few_open = λ e. absurd (false≢true e); rest = λ us. behind us ∙ h.rest (t ∷ us) }

  -- t changes nothing about it
  pub counted_on : (fit : Bool) → BracketsCounted ts o c fit → (fit ≡ true → p ≤ d + most_open) → BracketsCounted (ts ++ (t ∷ [])) p d fit
  counted_on true h m = record { few_open = m; rest = λ us. behind us ∙ h.rest (t ∷ us) ∙ under (m refl) us }
  counted_on false h m = record { few_open = m; rest = λ us. behind us ∙ h.rest (t ∷ us) }

-- what the code does at a token t: the counts o and c become p and d, and fit becomes still
abbrev pub Counts : (t : Token) (o c p d : ℕ) (fit still : Bool) → Type 0
Counts t o c p d fit still =
    ((t ≡ Open) × (c + most_open < o + 1) × (p ≡ o + 1) × (d ≡ c) × (still ≡ false))
    ⊎ (((t ≡ Open) × (o + 1 ≤ c + most_open) × (p ≡ o + 1) × (d ≡ c) × (still ≡ fit))
    ⊎ (((t ≡ Close) × (p ≡ o) × (d ≡ c + 1) × (still ≡ fit))
    ⊎ ((bracket_step t ≡ pos 0) × (p ≡ o) × (d ≡ c) × (still ≡ fit))))

-- that is right, and each count grows by one at most
module _ (ts : Tokens) (t : Token) (o c p d : ℕ) (fit still : Bool) (h : BracketsCounted ts o c fit) where
  pub counted_more : Counts t o c p d fit still → (p ≤ o + 1) × (d ≤ c + 1) × BracketsCounted (ts ++ (t ∷ [])) p d still
  counted_more (inl (e, m, f, g, w)) =
      (omega arith, omega arith, rw (w) (counted_over ts t o c p d (rw (e, f, g) (one_more o c)) fit h (omega arith)))
  counted_more (inr (inl (e, m, f, g, w))) =
      (omega arith, omega arith, rw (w) (counted_on ts t o c p d (rw (e, f, g) (one_more o c)) fit h (λ z. omega arith)))
  counted_more (inr (inr (inl (e, f, g, w)))) =
      (omega arith, omega arith, rw (w) (counted_on ts t o c p d (rw (e, f, g) (one_less o c)) fit h (λ z. omega (arith, h.few_open z))))
  counted_more (inr (inr (inr (e, f, g, w)))) =
      (omega arith, omega arith, rw (w) (counted_on ts t o c p d (rw (e, f, g) (+ℤ_idr (sub_ℕ o c))) fit h (λ z. omega (arith, h.few_open z))))
