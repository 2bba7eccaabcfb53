-- The token at a place: what the readers of one token find there.
use mathlib.Core.Path.{◌≡◌, refl, sym}
use mathlib.Core.Bool.{Bool, true, false}
use mathlib.Core.List.{[], ◌∷◌}
use mathlib.Core.Option.{Option, none, some}
use Prim.Native.Nat.{ℕ, ◌+◌, ◌<◌, ◌≤◌}
use native.Mathlib.Numerals.{add-one}
use native.Mathlib.Omega.{arith}
use borrow.Author.Tests.{eq-eqb}
use lib.IntN.{ℤ}
use lib.ListN.{length, get_or, drop_of_length-le}
use lib.Seq.{drop-cons}
use Rattle.tables.specs.Lists.{◌<|>◌}
use Rattle.rule.specs.Tokens.{word_number, same_word}
use Rattle.rule.specs.declared.Token.{Token}
use Rattle.rule.specs.declared.Token.TheVariants.{Fixed, Compares, Letter, Number}
use Rattle.rule.specs.declared.Word.{Word}
use Rattle.rule.specs.Grammar.{Tokens}
use Rattle.rule.specs.Reader.{expect, read_number, read_letter}
use Rattle.rule.proofs.Words.{same_word_is}
use Rattle.phrases.specs.Code.{tokens_from, Moved, Stands}

-- ---- the tokens from a place on

pub from_here : (s : Tokens) (at : ℕ) (t : Token) → at < length s → tokens_from s at ≡ get_or s at t ∷ tokens_from s (at + 1)
from_here s at t h = rw (add-one at) (drop-cons s at t h)

pub from_end : (s : Tokens) (at : ℕ) → length s ≤ at → tokens_from s at ≡ []
from_end s at h = drop_of_length-le s {i = at} h

-- the token here, with the place behind it as the caller has it
pub here_to : {s : Tokens} {at : ℕ} {t : Token} (next : ℕ) → next ≡ at + 1 → Stands s at t → tokens_from s at ≡ t ∷ tokens_from s next
here_to next e h = rw (e) h.here

pub moved_to : {s : Tokens} {at last : ℕ} {t : Token} (next : ℕ) → at ≤ last → next ≡ last + 1 → Stands s last t → Moved s at next
moved_to next p e h = record { later = omega arith; within = omega (arith, h.within) }

-- alternatives behind one that are none
pub or_none : {A : Type 0} (o : Option A) → (o <|> none) ≡ o
or_none none = refl
or_none (some x) = refl

-- ---- one token is read

-- a word that stands at a place is found there
pub expect_to : {s : Tokens} {at : ℕ} {w : Word} → Stands s at (Fixed w) → expect (Fixed w) (tokens_from s at) ≡ some (tokens_from s (at + 1))
unfolding expect
expect_to {w = w} h = rw (h.here, eq-eqb (word_number w) (word_number w) refl)

-- and no other
pub other_word : (v w : Word) → (v ≡ w → ⊥) → same_word w v ≡ false
other_word v w f = go (same_word w v) refl
  where
    go : (t : Bool) → same_word w v ≡ t → same_word w v ≡ false
    go true e = absurd (f (sym (same_word_is w v e)))
    go false e = e

pub expect_other : (s : Tokens) (at : ℕ) (w v : Word) → Stands s at (Fixed v) → (v ≡ w → ⊥) → expect (Fixed w) (tokens_from s at) ≡ none
unfolding expect
expect_other s at w v h f = rw (h.here, other_word v w f)

pub no_word_at_end : (s : Tokens) (at : ℕ) (w : Word) → tokens_from s at ≡ [] → expect (Fixed w) (tokens_from s at) ≡ none
unfolding expect
no_word_at_end s at w e = rw e

pub no_word : (s : Tokens) (at : ℕ) (w : Word) (t : Token) → Stands s at t → ((k : Word) → t ≡ Fixed k → ⊥) → expect (Fixed w) (tokens_from s at) ≡ none
unfolding expect
no_word s at w (Fixed k) h f = absurd (f k refl)
no_word s at w (Compares op) h f = rw h.here
no_word s at w (Letter x) h f = rw h.here
no_word s at w (Number n) h f = rw h.here

pub no_number_at_end : (s : Tokens) (at : ℕ) → tokens_from s at ≡ [] → read_number (tokens_from s at) ≡ none
unfolding read_number
no_number_at_end s at e = rw e

pub no_number : (s : Tokens) (at : ℕ) (t : Token) → Stands s at t → ((n : ℤ) → t ≡ Number n → ⊥) → read_number (tokens_from s at) ≡ none
unfolding read_number
no_number s at (Fixed k) h f = rw h.here
no_number s at (Compares op) h f = rw h.here
no_number s at (Letter x) h f = rw h.here
no_number s at (Number n) h f = absurd (f n refl)

pub no_letter_at_end : (s : Tokens) (at : ℕ) → tokens_from s at ≡ [] → read_letter (tokens_from s at) ≡ none
unfolding read_letter
no_letter_at_end s at e = rw e

pub no_letter : (s : Tokens) (at : ℕ) (t : Token) → Stands s at t → ((x : ℕ) → t ≡ Letter x → ⊥) → read_letter (tokens_from s at) ≡ none
unfolding read_letter
no_letter s at (Fixed k) h f = rw h.here
no_letter s at (Compares op) h f = rw h.here
no_letter s at (Letter x) h f = absurd (f x refl)
no_letter s at (Number n) h f = rw h.here

-- what word_at, number_at and letter_at answer
pub ruleset token_rules = (no_word_at_end, no_word, no_number_at_end, no_number, no_letter_at_end, no_letter)
