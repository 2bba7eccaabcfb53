-- The sign that a text begins with, from its first byte and the next.
use mathlib.Core.Path.{◌≡◌, refl, sym, ap, ◌∙◌}
use mathlib.Core.Bool.{Bool, true, false, and-true}
use mathlib.Core.List.{List, [], ◌∷◌}
use mathlib.Core.Option.{none, some}
use Rattle.std.specs.Prelude.{Some}
use Prim.Native.Nat.{ℕ, suc, ◌+◌, ◌-◌, ◌<◌}
use native.Mathlib.Omega.{arith}
use borrow.Author.Tests.{eqb-true, eqb-false, eq-eqb, ne_eqb}
use lib.Dec.{eqb}
use lib.ListN.{length, drop, get_or}
use lib.Seq.{drop-cons, get_or-drop}
use Rattle.numerals.specs.Texts.{bytes}
use Rattle.tables.specs.declared.Comparison.TheVariants.{Eq}
use Rattle.rule.specs.Tokens.{Open, Close, Point, begins, signs, sign_in}
use Rattle.rule.specs.declared.Token.{Token}
use Rattle.rule.specs.declared.Token.TheVariants.{Compares}
use Rattle.lexer.specs.declared.Lexeme.{Lexeme}
use Rattle.lexer.specs.Code.{token_to, lexed_as, less_from, greater_from}

other : (a b : ℕ) → (b ≡ a → ⊥) → eqb a b ≡ false
other a b f = ne_eqb a b (λ z. f (sym z))

-- the rest of a sign of two bytes
begins_less_greater : (bs : List ℕ) → begins (62 ∷ []) bs ≡ eqb 62 (get_or bs 0 0)
begins_less_greater [] = refl
begins_less_greater (b ∷ bs) = and-true (eqb 62 b)

begins_equal : (bs : List ℕ) → begins (61 ∷ []) bs ≡ eqb 61 (get_or bs 0 0)
begins_equal [] = refl
begins_equal (b ∷ bs) = and-true (eqb 61 b)

from_less : (bs : List ℕ) (i : ℕ) → lexed_as i (Some (less_from (get_or bs 0 0) i)) ≡ sign_in signs (60 ∷ bs)
unfolding sign_in signs bytes
from_less bs i = go (eqb next 62) refl (eqb next 61) refl
  where
    next : ℕ
    next = get_or bs 0 0

    one : i + 1 - i ≡ 1
    one = omega arith

    two : i + 2 - i ≡ 2
    two = omega arith

    go : (s : Bool) → eqb next 62 ≡ s → (t : Bool) → eqb next 61 ≡ t → lexed_as i (Some (less_from next i)) ≡ sign_in signs (60 ∷ bs)
    go true e t f = rw (e, sign_in, begins_less_greater bs, eq-eqb 62 next (sym (eqb-true next 62 e)), two)
    go false e true f = rw (e, f, sign_in, begins_less_greater bs, other 62 next (eqb-false next 62 e), begins_equal bs, eq-eqb 61 next (sym (eqb-true next 61 f)), two)
    go false e false f = rw (e, f, sign_in, begins_less_greater bs, other 62 next (eqb-false next 62 e), begins_equal bs, other 61 next (eqb-false next 61 f), one)

from_greater : (bs : List ℕ) (i : ℕ) → lexed_as i (Some (greater_from (get_or bs 0 0) i)) ≡ sign_in signs (62 ∷ bs)
unfolding sign_in signs bytes
from_greater bs i = go (eqb next 61) refl
  where
    next : ℕ
    next = get_or bs 0 0

    one : i + 1 - i ≡ 1
    one = omega arith

    two : i + 2 - i ≡ 2
    two = omega arith

    go : (t : Bool) → eqb next 61 ≡ t → lexed_as i (Some (greater_from next i)) ≡ sign_in signs (62 ∷ bs)
    go true e = rw (e, sign_in, begins_equal bs, eq-eqb 61 next (sym (eqb-true next 61 e)), two)
    go false e = rw (e, sign_in, begins_equal bs, other 61 next (eqb-false next 61 e), one)

-- a byte that begins no sign
pub from_other : (b : ℕ) (bs : List ℕ) → (b ≡ 40 → ⊥) → (b ≡ 41 → ⊥) → (b ≡ 46 → ⊥) → (b ≡ 60 → ⊥) → (b ≡ 61 → ⊥) → (b ≡ 62 → ⊥) → none ≡ sign_in signs (b ∷ bs)
unfolding sign_in signs bytes
from_other b bs f40 f41 f46 f60 f61 f62 =
    rw (
      sign_in,
      other 60 b f60,
      other 60 b f60,
      other 62 b f62,
      other 40 b f40,
      other 41 b f41,
      other 46 b f46,
      other 61 b f61,
      other 60 b f60,
      other 62 b f62,
    )

-- ---- at place i of a text, where the byte is b

module _ (text : List ℕ) (i b : ℕ) (h : i < length text) (w : b ≡ get_or text i 0) where
  from_place : (k : ℕ) → b ≡ k → drop i text ≡ k ∷ drop (suc i) text
  from_place k e = drop-cons text i 0 h ∙ ap (λ (a : ℕ). a ∷ drop (suc i) text) (sym w ∙ e)

  one_byte : (k : ℕ) (t : Token) (r : Lexeme) → b ≡ k → r ≡ token_to t (i + 1) → some (t, 1) ≡ sign_in signs (k ∷ drop (suc i) text) → lexed_as i (Some r) ≡ sign_in signs (drop i text)
  one_byte k t r e w s = let one : i + 1 - i ≡ 1 = omega arith in rw (w, one, from_place k e) s

  module _ (r : Lexeme) where
    pub open_sign : b ≡ 40 → r ≡ token_to Open (i + 1) → lexed_as i (Some r) ≡ sign_in signs (drop i text)
    unfolding sign_in signs bytes
    open_sign e w = one_byte 40 Open r e w refl

    pub close_sign : b ≡ 41 → r ≡ token_to Close (i + 1) → lexed_as i (Some r) ≡ sign_in signs (drop i text)
    unfolding sign_in signs bytes
    close_sign e w = one_byte 41 Close r e w refl

    pub point_sign : b ≡ 46 → r ≡ token_to Point (i + 1) → lexed_as i (Some r) ≡ sign_in signs (drop i text)
    unfolding sign_in signs bytes
    point_sign e w = one_byte 46 Point r e w refl

    pub equal_sign : b ≡ 61 → r ≡ token_to (Compares Eq) (i + 1) → lexed_as i (Some r) ≡ sign_in signs (drop i text)
    unfolding sign_in signs bytes
    equal_sign e w = one_byte 61 (Compares Eq) r e w refl

  next_byte : get_or text (i + 1) 0 ≡ get_or (drop (suc i) text) 0 0
  next_byte = let z : i + 1 ≡ suc i + 0 = omega arith in ap (λ (j : ℕ). get_or text j 0) z ∙ sym (get_or-drop (suc i) text 0 0)

  pub less_sign : (r : Lexeme) → b ≡ 60 → r ≡ less_from (get_or text (i + 1) 0) i → lexed_as i (Some r) ≡ sign_in signs (drop i text)
  less_sign r e s =
      ap (λ (k : Lexeme). lexed_as i (Some k)) (s ∙ ap (λ (a : ℕ). less_from a i) next_byte) ∙ from_less (drop (suc i) text) i ∙ ap (sign_in signs) (sym (from_place 60 e))

  pub greater_sign : (r : Lexeme) → b ≡ 62 → r ≡ greater_from (get_or text (i + 1) 0) i → lexed_as i (Some r) ≡ sign_in signs (drop i text)
  greater_sign r e s =
      ap (λ (k : Lexeme). lexed_as i (Some k)) (s ∙ ap (λ (a : ℕ). greater_from a i) next_byte) ∙ from_greater (drop (suc i) text) i ∙ ap (sign_in signs) (sym (from_place 62 e))

  pub no_sign : (b ≡ 40 → ⊥) → (b ≡ 41 → ⊥) → (b ≡ 46 → ⊥) → (b ≡ 60 → ⊥) → (b ≡ 61 → ⊥) → (b ≡ 62 → ⊥) → none ≡ sign_in signs (drop i text)
  no_sign f40 f41 f46 f60 f61 f62 = from_other b (drop (suc i) text) f40 f41 f46 f60 f61 f62 ∙ ap (sign_in signs) (sym (from_place b refl))

-- what sign answers
pub ruleset sign_rules = (open_sign, close_sign, point_sign, less_sign, equal_sign, greater_sign, no_sign)
