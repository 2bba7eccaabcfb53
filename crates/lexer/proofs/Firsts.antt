-- The first token of a text, by the class of its first byte.
use mathlib.Core.Path.{◌≡◌, sym, ap, ◌∙◌}
use mathlib.Core.List.{List, ◌∷◌}
use mathlib.Core.Option.{Option as MathOption, none, some, map}
use Rattle.std.specs.Prelude.{Option, Some}
use Prim.Native.Nat.{ℕ, suc, ◌+◌, ◌-◌, ◌≤◌, ◌<◌}
use native.Mathlib.Omega.{arith}
use borrow.Author.Tests.{eq-eqb, ne_eqb}
use lib.IntN.{pos}
use lib.ListN.{length, drop, get_or}
use lib.Seq.{drop-cons}
use Rattle.tables.proofs.Tests.{between_yes, between_no}
use Rattle.numerals.specs.Texts.{take_while}
use Rattle.numerals.specs.Numerals.{is_digit, minus, negative, number_of}
use Rattle.numerals.proofs.Reading.{first_minus as minus-first, first_other as digits-first}
use Rattle.rule.specs.Tokens.{Lexed, words, word_in, signs, sign_in, number_token, number_from, first_token, is_capital}
use Rattle.rule.specs.declared.Token.TheVariants.{Letter}
use Rattle.digits.specs.Code.{found_as}
use Rattle.digits.specs.declared.Found.{Found}
use Rattle.lexer.specs.declared.Lexeme.{Lexeme}
use Rattle.lexer.specs.Code.{token_to, lexed_as}
use Rattle.lexer.proofs.Signs.{from_other}

first_capital : (b : ℕ) (bs : List ℕ) → 65 ≤ b → b ≤ 90 → first_token b bs ≡ word_in words (take_while is_capital (b ∷ bs))
unfolding first_token
first_capital b bs p q = rw (first_token, between_yes 65 90 b p q)

first_small : (b : ℕ) (bs : List ℕ) → 97 ≤ b → b ≤ 122 → first_token b bs ≡ some (Letter b, 1)
unfolding first_token
first_small b bs p q = rw (first_token, between_no 65 90 b (λ x y. omega arith), between_yes 97 122 b p q)

-- a number, by its digit or its minus
first_digit : (b : ℕ) (bs : List ℕ) → 48 ≤ b → b ≤ 57 → first_token b bs ≡ map number_token (number_of pos 0 (take_while is_digit (b ∷ bs)))
unfolding first_token number_from
first_digit b bs p q =
    rw (first_token, between_no 65 90 b (λ x y. omega arith), between_no 97 122 b (λ x y. omega arith), between_yes 48 57 b p q)
    (ap (map number_token) (digits-first b bs (λ z. omega arith)))

first_minus : (b : ℕ) (bs : List ℕ) → b ≡ minus → first_token b bs ≡ map number_token (number_of negative 1 (take_while is_digit bs))
unfolding first_token number_from
first_minus b bs e =
    rw (first_token, between_no 65 90 b (λ x y. omega arith), between_no 97 122 b (λ x y. omega arith), between_no 48 57 b (λ x y. omega arith), eq-eqb b minus e)
    (ap (map number_token) (minus-first b bs e))

first_other : (b : ℕ) (bs : List ℕ) → (65 ≤ b → b ≤ 90 → ⊥) → (97 ≤ b → b ≤ 122 → ⊥) → (48 ≤ b → b ≤ 57 → ⊥) → (b ≡ minus → ⊥) → first_token b bs ≡ sign_in signs (b ∷ bs)
unfolding first_token
first_other b bs f g h k = rw (first_token, between_no 65 90 b f, between_no 97 122 b g, between_no 48 57 b h, ne_eqb b minus k)

-- ---- at place i of a text, where the byte is b

module _ (text : List ℕ) (i b : ℕ) (h : i < length text) (w : b ≡ get_or text i 0) where
  here : drop i text ≡ get_or text i 0 ∷ drop (1 + i) text
  here = let z : suc i ≡ 1 + i = omega arith in drop-cons text i 0 h ∙ ap (λ (k : ℕ). get_or text i 0 ∷ drop k text) z

  module _ (x : MathOption Lexed) where
    pub capital_at : 65 ≤ b → b ≤ 90 → x ≡ word_in words (take_while is_capital (drop i text)) → x ≡ first_token (get_or text i 0) (drop (1 + i) text)
    capital_at p q e =
        e ∙ ap (λ (l : List ℕ). word_in words (take_while is_capital l)) here ∙ sym (first_capital (get_or text i 0) (drop (1 + i) text) (omega arith) (omega arith))

    pub sign_at : (65 ≤ b → b ≤ 90 → ⊥) → (97 ≤ b → b ≤ 122 → ⊥) → (48 ≤ b → b ≤ 57 → ⊥) → (b ≡ minus → ⊥) → x ≡ sign_in signs (drop i text)
        → x ≡ first_token (get_or text i 0) (drop (1 + i) text)
    sign_at f g d k e =
        e ∙ ap (sign_in signs) here ∙ sym (first_other (get_or text i 0) (drop (1 + i) text) (λ p q. f (omega arith) (omega arith)) (λ p q. g (omega arith) (omega arith))
        (λ p q. d (omega arith) (omega arith)) (λ z. k (w ∙ z)))

  -- the number that was found there, as a token
  pub digit_at : (r : Option Lexeme) (found : Option Found) → 48 ≤ b → b ≤ 57 → ((i : ℕ) → lexed_as i r ≡ map number_token (found_as i found))
      → found_as i found ≡ number_of pos 0 (take_while is_digit (drop i text)) → lexed_as i r ≡ first_token (get_or text i 0) (drop (1 + i) text)
  digit_at r found p q t e =
      t i
      ∙ ap (map number_token) (e ∙ ap (λ (l : List ℕ). number_of pos 0 (take_while is_digit l)) here)
      ∙ sym (first_digit (get_or text i 0) (drop (1 + i) text) (omega arith) (omega arith))

  pub minus_at : (r : Option Lexeme) (found : Option Found) → b ≡ minus → ((i : ℕ) → lexed_as i r ≡ map number_token (found_as i found))
      → found_as (i + 1 - 1) found ≡ number_of negative 1 (take_while is_digit (drop (i + 1) text)) → lexed_as i r ≡ first_token (get_or text i 0) (drop (1 + i) text)
  minus_at r found z t e =
      let start : i ≡ i + 1 - 1 = omega arith in
      let next : i + 1 ≡ 1 + i = omega arith in
      t i
      ∙ ap (map number_token)
      (ap (λ (k : ℕ). found_as k found) start ∙ e ∙ ap (λ (k : ℕ). number_of negative 1 (take_while is_digit (drop k text))) next)
      ∙ sym (first_minus (get_or text i 0) (drop (1 + i) text) (sym w ∙ z))

  pub small_at : (r : Lexeme) → r ≡ token_to (Letter b) (i + 1) → 97 ≤ b → b ≤ 122 → lexed_as i (Some r) ≡ first_token (get_or text i 0) (drop (1 + i) text)
  small_at r e p q =
      let one : i + 1 - i ≡ 1 = omega arith in
      rw (e, one, first_small (get_or text i 0) (drop (1 + i) text) (omega arith) (omega arith), ← w)

  -- a byte that begins no token, and no capital, letter or digit
  pub nothing_at : 62 < b → (65 ≤ b → b ≤ 90 → ⊥) → (97 ≤ b → b ≤ 122 → ⊥) → none ≡ first_token (get_or text i 0) (drop (1 + i) text)
  nothing_at m f g =
      sign_at none f g (λ p q. omega arith) (λ z. omega arith)
      (from_other b (drop (1 + i) text) (λ z. omega arith) (λ z. omega arith) (λ z. omega arith) (λ z. omega arith) (λ z. omega arith) (λ z. omega arith)
      ∙ ap (λ (k : ℕ). sign_in signs (k ∷ drop (1 + i) text)) w ∙ sym (ap (sign_in signs) here))

-- what first_token answers
pub ruleset first_rules = (capital_at, digit_at, sign_at, minus_at, small_at, nothing_at)
