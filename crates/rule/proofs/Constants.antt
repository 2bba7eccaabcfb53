-- The numbers of an accepted text have 32 bits: from its tokens to the constants of its condition.
use mathlib.Core.Path.{◌≡◌, refl}
use mathlib.Core.Bool.{Bool, true, false, ◌||◌}
use mathlib.Core.List.{List, [], ◌∷◌}
use mathlib.Core.Option.{Option, none, some, map}
use Prim.Native.Nat.{ℕ, zero, suc, pred}
use lib.Dec.{T, eqb}
use lib.IntN.{ℤ}
use Rattle.tables.specs.Lists.{same}
use Rattle.tables.specs.Bytes.{in_range}
use Rattle.tables.proofs.Tests.{is_so}
use Rattle.numerals.specs.Texts.{take_while}
use Rattle.numerals.specs.Numerals.{is_digit, minus, first_number}
use Rattle.numerals.proofs.Reading.{first_told}
use Rattle.rule.specs.Tokens.{Spelling, words, signs, is_gap, is_capital, is_small, Lexed, word_in, begins, sign_in, number_token, number_from, first_token, and_then, tokens_after, tokens_of}
use Rattle.rule.specs.declared.Token.{Token}
use Rattle.rule.specs.declared.Token.TheVariants.{Fixed, Compares, Letter, Number}
use Rattle.rule.specs.Condition.{WrittenCondition}
use Rattle.rule.specs.declared.WrittenValue.{WrittenValue}
use Rattle.rule.specs.declared.WrittenValue.TheVariants.{Plain, Named}
use Rattle.rule.specs.Grammar.{Tokens, IsCondition}
use Rattle.rule.specs.Throughout.{Throughout}
use Rattle.rule.proofs.Carried.{EachToken, carried}
use Rattle.rule.proofs.Every.{Every, missing, there, found}

-- ---- tokens

abbrev TokenFits : Token → Type 0
TokenFits (Fixed k) = Unit {0}
TokenFits (Compares op) = Unit {0}
TokenFits (Letter x) = Unit {0}
TokenFits (Number n) = T (in_range n)

abbrev pub TokensFit : Tokens → Type 0
TokensFit = EachToken TokenFits

abbrev LexedFits : Lexed → Type 0
LexedFits x = TokenFits x.0

abbrev SpellingsFit : List Spelling → Type 0
SpellingsFit [] = Unit {0}
SpellingsFit (s ∷ ss) = TokenFits s.token × SpellingsFit ss

-- a test between something found and what else is looked for
either : {A : Type 0} (P : A → Type 0) (b : Bool) {x y : Option A} → Every P x → Every P y → Every P (elim b [ true ↦ x | false ↦ y ])
either P true p q = p
either P false p q = q

word_fits : (ss : List Spelling) (w : List ℕ) → SpellingsFit ss → Every LexedFits (word_in ss w)
unfolding word_in
word_fits [] w f = missing
word_fits (s ∷ ss) w f = either LexedFits (same s.text w) (there f.0) (word_fits ss w f.1)

sign_fits : (ss : List Spelling) (text : List ℕ) → SpellingsFit ss → Every LexedFits (sign_in ss text)
unfolding sign_in
sign_fits [] text f = missing
sign_fits (s ∷ ss) text f = either LexedFits (begins s.text text) (there f.0) (sign_fits ss text f.1)

number_fits : (text : List ℕ) → Every LexedFits (number_from text)
unfolding number_from
number_fits text = go (first_number text) refl
  where
    go : (o : Option (ℤ × ℕ)) → first_number text ≡ o → Every LexedFits (map number_token o)
    go none e = missing
    go (some x) e = let f : T (in_range x.0) = is_so _ (first_told text x.0 x.1 e).fits in there f

first_fits : (b : ℕ) (bs : List ℕ) → Every LexedFits (first_token b bs)
unfolding first_token words signs
first_fits b bs =
    either LexedFits (is_capital b) (word_fits words (take_while is_capital (b ∷ bs)) (tt, (tt, (tt, (tt, (tt, (tt, (tt, (tt, (tt, (tt, (tt, (tt, (tt, (tt, (tt, (tt, tt)))))))))))))))))
    (either LexedFits (is_small b) (there tt)
    (either LexedFits (is_digit b || eqb b minus) (number_fits (b ∷ bs)) (sign_fits signs (b ∷ bs) (tt, (tt, (tt, (tt, (tt, (tt, (tt, (tt, (tt, tt))))))))))))

then_fits : (o : Option Lexed) (behind : ℕ → Option Tokens) → Every LexedFits o → ((n : ℕ) → Every TokensFit (behind n)) → Every TokensFit (and_then o behind)
then_fits none behind missing h = missing
then_fits (some x) behind (there f) h = go (behind (pred x.1)) (h (pred x.1))
  where
    go : (o : Option Tokens) → Every TokensFit o → Every TokensFit (map (λ ts. x.0 ∷ ts) o)
    go none missing = missing
    go (some ts) (there g) = let h : TokensFit (x.0 ∷ ts) = (f, g) in there h

after_fits : (text : List ℕ) (n : ℕ) → Every TokensFit (tokens_after n text)
unfolding tokens_after
after_fits [] n = there tt
after_fits (b ∷ bs) (suc n) = after_fits bs n
after_fits (b ∷ bs) zero = either TokensFit (is_gap b) (after_fits bs 0) (then_fits (first_token b bs) (λ n. tokens_after n bs) (first_fits b bs) (λ n. after_fits bs n))

pub tokens_fit : (text : List ℕ) {ts : Tokens} → tokens_of text ≡ some ts → TokensFit ts
unfolding tokens_of
tokens_fit text e = found (rw e at (after_fits text 0))

-- ---- conditions

abbrev pub WrittenFits : WrittenValue → Type 0
WrittenFits (Plain k) = T (in_range k)
WrittenFits (Named x n) = Unit {0}

abbrev pub Constants : WrittenCondition → Type 0
Constants = Throughout WrittenFits (λ f. Unit {0})

pub reading_constants : {ts rest : Tokens} {a : WrittenCondition} → IsCondition ts a rest → TokensFit ts → Constants a
reading_constants r f = carried TokenFits WrittenFits (λ f. Unit {0}) (λ n k. k) (λ x n l k. tt) (λ n x k l. tt) r f
