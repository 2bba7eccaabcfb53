-- Document 01, Rule text: a text as a list of tokens, and refusals 4 and 5.
use Rattle.std.specs.Prelude.{Bool, true, false, ◌&&◌, ◌||◌, List, [], ◌∷◌, ℕ, zero, suc, pred, eqb, ℤ, pos, negsuc, ◌+ℤ◌, length}
use Rattle.rule.specs.declared.Token.{Token}
use Rattle.rule.specs.declared.Token.TheVariants.{Fixed, Compares, Letter, Number}
use Rattle.rule.specs.declared.Word.{Word}
use Rattle.rule.specs.declared.Word.TheVariants.{And as AndWord, Or as OrWord, Not as NotWord, Exists as ExistsWord, In as InWord, Some as SomeWord, All as AllWord, Is as IsWord, Null as NullWord, Select as SelectWord, From as FromWord, Where as WhereWord, Open as OpenWord, Close as CloseWord, Point as PointWord, True as TrueWord, False as FalseWord, Unknown as UnknownWord, Declined as DeclinedWord}
use Rattle.std.proofs.Math.Option.{Option, none, some, map}
use Prim.Native.String.{String}
use Rattle.std.specs.Int.Signed.{lt_z}
use Rattle.tables.specs.Lists.{same}
use Rattle.tables.specs.Bytes.{between}
use Rattle.tables.specs.declared.Comparison.TheVariants.{Eq, Ne, Lt, Le, Gt, Ge}
use Rattle.numerals.specs.Texts.{take_while}
use Rattle.numerals.specs.Numerals.{is_digit, minus, first_number}
-- quoted texts, for those who write a rule's text
unfoldable pub use Rattle.numerals.specs.Texts.{bytes}

-- ---- the tokens

-- a word or a sign that is always written the same, a comparison, a letter, which is its byte, or a number: the enum `Token` of src/lib.rt

abbrev pub AND : Token
AND = Fixed AndWord

abbrev pub OR : Token
OR = Fixed OrWord

abbrev pub NOT : Token
NOT = Fixed NotWord

abbrev pub EXISTS : Token
EXISTS = Fixed ExistsWord

abbrev pub IN : Token
IN = Fixed InWord

abbrev pub SOME : Token
SOME = Fixed SomeWord

abbrev pub ALL : Token
ALL = Fixed AllWord

abbrev pub IS : Token
IS = Fixed IsWord

abbrev pub NULL : Token
NULL = Fixed NullWord

abbrev pub SELECT : Token
SELECT = Fixed SelectWord

abbrev pub FROM : Token
FROM = Fixed FromWord

abbrev pub WHERE : Token
WHERE = Fixed WhereWord

abbrev pub Open : Token
Open = Fixed OpenWord

abbrev pub Close : Token
Close = Fixed CloseWord

abbrev pub Point : Token
Point = Fixed PointWord

-- document 02, Point 1: 'the three become words'
abbrev pub TRUE : Token
TRUE = Fixed TrueWord

abbrev pub FALSE : Token
FALSE = Fixed FalseWord

abbrev pub UNKNOWN : Token
UNKNOWN = Fixed UnknownWord

-- Point 4: 'DECLINED becomes a word'
abbrev pub DECLINED : Token
DECLINED = Fixed DeclinedWord

-- numbers that tell the words and signs apart
abbrev pub word_number : Word → ℕ
word_number AndWord = 1
word_number OrWord = 2
word_number NotWord = 3
word_number ExistsWord = 4
word_number InWord = 5
word_number SomeWord = 6
word_number AllWord = 7
word_number IsWord = 8
word_number NullWord = 9
word_number SelectWord = 10
word_number FromWord = 11
word_number WhereWord = 12
word_number OpenWord = 13
word_number CloseWord = 14
word_number PointWord = 15
word_number TrueWord = 16
word_number FalseWord = 17
word_number UnknownWord = 18
word_number DeclinedWord = 19

abbrev pub same_word : Word → Word → Bool
same_word v w = eqb (word_number v) (word_number w)

-- the token t is this word or sign
abbrev pub is_fixed : Token → Word → Bool
is_fixed (Fixed v) w = same_word v w
is_fixed (Compares op) w = false
is_fixed (Letter x) w = false
is_fixed (Number n) w = false

-- a token that is always written the same
pub record Spelling : Type 0 where
  pub text : List ℕ
  pub token : Token

infix 10 ◌is◌
abbrev ◌is◌ : String → Token → Spelling
s is t = record { text = bytes s; token = t }

-- the words: what a run of capitals may be
unfoldable pub words : List Spelling
words =
    ("AND" is AND) ∷ ("OR" is OR) ∷ ("NOT" is NOT) ∷ ("EXISTS" is EXISTS) ∷ ("IN" is IN) ∷ ("SOME" is SOME) ∷ ("ALL" is ALL)
    ∷ ("IS" is IS) ∷ ("NULL" is NULL) ∷ ("SELECT" is SELECT) ∷ ("FROM" is FROM) ∷ ("WHERE" is WHERE)
    ∷ ("TRUE" is TRUE) ∷ ("FALSE" is FALSE) ∷ ("UNKNOWN" is UNKNOWN) ∷ ("DECLINED" is DECLINED) ∷ []

-- the signs; where one begins another, the longer stands first
unfoldable pub signs : List Spelling
signs =
    ("<>" is Compares Ne) ∷ ("<=" is Compares Le) ∷ (">=" is Compares Ge) ∷ ("(" is Open) ∷ (")" is Close) ∷ ("." is Point)
    ∷ ("=" is Compares Eq) ∷ ("<" is Compares Lt) ∷ (">" is Compares Gt) ∷ []

-- ---- the bytes of a token

-- what may stand around tokens: spaces and line feeds
abbrev pub is_gap : ℕ → Bool
is_gap b = eqb b 32 || eqb b 10

abbrev pub is_capital : ℕ → Bool
is_capital = between 65 90

abbrev pub is_small : ℕ → Bool
is_small = between 97 122

-- a token, and how many bytes it takes
abbrev pub Lexed : Type 0
Lexed = Token × ℕ

-- the word that a run of capitals, the whole of it, is
unfoldable pub word_in : List Spelling → List ℕ → Option Lexed
word_in [] w = none
word_in (s ∷ ss) w = elim (same s.text w) [ true ↦ some (s.token, length w) | false ↦ word_in ss w ]

abbrev pub begins : List ℕ → List ℕ → Bool
begins [] text = true
begins (a ∷ as') [] = false
begins (a ∷ as') (b ∷ bs) = eqb a b && begins as' bs

-- the first listed sign that a text begins with
unfoldable pub sign_in : List Spelling → List ℕ → Option Lexed
sign_in [] text = none
sign_in (s ∷ ss) text = elim (begins s.text text) [ true ↦ some (s.token, length s.text) | false ↦ sign_in ss text ]

-- a number that takes so many bytes, as a token
abbrev pub number_token : ℤ × ℕ → Lexed
number_token x = (Number x.0, x.1)

-- the number that a text begins with, as a token
unfoldable pub number_from : List ℕ → Option Lexed
number_from text = map number_token (first_number text)

-- the token that a text begins with, where its first byte is b and is no gap
unfoldable pub first_token : ℕ → List ℕ → Option Lexed
first_token b bs =
    elim (is_capital b) [
      | true ↦ word_in words (take_while is_capital (b ∷ bs))
      | false ↦
          elim (is_small b) [
            | true ↦ some (Letter b, 1)
            | false ↦ elim (is_digit b || eqb b minus) [ true ↦ number_from (b ∷ bs) | false ↦ sign_in signs (b ∷ bs) ]
          ]
    ]

-- ---- the tokens of a text

-- this token and those behind it, which `behind` finds once the token's own bytes are passed
abbrev pub and_then : Option Lexed → (ℕ → Option (List Token)) → Option (List Token)
and_then none behind = none
and_then (some x) behind = map (λ ts. x.0 ∷ ts) (behind (pred x.1))

-- the tokens of a text, of whose bytes the first n belong to a token found already; none: refusal 4
unfoldable pub tokens_after : ℕ → List ℕ → Option (List Token)
tokens_after n [] = some []
tokens_after (suc n) (b ∷ bs) = tokens_after n bs
tokens_after zero (b ∷ bs) = elim (is_gap b) [ true ↦ tokens_after 0 bs | false ↦ and_then (first_token b bs) (λ n. tokens_after n bs) ]

unfoldable pub tokens_of : List ℕ → Option (List Token)
tokens_of text = tokens_after 0 text

-- ---- refusal 5: how many more ( than ) there may be up to a token

abbrev pub most_open : ℕ
most_open = 32

-- what a token adds to the count of ( less that of )
abbrev pub bracket_step : Token → ℤ
bracket_step (Fixed k) = elim (is_fixed Open k) [ true ↦ pos 1 | false ↦ elim (is_fixed Close k) [ true ↦ negsuc 0 | false ↦ pos 0 ] ]
bracket_step (Compares c) = pos 0
bracket_step (Letter b) = pos 0
bracket_step (Number n) = pos 0

-- with n more ( than ) before these tokens, there are never more than the limit up to one of them; n may be negative
unfoldable pub opens_fit : ℤ → List Token → Bool
opens_fit n [] = true
opens_fit n (t ∷ ts) = let m = n +ℤ bracket_step t in elim (lt_z (pos most_open) m) [ true ↦ false | false ↦ opens_fit m ts ]
