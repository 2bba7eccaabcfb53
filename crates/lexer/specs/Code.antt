-- What the functions of src/ promise one another and their callers, in the terms of the code. The contract of a public call
-- cites nothing of this file.
use Rattle.std.specs.Prelude.{◌≡◌, cond, List, [], ◌∷◌, ℕ, ◌+◌, ◌-◌, ◌≤◌, eqb, pos, take, Option, Some, None}
use Rattle.std.proofs.Math.Option.{Option as MathOption, none, some}
use Rattle.tables.specs.declared.Comparison.TheVariants.{Ne, Lt, Le, Gt, Ge}
use Rattle.numerals.specs.Numerals.{in_base}
use Rattle.rule.specs.Tokens.{Spelling, Lexed, opens_fit}
use Rattle.rule.specs.declared.Token.{Token}
use Rattle.rule.specs.declared.Token.TheVariants.{Compares}
use Rattle.rule.specs.Grammar.{Tokens}
use Rattle.rule.specs.Calls.{most_bytes}
use Rattle.lexer.specs.declared.Lexeme.{Lexeme}
use Rattle.lexer.specs.declared.Tokenized.{Tokenized}

-- there is at most a token at each byte of a text
abbrev pub most_tokens : ℕ
most_tokens = most_bytes

-- ---- words

-- how many capitals are looked at as a word: no word is longer, and the bytes of so many make up a number of 64 bits
abbrev pub most_capitals : ℕ
most_capitals = 8

-- the bytes of a word are the digits of a number in this base
abbrev pub word_base : ℕ
word_base = 256

-- the greatest number that three bytes make up
abbrev pub most_of_three : ℕ
most_of_three = 16777215

-- the word whose bytes make up a number
unfoldable pub token_spelled : List Spelling → ℕ → MathOption Token
token_spelled [] n = none
token_spelled (s ∷ ss) n = cond (eqb (in_base word_base 0 0 s.text) n) (some s.token) (token_spelled ss n)

-- ---- what the lexer answers

abbrev pub token_to : Token → ℕ → Lexeme
token_to t e = record { token = t; end = e }

-- a token that starts at place i
abbrev pub lexed_as : ℕ → Option Lexeme → MathOption Lexed
lexed_as i (Some r) = some (r.token, r.end - i)
lexed_as i None = none

-- < and > with what may follow them, at place i
abbrev pub less_from : ℕ → ℕ → Lexeme
less_from next i =
    cond (eqb next 62) (token_to (Compares Ne) (i + 2))
    (cond (eqb next 61) (token_to (Compares Le) (i + 2)) (token_to (Compares Lt) (i + 1)))

abbrev pub greater_from : ℕ → ℕ → Lexeme
greater_from next i = cond (eqb next 61) (token_to (Compares Ge) (i + 2)) (token_to (Compares Gt) (i + 1))

-- so many tokens, which stand at the front of l
abbrev pub tokenized_as : Option Tokenized → Tokens → MathOption Tokens
tokenized_as (Some r) l = some (take r.count l)
tokenized_as None l = none

-- the flag says whether refusal 5 does not apply to them
abbrev pub BracketsTold : Option Tokenized → Tokens → Type 0
BracketsTold (Some r) l = r.fit ≡ opens_fit (pos 0) (take r.count l)
BracketsTold None l = Unit {0}

-- there are at most so many tokens
abbrev pub FewTokens : Option Tokenized → ℕ → Type 0
FewTokens (Some r) most = r.count ≤ most
FewTokens None most = Unit {0}
