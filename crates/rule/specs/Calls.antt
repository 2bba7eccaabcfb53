-- READ, JUDGE and the list of admitted rows (document 01, What the product holds; refusal 13: document 02, Point 1): which refusal, or which answer, for any bytes and any row number.
use Rattle.std.specs.Prelude.{◌≡◌, Bool, false, not, List, [], ◌∷◌, ◌++◌, ℕ, ltb, pos, length}
use Rattle.std.proofs.Math.Option.{Option, none, some}
use Rattle.tables.specs.Lists.{◌>>=◌, is_missing}
use Rattle.tables.specs.Tables.{columns_of, tables_of, rows_where}
use Rattle.tables.specs.Refusals.{Refusal, ◌if◌, first_applying, Answer, unless, Lent, lend, tables_refusals, row_refusal}
use Rattle.rule.specs.Tokens.{tokens_of, opens_fit}
use Rattle.rule.specs.Condition.{WrittenCondition, Rule}
use Rattle.rule.specs.Grammar.{Tokens}
use Rattle.rule.specs.Reader.{read_all}
use Rattle.rule.specs.Names.{limits_fit, outermost, rule_in}
use Rattle.rule.specs.Parts.{parts_of}
use Rattle.rule.specs.Sum.{sum_fits}
use Rattle.rule.specs.declared.Part.{Part}
use Rattle.rule.specs.Truth.{is_true}
use Rattle.rule.specs.declared.Truth.{Truth}
use Rattle.rule.specs.declared.Truth.TheVariants.{Unknown}
use Rattle.rule.specs.Meaning.{judged}

-- how long a text may be; refusal 3
abbrev pub most_bytes : ℕ
most_bytes = 4096

-- it is there and fails the test; where it is missing, a refusal before it applies already
abbrev pub fails : {A : Type 0} → (A → Bool) → Option A → Bool
fails p none = false
fails p (some x) = not (p x)

abbrev pub is_there : {A : Type 0} → Option A → Bool
is_there x = not (is_missing x)

-- the condition that a text reads as, and the rule that it is with these columns
unfoldable pub condition_of : List ℕ → Option WrittenCondition
condition_of text = tokens_of text >>= read_all

unfoldable pub rule_of : List ℕ → List ℕ → Option Rule
rule_of text columns = condition_of text >>= rule_in columns outermost

-- ---- the refusals of reading, in the order in which they are tried: those of the tables, 1 and 2, then these

-- 3 and 4, of a text's bytes
abbrev pub text_refusals : List ℕ → List Refusal
text_refusals text = (3 if ltb most_bytes (length text)) ∷ (4 if is_missing (tokens_of text)) ∷ []

-- 5 to 8, of its tokens and of the condition that they read as, with the columns of the tables; then 13, of the rule that it is: 'the sum is over 192; it
-- belongs to reading and comes after 8'
abbrev pub tokens_refusals : List ℕ → Option Tokens → List Refusal
tokens_refusals columns tokens =
    let condition = tokens >>= read_all in
    (5 if fails (opens_fit (pos 0)) tokens)
    ∷ (6 if fails (λ ts. is_there (read_all ts)) tokens)
    ∷ (7 if fails limits_fit condition)
    ∷ (8 if fails (λ a. is_there (rule_in columns outermost a)) condition)
    ∷ (13 if fails sum_fits (condition >>= rule_in columns outermost))
    ∷ []

unfoldable pub reading_refusals : List ℕ → List ℕ → List Refusal
reading_refusals text file = tables_refusals file ++ (text_refusals text ++ tokens_refusals (columns_of file) (tokens_of text))

-- What demand 3 compares, first sentence: accepted with a tables file
abbrev pub Accepted : List ℕ → List ℕ → Type 0
Accepted text file = first_applying (reading_refusals text file) ≡ none

-- ---- the calls

-- what is made of a rule; d where there is none, which never reaches an answer, since a refusal of reading applies then
abbrev pub with_rule : {A : Type 0} → Option Rule → A → (Rule → A) → A
with_rule none d f = d
with_rule (some r) d f = f r

-- READ writes the rule's parts into a lent list, and answers how many
unfoldable pub read_call : List ℕ → List ℕ → List Part → Lent Part
read_call text file buffer = lend (reading_refusals text file) (with_rule (rule_of text (columns_of file)) [] parts_of) buffer

-- judging comes after reading, with the refusals of both
unfoldable pub judge_refusals : List ℕ → List ℕ → ℕ → List Refusal
judge_refusals text file row = reading_refusals text file ++ (row_refusal file row ∷ [])

-- JUDGE answers the rule's value on one row
unfoldable pub judge_call : List ℕ → List ℕ → ℕ → Answer Truth
judge_call text file row =
    unless (first_applying (judge_refusals text file row)) (λ _. with_rule (rule_of text (columns_of file)) Unknown (judged (tables_of file) row))

-- ---- the order of each call's refusals, by their numbers: where several apply, the first in the call's list is given. But for 13 it is 'the lowest applying
-- number' (document 01), and 'reading goes before judging'

-- those of reading: 1 to 8, and 13, which 'belongs to reading and comes after 8' (document 02, Point 1)
abbrev pub reading_order : List ℕ
reading_order = 1 ∷ 2 ∷ 3 ∷ 4 ∷ 5 ∷ 6 ∷ 7 ∷ 8 ∷ 13 ∷ []

abbrev pub read_order : List ℕ
read_order = reading_order ++ (12 ∷ [])

abbrev pub judge_order : List ℕ
judge_order = reading_order ++ (11 ∷ [])

-- ---- the rows that a rule admits

-- What demand 3 compares: the rule is true on a row of these tables, by Meaning alone
abbrev pub true_at : List ℕ → Rule → ℕ → Bool
true_at file r row = is_true (judged (tables_of file) row r)

-- the numbers of the rows of table 1 where the rule is true: exactly those, each once, rising (RowsClaim of the crate tables)
abbrev pub true_rows : List ℕ → Rule → List ℕ
true_rows file r = rows_where file (true_at file r)

-- the program's list: text and tables to the admitted rows in a lent list, and how many they are; no card is mentioned
unfoldable pub admit_call : List ℕ → List ℕ → List ℕ → Lent ℕ
admit_call text file buffer = lend (reading_refusals text file) (with_rule (rule_of text (columns_of file)) [] (true_rows file)) buffer
