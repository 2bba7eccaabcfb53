-- What the functions of src/ promise one another and their callers, in the terms of the code: places among the tokens, and the parts that are
-- noted. The contract of a public call cites nothing of this file.
use Rattle.std.specs.Prelude.{◌≡◌, Bool, true, false, List, [], ◌∷◌, ◌++◌, ℕ, zero, suc, ◌+◌, ◌≤◌, ◌-◌, length, take, Option, Some, None}
use Rattle.std.proofs.Math.Option.{none, some}
use Rattle.tables.specs.Lists.{◌>>=◌}
use Rattle.tables.specs.declared.Connective.{Connective}
use Rattle.rule.specs.Tokens.{Close}
use Rattle.rule.specs.Condition.{Apply, WrittenCondition, parts, froms_deep}
use Rattle.rule.specs.declared.Unary.TheVariants.{Not}
use Rattle.rule.specs.Names.{most_parts}
use Rattle.rule.specs.declared.Head.TheVariants.{JoinHead, UnaryHead}
use Rattle.rule.specs.Grammar.{Tokens}
use Rattle.rule.specs.Reader.{expect, Goal, condition, factor, test, Found, truth_tested, reading, read_all}
use Rattle.lexer.specs.Code.{most_tokens}
use Rattle.phrases.specs.Code.{Note, noted, tokens_from, Moved}
use Rattle.grammar.specs.declared.Step.{Step}

-- ---- parts as they are noted

-- so many NOTs
abbrev pub not_notes : ℕ → List Note
not_notes zero = []
not_notes (suc k) = not_notes k ++ (UnaryHead Not ∷ [])

-- ---- readings

-- so many NOTs around a condition
abbrev pub under_nots : ℕ → WrittenCondition → WrittenCondition
under_nots zero a = a
under_nots (suc k) a = Apply Not (under_nots k a)

-- from one place up to the other there are NOTs, and no NOT follows
pub record NotsTo (s : Tokens) (at next : ℕ) : Type 0 where
  pub later : at ≤ next
  pub within : next ≤ length s
  pub skipped : reading factor (tokens_from s at) ≡ (reading test (tokens_from s next) >>= (λ a. some (under_nots (next - at) a.0, a.1)))

-- what joining makes of an operand and those before it: a part, unless there are none
abbrev pub join_parts : Bool → ℕ
join_parts true = 1
join_parts false = 0

abbrev pub join_notes : Bool → Connective → List Note
join_notes true j = JoinHead j ∷ []
join_notes false j = []

-- what the readers ask
pub record Ready (s : Tokens) (at w : ℕ) : Type 0 where
  pub short : length s ≤ most_tokens
  pub within : at ≤ length s
  pub few : w ≤ at

-- a reading from one place up to another: w parts were noted before, n are now, and `deep` FROMs stand around one another
pub record Reads (found : Found) (s : Tokens) (at w : ℕ) (old new : List Note) (next n deep : ℕ) : Type 0 where
  pub tree : WrittenCondition
  pub reads : found ≡ some (tree, tokens_from s next)
  pub moved : Moved s at next
  pub count : n ≡ w + parts tree
  pub froms : deep ≡ froms_deep tree
  pub used : n + at ≤ next + w
  pub notes : n ≤ most_parts → take n new ≡ take w old ++ noted tree

abbrev pub ReadsAs : Found → (s : Tokens) (at w : ℕ) (old new : List Note) → Option Step → Type 0
ReadsAs found s at w old new (Some step) = Reads found s at w old new step.at step.count step.deep
ReadsAs found s at w old new None = found ≡ none

abbrev pub ReadsTo : Goal → (s : Tokens) (at w : ℕ) (old new : List Note) → Option Step → Type 0
ReadsTo goal s at w old new r = ReadsAs (reading goal (tokens_from s at)) s at w old new r

-- a condition, and the bracket behind it
abbrev pub at_close : WrittenCondition × Tokens → Found
at_close w = expect Close w.1 >>= (λ rest. some (w.0, rest))

abbrev pub closed_reading : Tokens → Found
closed_reading ts = reading condition ts >>= at_close

abbrev pub ReadsClosed : (s : Tokens) (at w : ℕ) (old new : List Note) → Option Step → Type 0
ReadsClosed s at w old new r = ReadsAs (closed_reading (tokens_from s at)) s at w old new r

-- what is asked of a step, so that another part may be noted: as many parts as tokens at most
pub record StepFits (s : Tokens) (step : Step) : Type 0 where
  pub within : step.at ≤ length s
  pub few : step.count ≤ step.at

-- whatever was read up to a step, r is what was read with the truth test that follows it
abbrev pub TestedTo : Tokens → (old new : List Note) → Step → Option Step → Type 0
TestedTo s mid new step r =
    (found : Found) (at w : ℕ) (old : List Note) → Reads found s at w old mid step.at step.count step.deep
    → ReadsAs (found >>= (λ a. truth_tested a.0 a.1)) s at w old new r

-- all the tokens
pub record WholeReading (s : Tokens) (new : List Note) (n deep : ℕ) : Type 0 where
  pub tree : WrittenCondition
  pub reads : read_all s ≡ some tree
  pub count : n ≡ parts tree
  pub froms : deep ≡ froms_deep tree
  pub notes : n ≤ most_parts → take n new ≡ noted tree

abbrev pub ReadsAll : Tokens → List Note → Option Step → Type 0
ReadsAll s new (Some step) = WholeReading s new step.count step.deep
ReadsAll s new None = read_all s ≡ none
