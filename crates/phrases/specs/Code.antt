-- What the functions of src/ promise one another and their callers, in the terms of the code: places among the tokens. The contract of a public
-- call cites nothing of this file.
use Rattle.std.specs.Prelude.{◌≡◌, List, [], ◌∷◌, ◌++◌, ℕ, ◌+◌, ◌<◌, ◌≤◌, ℤ, length, drop, Option, Some, None}
use Rattle.std.proofs.Math.Option.{Option as MathOption, none, some}
use Rattle.tables.specs.Lists.{◌>>=◌}
use Rattle.tables.specs.declared.Comparison.{Comparison}
use Rattle.tables.specs.declared.Quantifier.{Quantifier}
use Rattle.rule.specs.declared.Head.{Head as HeadOver}
use Rattle.rule.specs.declared.Head.TheVariants.{AtomHead, JoinHead, UnaryHead, ExistsHead, ListedHead}
use Rattle.rule.specs.declared.Truth.{Truth}
use Rattle.rule.specs.declared.Token.{Token}
use Rattle.rule.specs.declared.Token.TheVariants.{Fixed, Letter, Number}
use Rattle.rule.specs.declared.Word.{Word}
use Rattle.rule.specs.Condition.{Atom, Join, Apply, Exists, Listed, WrittenCondition, parts, froms_deep}
use Rattle.rule.specs.declared.Test.{Test}
use Rattle.rule.specs.declared.Test.TheVariants.{Compare}
use Rattle.rule.specs.declared.Unary.{Unary}
use Rattle.rule.specs.declared.FromClause.{FromClause}
use Rattle.rule.specs.declared.WrittenValue.{WrittenValue}
use Rattle.rule.specs.declared.Source.{Source}
use Rattle.rule.specs.Grammar.{Tokens}
use Rattle.rule.specs.Reader.{expect, read_number, read_letter, read_value, read_from, Opening, closed, ended, Start, Whole, Around, start_list, start_value, start, read_truth, read_truth_test}
use Rattle.phrases.specs.declared.ValueRead.{ValueRead}
use Rattle.phrases.specs.declared.FromRead.{FromRead}
use Rattle.phrases.specs.declared.Start.{Start as Started}
use Rattle.phrases.specs.declared.Start.TheVariants.{Whole as StartedWhole, Around as StartedAround}
use Rattle.phrases.specs.declared.Behind.{Behind}
use Rattle.phrases.specs.declared.Behind.TheVariants.{List as BehindList, Value as BehindValue}
use Rattle.phrases.specs.declared.TruthRead.{TruthRead}

-- ---- parts as they are written

-- what a part says by itself
abbrev pub Note : Type 0
Note = HeadOver WrittenValue Source

-- the parts of a condition, each after its inner parts
unfoldable pub noted : WrittenCondition → List Note
noted (Atom x) = AtomHead x ∷ []
noted (Join j a b) = noted a ++ (noted b ++ (JoinHead j ∷ []))
noted (Apply u a) = noted a ++ (UnaryHead u ∷ [])
noted (Exists f w) = noted w ++ (ExistsHead f ∷ [])
noted (Listed q op l s f w) = noted w ++ (ListedHead q op l s f ∷ [])

-- ---- places

-- the tokens from a place on
abbrev pub tokens_from : Tokens → ℕ → Tokens
tokens_from s at = drop at s

-- a place after another, among the tokens
pub record Moved (s : Tokens) (at next : ℕ) : Type 0 where
  pub later : at < next
  pub within : next ≤ length s

-- a token stands at a place
pub record Stands (s : Tokens) (at : ℕ) (t : Token) : Type 0 where
  pub here : tokens_from s at ≡ t ∷ tokens_from s (at + 1)
  pub within : at < length s

abbrev pub TokenAt : Tokens → ℕ → Option Token → Type 0
TokenAt s at (Some t) = Stands s at t
TokenAt s at None = tokens_from s at ≡ []

-- a word there, or no word
abbrev pub WordAt : Tokens → ℕ → Option Word → Type 0
WordAt s at (Some w) = Stands s at (Fixed w)
WordAt s at None = (w : Word) → expect (Fixed w) (tokens_from s at) ≡ none

abbrev pub NumberAt : Tokens → ℕ → Option ℤ → Type 0
NumberAt s at (Some n) = Stands s at (Number n)
NumberAt s at None = read_number (tokens_from s at) ≡ none

abbrev pub LetterAt : Tokens → ℕ → Option ℕ → Type 0
LetterAt s at (Some x) = Stands s at (Letter x)
LetterAt s at None = read_letter (tokens_from s at) ≡ none

-- ---- runs of tokens

pub record ValueIs (s : Tokens) (at : ℕ) (v : WrittenValue) (next : ℕ) : Type 0 where
  pub found : read_value (tokens_from s at) ≡ some (v, tokens_from s next)
  pub moved : Moved s at next

abbrev pub ValueAt : Tokens → ℕ → Option ValueRead → Type 0
ValueAt s at (Some r) = ValueIs s at r.value r.next
ValueAt s at None = read_value (tokens_from s at) ≡ none

pub record FromIs (s : Tokens) (at : ℕ) (f : FromClause Source) (next : ℕ) : Type 0 where
  pub found : read_from (tokens_from s at) ≡ some (f, tokens_from s next)
  pub moved : Moved s at next

abbrev pub FromAt : Tokens → ℕ → Option FromRead → Type 0
FromAt s at (Some r) = FromIs s at r.from r.next
FromAt s at None = read_from (tokens_from s at) ≡ none

-- ---- starts: `begun` is what the definition finds at a place

-- a test that is read to its end is one part, this one
pub record WholeIs (s : Tokens) (at : ℕ) (begun : MathOption Start) (note : Note) (next : ℕ) : Type 0 where
  pub whole : WrittenCondition
  pub found : begun ≡ some (Whole whole (tokens_from s next))
  pub notes : noted whole ≡ note ∷ []
  pub one : parts whole ≡ 1
  pub flat : froms_deep whole ≡ 0
  pub moved : Moved s at next

-- what stands before a condition makes one part more of it, and one FROM; and no truth test may follow it
pub record AroundIs (s : Tokens) (at : ℕ) (begun : MathOption Start) (note : Note) (next : ℕ) : Type 0 where
  pub opening : Opening
  pub found : begun ≡ some (Around opening (tokens_from s next))
  pub notes : (w : WrittenCondition) → noted (closed opening w) ≡ noted w ++ (note ∷ [])
  pub one : (w : WrittenCondition) → parts (closed opening w) ≡ 1 + parts w
  pub deeper : (w : WrittenCondition) → froms_deep (closed opening w) ≡ 1 + froms_deep w
  pub untested : (a : WrittenCondition) (rest : Tokens) → ended opening a rest ≡ some (a, rest)
  pub moved : Moved s at next

abbrev pub Starts : Tokens → ℕ → MathOption Start → Option Started → Type 0
Starts s at begun (Some (StartedWhole note next)) = WholeIs s at begun note next
Starts s at begun (Some (StartedAround note next)) = AroundIs s at begun note next
Starts s at begun None = begun ≡ none

-- a test without inner parts, up to a place
abbrev pub started_whole : Test WrittenValue → ℕ → Started
started_whole x next = StartedWhole (AtomHead x) next

-- of a list, behind its value and comparison
abbrev pub ListAt : (s : Tokens) (at : ℕ) (q : Quantifier) (op : Comparison) (left : WrittenValue) → Option Started → Type 0
ListAt s at q op left r = Starts s at (start_list q op left (tokens_from s at)) r

-- of a value, behind another and a comparison
abbrev pub compared_with : Comparison → WrittenValue → Tokens → MathOption Start
compared_with op l ts = read_value ts >>= (λ r. some (Whole (Atom (Compare op l r.0)) r.1))

abbrev pub ComparisonAt : (s : Tokens) (at : ℕ) (op : Comparison) (left : WrittenValue) → Option Started → Type 0
ComparisonAt s at op left r = Starts s at (compared_with op left (tokens_from s at)) r

-- behind a value
abbrev pub FollowedAt : (s : Tokens) (at : ℕ) (left : WrittenValue) → Option Started → Type 0
FollowedAt s at left r = Starts s at (start_value left (tokens_from s at)) r

abbrev pub TestAt : Tokens → ℕ → Option Started → Type 0
TestAt s at r = Starts s at (start (tokens_from s at)) r

-- ---- what stands behind a value and compares it, whichever value that is

pub record ListBehind (s : Tokens) (at : ℕ) (q : Quantifier) (op : Comparison) (next : ℕ) : Type 0 where
  pub found : (l : WrittenValue) → start_value l (tokens_from s at) ≡ start_list q op l (tokens_from s next)
  pub moved : Moved s at next

pub record ValueBehind (s : Tokens) (at : ℕ) (op : Comparison) (next : ℕ) : Type 0 where
  pub found : (l : WrittenValue) → start_value l (tokens_from s at) ≡ compared_with op l (tokens_from s next)
  pub moved : Moved s at next

abbrev pub BehindAt : Tokens → ℕ → Option Behind → Type 0
BehindAt s at (Some (BehindList q op next)) = ListBehind s at q op next
BehindAt s at (Some (BehindValue op next)) = ValueBehind s at op next
BehindAt s at None = (l : WrittenValue) → start_value l (tokens_from s at) ≡ none

-- ---- truth tests

pub record TruthStands (s : Tokens) (at : ℕ) (t : Truth) : Type 0 where
  pub found : read_truth (tokens_from s at) ≡ some (t, tokens_from s (at + 1))
  pub within : at < length s

abbrev pub TruthAt : Tokens → ℕ → Option Truth → Type 0
TruthAt s at (Some t) = TruthStands s at t
TruthAt s at None = read_truth (tokens_from s at) ≡ none

-- behind an IS
pub record TruthIs (s : Tokens) (at : ℕ) (u : Unary) (next : ℕ) : Type 0 where
  pub found : read_truth_test (tokens_from s at) ≡ some (u, tokens_from s next)
  pub moved : Moved s at next

abbrev pub TruthTestAt : Tokens → ℕ → Option TruthRead → Type 0
TruthTestAt s at (Some r) = TruthIs s at r.unary r.next
TruthTestAt s at None = read_truth_test (tokens_from s at) ≡ none
