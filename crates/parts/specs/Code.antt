-- What the functions of src/ promise one another and their callers, in the terms of the code: parts in an array. The contract of a public call cites
-- nothing of this file.
use Rattle.std.specs.Prelude.{◌≡◌, Bool, true, false, List, ℕ, ◌+◌, ◌<◌, ◌≤◌}
use Rattle.tables.specs.Values.{most_entries}
use Rattle.rule.specs.Condition.{Rule, parts}
use Rattle.rule.specs.declared.Truth.{Truth}
use Rattle.rule.specs.declared.Truth.TheVariants.{False, Unknown, True}
use Rattle.rule.specs.declared.Unary.{Unary}
use Rattle.rule.specs.declared.Unary.TheVariants.{Not, Is, IsNot}
use Rattle.rule.specs.Names.{most_parts}
use Rattle.rule.specs.Parts.{Head}
use Rattle.rule.specs.declared.Head.TheVariants.{AtomHead, JoinHead, UnaryHead, ExistsHead, ListedHead}
use Rattle.rule.specs.Sum.{entry_sum}
use Rattle.names.specs.declared.RulePart.{RulePart}
use Rattle.parts.specs.Parts.{Stands}

-- how many entries a part that says this has besides those of its inner parts, where it uses these once
abbrev pub own_entries : Head → ℕ
own_entries (AtomHead x) = 1
own_entries (JoinHead j) = 1
own_entries (UnaryHead u) = 0
own_entries (ExistsHead f) = 1
own_entries (ListedHead q op l s f) = 3

-- whether it is IS UNKNOWN or IS NOT UNKNOWN, which use the condition in them twice
abbrev pub unknown_truth : Truth → Bool
unknown_truth False = false
unknown_truth Unknown = true
unknown_truth True = false

abbrev pub unknown_test : Unary → Bool
unknown_test Not = false
unknown_test (Is t) = unknown_truth t
unknown_test (IsNot t) = unknown_truth t

abbrev pub asks_unknown : Head → Bool
asks_unknown (AtomHead x) = false
asks_unknown (JoinHead j) = false
asks_unknown (UnaryHead u) = unknown_test u
asks_unknown (ExistsHead f) = false
asks_unknown (ListedHead q op l s f) = false

-- r counts n, as far as the limit goes: it is n, or both are over it
pub data Capped (r n : ℕ) : Type 0 where
  exact : r ≡ n → Capped r n
  over : most_entries < r → most_entries < n → Capped r n

-- the parts from number s up to n are those of a rule
pub record Countable (p : List RulePart) (s n : ℕ) : Type 0 where
  pub rule : Rule
  pub count : n ≡ s + parts rule
  pub few : n ≤ most_parts
  pub stands : Stands p s rule

-- r counts the entries of its card, whatever rule it is
abbrev pub CountedTo : List RulePart → ℕ → ℕ → ℕ → Type 0
CountedTo p s n r = (h : Countable p s n) → Capped r (entry_sum h.rule)
