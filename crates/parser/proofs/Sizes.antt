-- How many parts stand in an array.
use mathlib.Core.Path.{◌≡◌, ap}
use mathlib.Core.List.{List}
use Prim.Native.Nat.{ℕ, ◌≤◌}
use native.Mathlib.Omega.{arith}
use lib.ListN.{length, take}
use lib.Seq.{length-take-le}
use Rattle.rule.specs.Condition.{Rule, parts}
use Rattle.names.specs.Code.{placed_of}
use Rattle.names.specs.declared.RulePart.{RulePart}
use Rattle.names.proofs.Published.{placed_length}

-- where the first n parts of an array are those of a rule, the rule has n parts
pub written_count : (new : List RulePart) (n : ℕ) (rule : Rule) → n ≤ length new → take n new ≡ placed_of rule → n ≡ parts rule
written_count new n rule h e = omega (arith, length-take-le n new h, ap length e, placed_length 0 rule)
