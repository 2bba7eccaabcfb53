-- The readers call each other while the remaining tokens fall. Assumes nothing.
use Rattle.tables.specs.declared.Connective.{Connective}
use Rattle.tables.specs.declared.Connective.TheVariants.{And, Or}
use mathlib.Core.List.{List}
use Prim.Native.Nat.{ℕ, ◌+◌, ◌*◌, ◌-◌}
use lib.ListN.{length}
use Rattle.grammar.proofs.Chain.{Before}
use Rattle.grammar.proofs.+reading.Given as goal

-- what falls from call to call: the tokens from a place on, and at one place the rank of a reader; there are nine ranks, since AND's operands and
-- chains are below a conjunction, and OR's above it
abbrev pub left : {A : Type 0} → List A → ℕ → ℕ → ℕ
left s at rank = 9 * (length s - at) + rank

abbrev pub above : Connective → ℕ
above And = 0
above Or = 3

abbrev pub decreases-read_closed : goal.decreases-read_closed
decreases-read_closed l = left l.s.now l.at 8

abbrev pub decreases-read_condition : goal.decreases-read_condition
decreases-read_condition l = left l.s.now l.at 7

abbrev pub decreases-read_conjunction : goal.decreases-read_conjunction
decreases-read_conjunction l = left l.s.now l.at 4

abbrev pub decreases-read_factor : goal.decreases-read_factor
decreases-read_factor l = left l.s.now l.at 1

abbrev pub decreases-read_joined : goal.decreases-read_joined
decreases-read_joined l = left l.s.now l.at (3 + above l.connective)

abbrev pub decreases-read_operand : goal.decreases-read_operand
decreases-read_operand l = left l.s.now l.at (2 + above l.connective)

abbrev pub decreases-read_test : goal.decreases-read_test
decreases-read_test l = left l.s.now l.at 0

abbrev pub invariant-read_joined-loop-step : goal.invariant-read_joined-loop-step
invariant-read_joined-loop-step l = Before l.connective l.s l.at l.w l.initial.out l.joins l.out l.next l.n l.d

abbrev pub decreases-read_joined-loop-step : goal.decreases-read_joined-loop-step
decreases-read_joined-loop-step l = length l.s - l.next
