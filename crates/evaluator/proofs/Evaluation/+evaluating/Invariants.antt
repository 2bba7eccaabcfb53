-- Every inner part has a larger number, so the most parts less the number falls.
use Prim.Native.Nat.{ℕ, ◌+◌, ◌-◌, ◌*◌}
use Rattle.tables.specs.declared.Quantifier.TheVariants.{Some}
use Rattle.rule.specs.declared.Truth.TheVariants.{False}
use Rattle.rule.specs.Names.{most_parts}
use Rattle.evaluator.proofs.Truths.{empty_over}
use Rattle.evaluator.proofs.Evaluating.{RowsPassed}
use Rattle.evaluator.proofs.Evaluation.+evaluating.Given as goal

abbrev pub invariant-evaluate_exists-loop : goal.invariant-evaluate_exists-loop
invariant-evaluate_exists-loop l = RowsPassed l.self l.w l.s l.depth Some l.table l.counter l.first False l.v

abbrev pub invariant-evaluate_list-loop : goal.invariant-evaluate_list-loop
invariant-evaluate_list-loop l = RowsPassed l.self l.w l.s l.depth (empty_over l.empty) l.table l.counter l.first l.value l.v

-- what falls from call to call, for part s: the functions are ordered by more, where s stays the same
abbrev measure : ℕ → ℕ → ℕ
measure s more = 4 * (most_parts - s) + more

abbrev pub decreases-evaluate_exists : goal.decreases-evaluate_exists
decreases-evaluate_exists l = measure l.s 1

abbrev pub decreases-evaluate_list : goal.decreases-evaluate_list
decreases-evaluate_list l = measure l.s 1

abbrev pub decreases-evaluate_pair : goal.decreases-evaluate_pair
decreases-evaluate_pair l = measure l.s 1

abbrev pub decreases-evaluate_part : goal.decreases-evaluate_part
decreases-evaluate_part l = measure l.s 2

abbrev pub decreases-evaluate_row : goal.decreases-evaluate_row
decreases-evaluate_row l = measure l.s 0

abbrev pub decreases-evaluate_where : goal.decreases-evaluate_where
decreases-evaluate_where l = measure l.s 3
