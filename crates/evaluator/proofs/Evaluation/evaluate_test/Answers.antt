-- `evaluator::Evaluation::evaluate_test` meets its contract: it looks at one value or two, and evaluates by the test.
use mathlib.Core.Path.{◌≡◌, ap, ◌∙◌}
use Rattle.rule.specs.Truth.{truth}
use Rattle.evaluator.proofs.Testing.{compare_evaluated, mark_evaluated}
use Rattle.evaluator.proofs.Evaluation.evaluate_test.Goals as goal
use Rattle.evaluator.proofs.Evaluation.evaluate_test.Goals.{in-Compare, in-Compare-2}

pub returns-in-Compare-test : goal.returns-in-Compare-test
returns-in-Compare-test c = λ h.
    let left : c.match-test.value ≡ c.in-Compare-test.left = elim c.match-test.branch [ in-Compare w ↦ cc | in-Compare-2 w ↦ cc ] in
    compare_evaluated h c.in-Compare-test.is _ _ (rw left at c.look-x.ensures) c.look.ensures c.compare.ensures

pub returns-in-Mark : goal.returns-in-Mark
returns-in-Mark c = λ h.
    let value : c.match-test.value ≡ c.in-Mark.value = elim c.match-test.branch [ in-Compare w ↦ cc | in-Compare-2 w ↦ cc ] in
    mark_evaluated h c.in-Mark.is _ (rw value at c.look-x.ensures) (c.from.ensures ∙ ap truth c.mark_holds.ensures)
