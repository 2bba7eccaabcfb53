-- `runner::Run::run_leaf` meets its contract: it looks at one value or two, and answers by the leaf.
use mathlib.Core.Path.{◌≡◌}
use Rattle.runner.proofs.Leaf.{compare_answer, mark_answer}
use Rattle.runner.proofs.Run.run_leaf.Goals as goal
use Rattle.runner.proofs.Run.run_leaf.Goals.{in-CompareLeaf, in-CompareLeaf-2}

pub returns-in-CompareLeaf-leaf : goal.returns-in-CompareLeaf-leaf
returns-in-CompareLeaf-leaf c = λ h.
    let left : c.match-leaf.value ≡ c.in-CompareLeaf-leaf.left = elim c.match-leaf.branch [ in-CompareLeaf w ↦ cc | in-CompareLeaf-2 w ↦ cc ] in
    compare_answer h c.in-CompareLeaf-leaf.is _ _ (rw left at c.look-x.ensures) c.look-y.ensures c.unknown_says.ensures c.cells_hold.ensures

pub returns-in-MarkLeaf : goal.returns-in-MarkLeaf
returns-in-MarkLeaf c = λ h.
    let value : c.match-leaf.value ≡ c.in-MarkLeaf.value = elim c.match-leaf.branch [ in-CompareLeaf w ↦ cc | in-CompareLeaf-2 w ↦ cc ] in
    mark_answer h c.in-MarkLeaf.is _ (rw value at c.look-x.ensures) c.lowest_mark.ensures c.asks_marked.ensures
