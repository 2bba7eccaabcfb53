use mathlib.Core.Path.{◌≡◌, refl, sym, ap, ◌∙◌}
use native.Mathlib.Omega.{arith}
use Rattle.std.proofs.Common.{rules}
use Rattle.tables.specs.declared.Quantifier.TheVariants.{Some}
use Rattle.cells.specs.Code.{place_in}
use Rattle.rule.specs.Truth.{not3, deciding}
use Rattle.rule.specs.declared.Head.TheVariants.{AtomHead, UnaryHead, ListedHead}
use Rattle.rule.specs.declared.FromClause.TheVariants.{Single}
use Rattle.rule.specs.declared.Truth.TheVariants.{False, Unknown, True}
use Rattle.rule.specs.Meaning.{unary3}
use Rattle.evaluator.specs.Code.{head_in}
use Rattle.evaluator.proofs.Truths.{Open, over_two, known_two, unknown_two, none_open, over_decides, empty_back}
use Rattle.evaluator.proofs.Evaluating.{start, test_ready, test_evaluated, unary_inner, unary_evaluated, join_known, left_inner, right_inner, join_stops, join_evaluated, exists_known, exists_room, exists_inner, exists_true, exists_lost, exists_false, listed_known, outer_ready, listed_room, row_ready, row_valued, listed_decides, listed_ends, passed_more, row_compared}
use Rattle.evaluator.proofs.Evaluation.+evaluating.Goals as goal
use Rattle.evaluator.proofs.Evaluation.+evaluating.Goals.{evaluate_list-then-eq-2, evaluate_list-else-eq-2}

pub evaluate_part-bounds-self-s : goal.evaluate_part-bounds-self-s
evaluate_part-bounds-self-s t c = omega (arith, start c.requires)

pub evaluate_part-evaluate_test-requires : goal.evaluate_part-evaluate_test-requires
evaluate_part-evaluate_test-requires t c = test_ready c.requires (search rules)

pub evaluate_part-returns-in-AtomHead : goal.evaluate_part-returns-in-AtomHead
evaluate_part-returns-in-AtomHead t c = λ h.
    let head : head_in c.args.self.now c.args.s ≡ AtomHead c.in-AtomHead.test = search rules in
    test_evaluated h head c.evaluate_test.ensures

pub evaluate_part-evaluate_pair-requires : goal.evaluate_part-evaluate_pair-requires
evaluate_part-evaluate_pair-requires t c = (omega arith, join_known c.requires (search rules))

pub evaluate_part-evaluate_part-requires : goal.evaluate_part-evaluate_part-requires
evaluate_part-evaluate_part-requires t c =
    let head : head_in c.args.self.now c.args.s ≡ UnaryHead c.in-UnaryHead.unary = search rules in
    (omega (arith, start c.requires), unary_inner c.requires head)

pub evaluate_part-returns-in-UnaryHead : goal.evaluate_part-returns-in-UnaryHead
evaluate_part-returns-in-UnaryHead t c = λ h.
    let head : head_in c.args.self.now c.args.s ≡ UnaryHead c.in-UnaryHead.unary = search rules in
    let applied : c.unary_value.result ≡ unary3 c.in-UnaryHead.unary c.evaluate_part.result = search rules in
    unary_evaluated h head c.evaluate_part.ensures applied

pub evaluate_part-evaluate_exists-requires : goal.evaluate_part-evaluate_exists-requires
evaluate_part-evaluate_exists-requires t c = (omega arith, exists_known c.requires (search rules))

pub evaluate_part-evaluate_list-requires : goal.evaluate_part-evaluate_list-requires
evaluate_part-evaluate_list-requires t c =
    let i = c.in-ListedHead in
    let head : head_in c.args.self.now c.args.s ≡ ListedHead i.quantifier i.comparison i.left i.selected i.from = search rules in
    (omega arith, listed_known c.requires i.from head)

pub evaluate_pair-evaluate_part-left-requires : goal.evaluate_pair-evaluate_part-left-requires
evaluate_pair-evaluate_part-left-requires t c = (omega (arith, start c.requires.whole), left_inner c.requires.whole c.requires.head)

pub evaluate_pair-returns-then-eq : goal.evaluate_pair-returns-then-eq
evaluate_pair-returns-then-eq t c = λ h.
    let decides : c.evaluate_part-left.result ≡ deciding c.args.connective = search rules in
    join_stops h c.requires.head c.evaluate_part-left.ensures decides

pub evaluate_pair-evaluate_part-right-requires : goal.evaluate_pair-evaluate_part-right-requires
evaluate_pair-evaluate_part-right-requires t c =
    (omega (arith, c.requires.right_low, c.requires.right_high), right_inner c.requires.whole c.requires.head)

pub evaluate_pair-returns : goal.evaluate_pair-returns
evaluate_pair-returns t c = λ h. join_evaluated h c.requires.head c.evaluate_part-left.ensures c.evaluate_part-right.ensures c.joined.ensures

pub evaluate_where-bounds-self-s : goal.evaluate_where-bounds-self-s
evaluate_where-bounds-self-s t c = omega (arith, start c.requires)

pub evaluate_where-evaluate_test-requires : goal.evaluate_where-evaluate_test-requires
evaluate_where-evaluate_test-requires t c = test_ready c.requires (search rules)

pub evaluate_where-returns-in-AtomHead : goal.evaluate_where-returns-in-AtomHead
evaluate_where-returns-in-AtomHead t c = λ h.
    let head : head_in c.args.self.now c.args.s ≡ AtomHead c.in-AtomHead.test = search rules in
    test_evaluated h head c.evaluate_test.ensures

pub evaluate_exists-evaluate_where-requires : goal.evaluate_exists-evaluate_where-requires
evaluate_exists-evaluate_where-requires t c =
    (omega (arith, start c.requires.whole), exists_inner c.requires.whole c.requires.head c.table_place-table.ensures c.loop-test.true c.loop.invariant)

pub evaluate_exists-returns-then-eq : goal.evaluate_exists-returns-then-eq
evaluate_exists-returns-then-eq t c = λ h.
    let kept : c.evaluate_where.result ≡ True = search rules in
    exists_true h c.requires.head c.table_place-table.ensures c.loop-test.true c.loop.invariant c.evaluate_where.ensures kept

pub evaluate_exists-overflow_add-first : goal.evaluate_exists-overflow_add-first
evaluate_exists-overflow_add-first t c =
    omega (arith, exists_room c.requires.whole c.requires.head c.table_place-table.ensures c.loop-test.true c.loop.invariant)

pub evaluate_exists-loop-preserved : goal.evaluate_exists-loop-preserved
evaluate_exists-loop-preserved t c =
    let lost : c.evaluate_where.result ≡ True → ⊥ = λ e. search rules in
    passed_more _ _ _ _ Some _ c.loop.invariant False (none_open Some)
    (λ h. exists_lost h c.requires.head c.table_place-table.ensures c.loop-test.true c.loop.invariant c.evaluate_where.ensures lost) False refl

pub evaluate_exists-returns : goal.evaluate_exists-returns
evaluate_exists-returns t c = λ h. exists_false h c.requires.head c.table_place-table.ensures c.loop.invariant (omega arith)

pub evaluate_row-returns : goal.evaluate_row-returns
evaluate_row-returns t c = λ h.
    let kept : c.evaluate_where.result ≡ True = search rules in
    row_compared h c.evaluate_where.ensures _ _ _ kept _ c.look.ensures c.compare.ensures

pub evaluate_list-bounds-self-s : goal.evaluate_list-bounds-self-s
evaluate_list-bounds-self-s t c = omega (arith, start c.requires.whole)

pub evaluate_list-look-x-requires : goal.evaluate_list-look-x-requires
evaluate_list-look-x-requires t c =
    let i = c.in-ListedHead in
    let head : head_in c.args.self.now c.args.s ≡ ListedHead i.quantifier i.comparison i.left i.selected (Single c.requires.table) = search rules in
    outer_ready c.requires.whole head

pub evaluate_list-evaluate_row-row-requires : goal.evaluate_list-evaluate_row-row-requires
evaluate_list-evaluate_row-row-requires t c =
    let i = c.in-ListedHead in
    let head : head_in c.args.self.now c.args.s ≡ ListedHead i.quantifier i.comparison i.left i.selected (Single c.requires.table) = search rules in
    let there : c.table_place-table.result ≡ place_in c.args.self.now.layout.now c.requires.table = search rules in
    let passed = rw (c.over_no_rows-empty.ensures, empty_back i.quantifier) at c.loop.invariant in
    (omega (arith, start c.requires.whole), row_ready c.requires.whole head there c.loop-test.true passed)

pub evaluate_list-overflow_add-first : goal.evaluate_list-overflow_add-first
evaluate_list-overflow_add-first t c =
    let i = c.in-ListedHead in
    let head : head_in c.args.self.now c.args.s ≡ ListedHead i.quantifier i.comparison i.left i.selected (Single c.requires.table) = search rules in
    let there : c.table_place-table.result ≡ place_in c.args.self.now.layout.now c.requires.table = search rules in
    let passed = rw (c.over_no_rows-empty.ensures, empty_back i.quantifier) at c.loop.invariant in
    omega (arith, listed_room c.requires.whole head there c.loop-test.true passed)

pub evaluate_list-returns-then-eq : goal.evaluate_list-returns-then-eq
evaluate_list-returns-then-eq t c = λ h.
    let i = c.in-ListedHead in
    let head : head_in c.args.self.now c.args.s ≡ ListedHead i.quantifier i.comparison i.left i.selected (Single c.requires.table) = search rules in
    let there : c.table_place-table.result ≡ place_in c.args.self.now.layout.now c.requires.table = search rules in
    let passed = rw (c.over_no_rows-empty.ensures, empty_back i.quantifier) at c.loop.invariant in
    let decides : c.evaluate_row-row.result ≡ not3 c.over_no_rows-empty.result = search rules in
    listed_decides h head there c.loop-test.true passed c.look-x.result c.look-x.ensures c.over_no_rows-empty.ensures c.evaluate_row-row.ensures decides

pub evaluate_list-loop-preserved : goal.evaluate_list-loop-preserved
evaluate_list-loop-preserved t c =
    let i = c.in-ListedHead in
    let head : head_in c.args.self.now c.args.s ≡ ListedHead i.quantifier i.comparison i.left i.selected (Single c.requires.table) = search rules in
    let there : c.table_place-table.result ≡ place_in c.args.self.now.layout.now c.requires.table = search rules in
    let passed = rw (c.over_no_rows-empty.ensures, empty_back i.quantifier) at c.loop.invariant in
    let row = c.evaluate_row-row.result in
    let on : row ≡ not3 c.over_no_rows-empty.result → ⊥ = λ e. search rules in
    let undecides : Open i.quantifier row = λ e. on (e ∙ sym (over_decides i.quantifier) ∙ ap not3 (sym c.over_no_rows-empty.ensures)) in
    let now : c.if-eq-2.value ≡ over_two i.quantifier c.loop.value row =
    elim c.if-eq-2.branch [
      | evaluate_list-then-eq-2 w ↦ (
          let unknown : row ≡ Unknown = search rules in
          w.value-is ∙ unknown ∙ unknown_two i.quantifier c.loop.value passed.undecided ∙ ap (over_two i.quantifier c.loop.value) (sym unknown)
          )
      | evaluate_list-else-eq-2 w ↦ (let known : row ≡ Unknown → ⊥ = λ e. search rules in w.value-is ∙ known_two i.quantifier c.loop.value row undecides known)
    ]
    in
    rw (c.over_no_rows-empty.ensures, empty_back i.quantifier) (
    passed_more _ _ _ _ i.quantifier _ passed row undecides
    (λ h. row_valued h head there c.loop-test.true passed c.look-x.result c.look-x.ensures c.over_no_rows-empty.ensures c.evaluate_row-row.ensures) _ now
    )

pub evaluate_list-returns : goal.evaluate_list-returns
evaluate_list-returns t c = λ h.
    let i = c.in-ListedHead in
    let head : head_in c.args.self.now c.args.s ≡ ListedHead i.quantifier i.comparison i.left i.selected (Single c.requires.table) = search rules in
    let there : c.table_place-table.result ≡ place_in c.args.self.now.layout.now c.requires.table = search rules in
    let passed = rw (c.over_no_rows-empty.ensures, empty_back i.quantifier) at c.loop.invariant in
    listed_ends h head there passed (omega arith)
