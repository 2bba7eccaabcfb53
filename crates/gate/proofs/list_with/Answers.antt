use mathlib.Core.Path.{ap, ◌∙◌}
use mathlib.Core.List.{List, ◌++◌}
use Prim.Native.Nat.{ℕ}
use lib.ListN.{drop}
use Rattle.std.proofs.lemmas.Result.{err_from_is_err_and}
use Rattle.gate.proofs.Calls.{list_refused, list_short, list_given}
use Rattle.gate.proofs.list_with.Goals as goal

pub returns-in_err-prepare-clause-answer : goal.returns-in_err-prepare-clause-answer
returns-in_err-prepare-clause-answer c =
    let p = err_from_is_err_and c.from_residual.result c.from_residual.ensures.1 in
    rw (p.1, p.2) (list_refused _ _ _ c.in_err-prepare.ensures.answer).0

pub returns-in_err-prepare-clause-written : goal.returns-in_err-prepare-clause-written
returns-in_err-prepare-clause-written c = (list_refused _ _ _ c.in_err-prepare.ensures.answer).1

pub returns-then-out-k-clause-answer : goal.returns-then-out-k-clause-answer
returns-then-out-k-clause-answer c = (list_short _ _ _ c.in_ok-prepare.ensures.answer c.keep_rows-k.ensures.count c.if-out-k.true).0

pub returns-then-out-k-clause-written : goal.returns-then-out-k-clause-written
returns-then-out-k-clause-written c = (list_short _ _ _ c.in_ok-prepare.ensures.answer c.keep_rows-k.ensures.count c.if-out-k.true).1

pub returns-clause-answer : goal.returns-clause-answer
returns-clause-answer c = (list_given _ _ c.args.out.now c.in_ok-prepare.ensures.answer c.keep_rows-k.ensures.count c.if-out-k.false).0

pub returns-clause-written : goal.returns-clause-written
returns-clause-written c =
    ap (λ (rows : List ℕ). rows ++ drop c.keep_rows-k.result c.args.out.now) (c.copy_from_slice.ensures.after ∙ c.keep_rows-k.ensures.rows)
    ∙ (list_given _ _ c.args.out.now c.in_ok-prepare.ensures.answer c.keep_rows-k.ensures.count c.if-out-k.false).1
