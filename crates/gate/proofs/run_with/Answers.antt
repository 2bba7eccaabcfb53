use mathlib.Core.Path.{refl}
use native.Mathlib.Omega.{arith}
use Rattle.std.proofs.lemmas.Result.{err_from_is_err_and}
use Rattle.gate.proofs.Calls.{run_refused, run_no_row, run_says}
use Rattle.gate.proofs.Judged.{one_rows}
use Rattle.gate.proofs.run_with.Goals as goal

pub returns-in_err-prepare : goal.returns-in_err-prepare
returns-in_err-prepare c =
    let p = err_from_is_err_and c.from_residual.result c.from_residual.ensures.1 in
    rw (p.1, p.2) (run_refused _ _ _ c.in_err-prepare.ensures.answer)

pub returns-then-table-row : goal.returns-then-table-row
returns-then-table-row c =
    run_no_row _ _ _ c.in_ok-prepare.ensures.answer
    (omega (arith, one_rows (c.in_ok-prepare.ensures.opened refl).sized c.layout_of-layout.ensures.places c.table_place-table.ensures))

pub says_yes-requires-clause-below : goal.says_yes-requires-clause-below
says_yes-requires-clause-below c = omega (arith, one_rows (c.in_ok-prepare.ensures.opened refl).sized c.layout_of-layout.ensures.places c.table_place-table.ensures)

pub returns : goal.returns
returns c =
    run_says _ _ _ c.in_ok-prepare.ensures.answer
    (omega (arith, one_rows (c.in_ok-prepare.ensures.opened refl).sized c.layout_of-layout.ensures.places c.table_place-table.ensures)) c.says_yes.ensures
