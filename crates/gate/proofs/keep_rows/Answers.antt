use mathlib.Core.Path.{sym, ◌∙◌}
use native.Mathlib.Omega.{arith}
use Rattle.gate.proofs.Judged.{one_rows, few_rows}
use Rattle.gate.proofs.Listing.{kept_yes, kept_no, kept_all}
use Rattle.gate.proofs.keep_rows.Goals as goal
use Rattle.gate.proofs.keep_rows.Goals.{else-yes, then-yes}

pub loop-row-preserved : goal.loop-row-preserved
loop-row-preserved c =
    let few = few_rows c.requires.opened.sized c.requires.places c.table_place-table.ensures in
    elim c.if-yes.branch [ then-yes x ↦ kept_yes _ _ _ _ c.loop-row.invariant (omega arith) _ (sym c.says_yes-yes.ensures ∙ x.if-yes.true) x.k-is | else-yes x ↦ kept_no _ _ _ _ c.loop-row.invariant (omega arith) _ (sym c.says_yes-yes.ensures ∙ x.if-yes.false) x.k-is ]

pub says_yes-yes-requires-clause-below : goal.says_yes-yes-requires-clause-below
says_yes-yes-requires-clause-below c = omega (arith, one_rows c.requires.opened.sized c.requires.places c.table_place-table.ensures)

pub returns : goal.returns
returns c =
    let few = few_rows c.requires.opened.sized c.requires.places c.table_place-table.ensures in
    let (rows, count) = kept_all _ _ _ _ _ _ c.loop-row.invariant (one_rows c.requires.opened.sized c.requires.places c.table_place-table.ensures) c.loop-row.auto.row-end c.loop-row-test.false in
    record { rows = rows; count = count; size = omega (arith, c.loop-row.invariant.few) }
