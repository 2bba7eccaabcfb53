use Rattle.std.proofs.Common.{pos, get_or, arith}
use Rattle.numerals.specs.Numerals.{numeral}
use Rattle.admission.proofs.Writing.{Written, lines_none, line_written}
use Rattle.admission.proofs.put_rows.Goals as goal

pub loop-row-init : goal.loop-row-init
loop-row-init c = (omega arith, lines_none _ _)

pub loop-row-preserved : goal.loop-row-preserved
loop-row-preserved c =
    let rows = c.args.rows.now in
    let k = c.loop-row.row-index in
    let v : Written c.loop-row.out c.loop-row.at (numeral (pos (get_or rows k 0))) _ _ = record { is = c.put_number-at.ensures.written; behind = c.put_number-at.ensures.next } in
    (omega arith, line_written _ rows c.loop-row.out _ c.args.i k c.loop-row.at _ (omega arith) (omega arith) (omega arith) (omega arith) c.loop-row.invariant.1 v)
