-- What is printed: the admitted rows, or the number of the refusal.
use Rattle.std.proofs.Common.{refl, sym, arith}
use lib.Seq.{length-take-le}
use Rattle.admission.proofs.Printed.{prints_refusal, prints_sized, prints_total, prints_few, prints_short, prints_rows}
use Rattle.admission.proofs.Texts.{printed_as}
use Rattle.admission.proofs.print.Goals as goal

pub slice_bounds-rows-end : goal.slice_bounds-rows-end
slice_bounds-rows-end c = omega (arith, prints_few c.args.text.now c.args.file.now _ refl c.admit.result c.admit.ensures.answer _ c.in-Ok.is)

pub slice_bounds-print_rows-end : goal.slice_bounds-print_rows-end
slice_bounds-print_rows-end c =
    sym (length-take-le _ _ (omega (arith, prints_few c.args.text.now c.args.file.now _ refl c.admit.result c.admit.ensures.answer _ c.in-Ok.is)))

pub table_rows-requires : goal.table_rows-requires
table_rows-requires c = prints_sized _ _ _ refl c.admit.result c.admit.ensures.answer _ c.in-Ok.is

pub print_rows-requires-clause-fact_2 : goal.print_rows-requires-clause-fact_2
print_rows-requires-clause-fact_2 c =
    prints_short c.args.text.now c.args.file.now _ refl c.admit.result c.admit.ensures.answer _ c.in-Ok.is _ c.admit.ensures.written

pub print_rows-requires-clause-fact_3 : goal.print_rows-requires-clause-fact_3
print_rows-requires-clause-fact_3 c =
    let total = prints_total c.args.text.now c.args.file.now _ refl c.admit.result c.admit.ensures.answer _ c.in-Ok.is in
    omega (arith, total, c.table_rows.ensures.is)

pub returns-in-Ok : goal.returns-in-Ok
returns-in-Ok c =
    let rows = prints_rows c.args.text.now c.args.file.now _ refl c.admit.result c.admit.ensures.answer _ c.in-Ok.is _ c.admit.ensures.written _ c.table_rows.ensures.is in
    let w = c.print_rows.ensures in
    let p = printed_as _ _ _ _ _ (w.written, (w.next, w.counted)) rows in
    record { printed = p.0; next = p.1.0; counted = p.1.1 }

pub returns-in-Err : goal.returns-in-Err
returns-in-Err c =
    let refusal = prints_refusal c.args.text.now c.args.file.now _ refl c.admit.result c.admit.ensures.answer _ c.in-Err.is in
    let w = c.print_refusal.ensures in
    let p = printed_as _ _ _ _ _ (w.written, (w.next, w.counted)) refusal in
    record { printed = p.0; next = p.1.0; counted = p.1.1 }
