-- A list of rows: the first line piece by piece, then a line for each row.
use Rattle.std.proofs.Common.{◌++◌, ◌*◌, length, refl, arith}
use Rattle.numerals.specs.Texts.{bytes}
use Rattle.admission.specs.Output.{line_feed, row_lines}
use Rattle.admission.proofs.Writing.{number_length}
use Rattle.admission.proofs.Texts.{Begun, begun_none, begun_more, begun_answered, to_admitted, to_total, rows_grouped}
use Rattle.admission.proofs.print_rows.Goals as goal

pub returns : goal.returns
unfolding bytes
returns c =
    let out = c.args.out.now in
    let rows = c.args.rows.now in
    let n = length rows in
    let total = c.args.total in
    let first : Begun out (bytes "rows ") 5 c.put_word-at.new.out c.put_word-at.result =
    begun_more _ _ _ _ _ (begun_none out (omega arith)) _ _ _ 5 c.put_word-at.ensures.written c.put_word-at.ensures.next (omega arith) (omega arith) in
    let second : Begun out (to_admitted n) 9 c.put_number-at.new.out c.put_number-at.result =
    begun_more _ _ _ _ _ first _ _ _ 4 c.put_number-at.ensures.written c.put_number-at.ensures.next (number_length n (omega arith)) (omega arith) in
    let third : Begun out (to_admitted n ++ bytes " of ") 13 c.put_word-at-2.new.out c.put_word-at-2.result =
    begun_more _ _ _ _ _ second _ _ _ 4 c.put_word-at-2.ensures.written c.put_word-at-2.ensures.next (omega arith) (omega arith) in
    let fourth : Begun out (to_total n total) 17 c.put_number-at-2.new.out c.put_number-at-2.result =
    begun_more _ _ _ _ _ third _ _ _ 4 c.put_number-at-2.ensures.written c.put_number-at-2.ensures.next (number_length total (omega arith)) (omega arith) in
    let fifth : Begun out (to_total n total ++ line_feed) 18 c.put_word-at-3.new.out c.put_word-at-3.result =
    begun_more _ _ _ _ _ fourth line_feed _ _ 1 c.put_word-at-3.ensures.written c.put_word-at-3.ensures.next (omega arith) (omega arith) in
    let b = begun_more _ _ _ _ _ fifth (row_lines rows) _ _ (5 * n) c.put_rows.ensures.written c.put_rows.ensures.next (omega arith) (omega arith) in
    let a = begun_answered _ _ _ _ _ b (omega arith) _ (rows_grouped n total rows refl) in
    record { written = a.0; next = a.1.0; counted = a.1.1 }
