-- A refusal: the word, the number and a line feed, one behind another.
use Rattle.std.proofs.Common.{◌++◌, ◌∙◌, ap, pos, arith}
use Rattle.numerals.specs.Texts.{bytes}
use Rattle.numerals.specs.Numerals.{numeral}
use Rattle.cells.proofs.Told.{reason_small}
use Rattle.admission.specs.Output.{line_feed, refusal_text}
use Rattle.admission.proofs.Writing.{number_length}
use Rattle.admission.proofs.Texts.{Begun, begun_none, begun_more, begun_answered, refusal_grouped}
use Rattle.admission.proofs.print_refusal.Goals as goal

pub returns : goal.returns
unfolding bytes
returns c =
    let out = c.args.out.now in
    let n = c.from.result in
    let number = numeral (pos n) in
    let first : Begun out (bytes "refused ") 8 c.put_word-at.new.out c.put_word-at.result =
    begun_more _ _ _ _ _ (begun_none out (omega arith)) _ _ _ 8 c.put_word-at.ensures.written c.put_word-at.ensures.next (omega arith) (omega arith) in
    let short = number_length n (omega (arith, reason_small c.args.reason)) in
    let second : Begun out (bytes "refused " ++ number) 12 c.put_number-at.new.out c.put_number-at.result =
    begun_more _ _ _ _ _ first _ _ _ 4 c.put_number-at.ensures.written c.put_number-at.ensures.next short (omega arith) in
    let third = begun_more _ _ _ _ _ second line_feed _ _ 1 c.put_word.ensures.written c.put_word.ensures.next (omega arith) (omega arith) in
    let a = begun_answered _ _ _ _ _ third (omega arith) _ (refusal_grouped n ∙ ap refusal_text c.from.ensures) in
    record { written = a.0; next = a.1.0; counted = a.1.1 }
