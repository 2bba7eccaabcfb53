-- No IS, an IS that begins no truth test, or a truth test, which is noted.
use Rattle.grammar.proofs.Tests.{untested_reads, tested_not, tested_reads}
use Rattle.grammar.proofs.note_truth_test.Goals as goal

pub returns-then-not-is_word : goal.returns-then-not-is_word
returns-then-not-is_word c = untested_reads c.args.out.now c.args.step (c.is_word.ensures.absent c.if-not-is_word.true)

pub returns-in_err-truth : goal.returns-in_err-truth
returns-in_err-truth c =
    rw c.from_residual.ensures (tested_not c.args.out.now c.args.step (c.is_word.ensures.there c.if-not-is_word.false) c.args.out.now c.in_err-truth.ensures)

pub returns : goal.returns
returns c = tested_reads c.args.out.now c.args.step (c.is_word.ensures.there c.if-not-is_word.false) c.in_ok-truth.ensures c.note_part.ensures
