-- What one turn of the loop makes of the operands read so far.
use Rattle.grammar.proofs.Chain.{begins, turns, ends, goes_on}
use Rattle.grammar.proofs.+reading.Goals as goal

pub read_joined-loop-step-init : goal.read_joined-loop-step-init
read_joined-loop-step-init t c = begins _ _ _ c.requires

pub read_joined-returns-then-not-is_word : goal.read_joined-returns-then-not-is_word
read_joined-returns-then-not-is_word t c =
    ends _ _ _ (turns _ _ _ c.loop-step.invariant c.in_ok-step.ensures c.note_join-n.ensures.count c.note_join-n.ensures.noted c.max-d.ensures)
    c.join_word.ensures (c.is_word.ensures.absent c.if-not-is_word.true)

pub read_joined-loop-step-preserved : goal.read_joined-loop-step-preserved
read_joined-loop-step-preserved t c =
    goes_on _ _ _ (turns _ _ _ c.loop-step.invariant c.in_ok-step.ensures c.note_join-n.ensures.count c.note_join-n.ensures.noted c.max-d.ensures)
    c.join_word.ensures (c.is_word.ensures.there c.if-not-is_word.false)
