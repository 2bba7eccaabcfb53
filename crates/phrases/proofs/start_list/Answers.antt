-- No FROM follows the selected value.
use Rattle.phrases.proofs.Begun.{no_source}
use Rattle.phrases.proofs.start_list.Goals as goal

pub returns-in_err-from : goal.returns-in_err-from
returns-in_err-from c =
    let a = c.args in
    rw c.from_residual-in_err-from.ensures
    (no_source a.s.now a.at a.quantifier a.comparison a.left (c.is_word.ensures.there c.if-not-is_word.false)
    (c.is_word-else-not-is_word.ensures.there c.if-not-is_word-2.false) _ _ c.in_ok-selected.ensures c.in_err-from.ensures)
