-- The admitted rows: CARD refuses only what reading refuses, and LIST with the rule's card gives the rows where the rule is true.
use Rattle.std.proofs.Common.{refl, sym, ap, ◌∙◌}
use lib.Seq.{length-take-le}
use Rattle.tables.specs.Refusals.{Lent}
use Rattle.admission.proofs.Admitted.{card_within, lists_rows}
use Rattle.admission.proofs.admit.Goals as goal

pub slice_bounds-card-end : goal.slice_bounds-card-end
slice_bounds-card-end c =
    card_within _ _ _ refl c.make_card.result c.make_card.ensures.answer _ c.in_ok-length.was _ c.make_card.ensures.written

pub slice_bounds-list-end : goal.slice_bounds-list-end
slice_bounds-list-end c =
    sym (length-take-le _ _ (card_within _ _ _ refl c.make_card.result c.make_card.ensures.answer _ c.in_ok-length.was _ c.make_card.ensures.written))

pub returns : goal.returns
returns c =
    let rows = lists_rows _ _ _ refl c.make_card.result c.make_card.ensures.answer _ c.in_ok-length.was _ c.make_card.ensures.written _ in
    record { answer = c.list.ensures.answer ∙ ap (λ (l : Lent _). l.result) rows; written = c.list.ensures.written ∙ ap (λ (l : Lent _). l.buffer) rows }
