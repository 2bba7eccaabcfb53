-- Each part is written as the card of the rule that stands there: by what the part says, and by its inner parts.
use Rattle.std.proofs.Common.{refl, ap, ◌∙◌, arith}
use Rattle.translation.proofs.Demand3.{some_entries}
use Rattle.parts.proofs.Parts.{is_test, is_join, is_unary, is_exists, is_listed}
use Rattle.entries.specs.Code.{card_as, unary_as, truth_as}
use Rattle.entries.proofs.Cards.{card_atom, card_not, card_is, card_is_not, card_exists}
use Rattle.entries.proofs.Spread.{put_row, put_pair, leaf_room, room_less, put_asked, row_room, row_end, row_wrote, left_room, right_room, pair_end, pair_wrote}
use Rattle.entries.proofs.Writing.{part_few, unary_at, exists_at, join_ready, join_wrote, list_ready, list_wrote, join_end, join_pair, join_pair_wrote, wrote_as, as_ready, as_wrote, pair_ready, as_pair_wrote}
use Rattle.entries.proofs.+writing.Goals as goal

pub write_exists-put_entry-requires : goal.write_exists-put_entry-requires
write_exists-put_entry-requires t c =
    let p = put_asked c.requires.room (some_entries _) in
    record { few = p.0; end_small = omega arith; room = p.1 }

pub write_exists-write_part-end-requires : goal.write_exists-write_part-end-requires
write_exists-write_part-end-requires t c =
    let put = put_row c.negated-quantifier.ensures c.put_entry.ensures.kinds c.put_entry.ensures.records in
    (omega arith, record { at = c.requires.at; room = row_room _ _ _ c.requires.room put })

pub write_exists-put16-requires : goal.write_exists-put16-requires
write_exists-put16-requires t c =
    let put = put_row c.negated-quantifier.ensures c.put_entry.ensures.kinds c.put_entry.ensures.records in
    let wrote = c.write_part-end.ensures (record { at = c.requires.at; room = row_room _ _ _ c.requires.room put }) in
    let p = row_end _ _ _ c.requires.room put wrote in
    record { fact_1 = p.0; fact_2 = p.1 }

pub write_exists-returns : goal.write_exists-returns
write_exists-returns t c = λ h.
    let put = put_row c.negated-quantifier.ensures c.put_entry.ensures.kinds c.put_entry.ensures.records in
    let wrote = c.write_part-end.ensures (record { at = h.at; room = row_room _ _ _ h.room put }) in
    let few = h.room.kinds_fit in
    row_wrote _ _ _ h.room put wrote (omega arith) c.put16.ensures

pub write_pair-put_entry-requires : goal.write_pair-put_entry-requires
write_pair-put_entry-requires t c =
    let p = put_asked c.requires.room (some_entries _) in
    record { few = p.0; end_small = omega arith; room = p.1 }

pub write_pair-write_part-middle-requires : goal.write_pair-write_part-middle-requires
write_pair-write_part-middle-requires t c =
    let put = put_pair refl c.put_entry.ensures.kinds c.put_entry.ensures.records in
    (omega arith, record { at = c.requires.left_at; room = left_room _ _ _ c.requires.room put refl })

pub write_pair-write_part-end-requires : goal.write_pair-write_part-end-requires
write_pair-write_part-end-requires t c =
    let put = put_pair refl c.put_entry.ensures.kinds c.put_entry.ensures.records in
    let left = c.write_part-middle.ensures (record { at = c.requires.left_at; room = left_room _ _ _ c.requires.room put refl }) in
    (omega (arith, c.requires.order), record { at = c.requires.right_at; room = right_room _ _ _ c.requires.room put refl left })

pub write_pair-put16-requires : goal.write_pair-put16-requires
write_pair-put16-requires t c =
    let put = put_pair refl c.put_entry.ensures.kinds c.put_entry.ensures.records in
    let left = c.write_part-middle.ensures (record { at = c.requires.left_at; room = left_room _ _ _ c.requires.room put refl }) in
    let right = c.write_part-end.ensures (record { at = c.requires.right_at; room = right_room _ _ _ c.requires.room put refl left }) in
    let p = pair_end _ _ _ c.requires.room put refl left right in
    record { fact_1 = p.0; fact_2 = p.1 }

pub write_pair-returns : goal.write_pair-returns
write_pair-returns t c = λ h.
    let put = put_pair refl c.put_entry.ensures.kinds c.put_entry.ensures.records in
    let left = c.write_part-middle.ensures (record { at = h.left_at; room = left_room _ _ _ h.room put refl }) in
    let right = c.write_part-end.ensures (record { at = h.right_at; room = right_room _ _ _ h.room put refl left }) in
    let few = h.room.kinds_fit in
    pair_wrote _ _ _ h.room put refl left right (omega arith) c.put16.ensures

pub write_list-put_entry-requires : goal.write_list-put_entry-requires
write_list-put_entry-requires t c =
    let p = put_asked c.requires.room (some_entries _) in
    record { few = p.0; end_small = omega arith; room = p.1 }

pub write_list-put_entry-requires-2 : goal.write_list-put_entry-requires-2
write_list-put_entry-requires-2 t c =
    let row = put_row refl c.put_entry.ensures.kinds c.put_entry.ensures.records in
    let p = put_asked (row_room _ _ _ c.requires.room row) (some_entries _) in
    record { few = p.0; end_small = omega arith; room = p.1 }

pub write_list-write_part-last-requires : goal.write_list-write_part-last-requires
write_list-write_part-last-requires t c =
    let row = put_row refl c.put_entry.ensures.kinds c.put_entry.ensures.records in
    let pair = put_pair (rw c.asks_every-every.ensures at c.negated-connective.ensures) c.put_entry-2.ensures.kinds c.put_entry-2.ensures.records in
    let room = row_room _ _ _ c.requires.room row in
    (omega arith, rw c.asks_every-every.ensures (record { at = c.requires.at; room = left_room _ _ _ room pair (omega arith) }))

pub write_list-write_leaf-end-requires : goal.write_list-write_leaf-end-requires
write_list-write_leaf-end-requires t c =
    let row = put_row refl c.put_entry.ensures.kinds c.put_entry.ensures.records in
    let pair = put_pair (rw c.asks_every-every.ensures at c.negated-connective.ensures) c.put_entry-2.ensures.kinds c.put_entry-2.ensures.records in
    let room = row_room _ _ _ c.requires.room row in
    let left = (rw c.asks_every-every.ensures at c.write_part-last.ensures) (record { at = c.requires.at; room = left_room _ _ _ room pair (omega arith) }) in
    leaf_room c.args.leaf (right_room _ _ _ room pair (omega arith) left)

pub write_list-put16-requires : goal.write_list-put16-requires
write_list-put16-requires t c =
    let row = put_row refl c.put_entry.ensures.kinds c.put_entry.ensures.records in
    let pair = put_pair (rw c.asks_every-every.ensures at c.negated-connective.ensures) c.put_entry-2.ensures.kinds c.put_entry-2.ensures.records in
    let room = row_room _ _ _ c.requires.room row in
    let left = (rw c.asks_every-every.ensures at c.write_part-last.ensures) (record { at = c.requires.at; room = left_room _ _ _ room pair (omega arith) }) in
    let p = pair_end _ _ _ room pair (omega arith) left c.write_leaf-end.ensures in
    record { fact_1 = p.0; fact_2 = p.1 }

pub write_list-put16-requires-2 : goal.write_list-put16-requires-2
write_list-put16-requires-2 t c =
    let row = put_row refl c.put_entry.ensures.kinds c.put_entry.ensures.records in
    let pair = put_pair (rw c.asks_every-every.ensures at c.negated-connective.ensures) c.put_entry-2.ensures.kinds c.put_entry-2.ensures.records in
    let room = row_room _ _ _ c.requires.room row in
    let left = (rw c.asks_every-every.ensures at c.write_part-last.ensures) (record { at = c.requires.at; room = left_room _ _ _ room pair (omega arith) }) in
    let few = c.requires.room.kinds_fit in
    let both = pair_wrote _ _ _ room pair (omega arith) left c.write_leaf-end.ensures (omega (arith, room.kinds_fit)) c.put16.ensures in
    let p = row_end _ _ _ c.requires.room row both in
    record { fact_1 = p.0; fact_2 = p.1 }

pub write_list-returns : goal.write_list-returns
write_list-returns t c = λ h.
    let row = put_row refl c.put_entry.ensures.kinds c.put_entry.ensures.records in
    let pair = put_pair (rw c.asks_every-every.ensures at c.negated-connective.ensures) c.put_entry-2.ensures.kinds c.put_entry-2.ensures.records in
    let room = row_room _ _ _ h.room row in
    let left = (rw c.asks_every-every.ensures at c.write_part-last.ensures) (record { at = h.at; room = left_room _ _ _ room pair (omega arith) }) in
    let few = h.room.kinds_fit in
    let both = pair_wrote _ _ _ room pair (omega arith) left c.write_leaf-end.ensures (omega (arith, room.kinds_fit)) c.put16.ensures in
    row_wrote _ _ _ h.room row both (omega arith) c.put16-2.ensures

pub write_part-bounds : goal.write_part-bounds
write_part-bounds t c = part_few c.requires.at

pub write_part-bounds-parts-s : goal.write_part-bounds-parts-s
write_part-bounds-parts-s t c = part_few c.requires.at

pub write_part-write_leaf-requires : goal.write_part-write_leaf-requires
write_part-write_leaf-requires t c = room_less c.requires.room 1 (some_entries _)

pub write_part-returns-in-AtomHead : goal.write_part-returns-in-AtomHead
write_part-returns-in-AtomHead t c = λ h.
    let x = is_test _ _ h.at.rule h.at.stands _ _ c.in-AtomHead.is in
    wrote_as h (ap (card_as c.args.negate c.args.interpretation) x.is ∙ card_atom c.args.negate c.args.interpretation _)
    (rw (c.negated-leaf.ensures, c.leaf_of.ensures) at c.write_leaf.ensures)

pub write_part-write_join-requires : goal.write_part-write_join-requires
write_part-write_join-requires t c =
    let h = c.requires in
    let x = is_join _ _ h.at.rule h.at.stands _ _ c.in-JoinHead.is in
    rw c.part_under-inner.ensures (omega (arith, part_few h.at), join_ready c.args.negate c.args.interpretation h x)

pub write_part-returns-in-JoinHead : goal.write_part-returns-in-JoinHead
write_part-returns-in-JoinHead t c = λ h.
    let x = is_join _ _ h.at.rule h.at.stands _ _ c.in-JoinHead.is in
    join_wrote c.args.negate c.args.interpretation h x (rw c.part_under-inner.ensures at c.write_join.ensures)

pub write_part-write_unary-requires : goal.write_part-write_unary-requires
write_part-write_unary-requires t c =
    let h = c.requires in
    let x = is_unary _ _ h.at.rule h.at.stands _ _ c.in-UnaryHead.is in
    rw c.part_under-inner.ensures (omega (arith, part_few h.at), as_ready h (unary_at h.at x) (ap (card_as c.args.negate c.args.interpretation) x.is))

pub write_part-returns-in-UnaryHead : goal.write_part-returns-in-UnaryHead
write_part-returns-in-UnaryHead t c = λ h.
    let x = is_unary _ _ h.at.rule h.at.stands _ _ c.in-UnaryHead.is in
    as_wrote h (unary_at h.at x) (ap (card_as c.args.negate c.args.interpretation) x.is) (rw c.part_under-inner.ensures at c.write_unary.ensures)

pub write_join-bounds-parts-left : goal.write_join-bounds-parts-left
write_join-bounds-parts-left t c = part_few c.requires.left_at

pub write_join-write_pair-requires : goal.write_join-write_pair-requires
write_join-write_pair-requires t c =
    (omega arith, rw c.negated-connective.ensures (join_pair c.requires (join_end c.requires _)))

pub write_join-returns : goal.write_join-returns
write_join-returns t c = λ h.
    join_pair_wrote h (join_end h _) (rw c.negated-connective.ensures at c.write_pair.ensures)

pub write_unary-write_part-requires : goal.write_unary-write_part-requires
write_unary-write_part-requires t c =
    let h = c.requires in
    let u = rw c.other.ensures at c.under_nots-u.ensures in
    let y = u.same h.at in
    let e = ap (λ u. unary_as u c.args.inner.negate c.args.inner.interpretation h.at.rule) c.in-Not.is in
    (omega (arith, u.behind), as_ready h y.at (e ∙ card_not c.args.inner.negate c.args.inner.interpretation h.at.rule ∙ y.card_is))

pub write_unary-returns-in-Not : goal.write_unary-returns-in-Not
write_unary-returns-in-Not t c = λ h.
    let u = rw c.other.ensures at c.under_nots-u.ensures in
    let y = u.same h.at in
    let e = ap (λ u. unary_as u c.args.inner.negate c.args.inner.interpretation h.at.rule) c.in-Not.is in
    as_wrote h y.at (e ∙ card_not c.args.inner.negate c.args.inner.interpretation h.at.rule ∙ y.card_is) c.write_part.ensures

pub write_unary-write_truth-requires : goal.write_unary-write_truth-requires
write_unary-write_truth-requires t c =
    let h = c.requires in
    let e = ap (λ u. unary_as u c.args.inner.negate c.args.inner.interpretation h.at.rule) c.in-Is.is in
    (omega arith, as_ready h h.at (e ∙ card_is c.args.inner.negate c.args.inner.interpretation _ h.at.rule))

pub write_unary-returns-in-Is : goal.write_unary-returns-in-Is
write_unary-returns-in-Is t c = λ h.
    let e = ap (λ u. unary_as u c.args.inner.negate c.args.inner.interpretation h.at.rule) c.in-Is.is in
    as_wrote h h.at (e ∙ card_is c.args.inner.negate c.args.inner.interpretation _ h.at.rule) c.write_truth.ensures

pub write_unary-write_truth-requires-in-IsNot : goal.write_unary-write_truth-requires-in-IsNot
write_unary-write_truth-requires-in-IsNot t c =
    let h = c.requires in
    let e = ap (λ u. unary_as u c.args.inner.negate c.args.inner.interpretation h.at.rule) c.in-IsNot.is in
    (omega arith, as_ready h h.at (e ∙ card_is_not c.args.inner.negate c.args.inner.interpretation _ h.at.rule))

pub write_unary-returns-in-IsNot : goal.write_unary-returns-in-IsNot
write_unary-returns-in-IsNot t c = λ h.
    let e = ap (λ u. unary_as u c.args.inner.negate c.args.inner.interpretation h.at.rule) c.in-IsNot.is in
    as_wrote h h.at (e ∙ card_is_not c.args.inner.negate c.args.inner.interpretation _ h.at.rule) c.write_truth-in-IsNot.ensures

pub write_part-write_exists-requires : goal.write_part-write_exists-requires
write_part-write_exists-requires t c =
    let h = c.requires in
    let x = is_exists _ _ h.at.rule h.at.stands _ _ c.in-ExistsHead.is in (
      omega (arith, part_few h.at),
      rw c.table_of.ensures (as_ready h (exists_at h.at x) (ap (card_as c.args.negate c.args.interpretation) x.is ∙ card_exists c.args.negate c.args.interpretation _ x.inner)),
    )

pub write_part-returns-in-ExistsHead : goal.write_part-returns-in-ExistsHead
write_part-returns-in-ExistsHead t c = λ h.
    let x = is_exists _ _ h.at.rule h.at.stands _ _ c.in-ExistsHead.is in
    as_wrote h (exists_at h.at x) (ap (card_as c.args.negate c.args.interpretation) x.is ∙ card_exists c.args.negate c.args.interpretation _ x.inner)
    (rw c.table_of.ensures at c.write_exists.ensures)

pub write_part-write_list-requires : goal.write_part-write_list-requires
write_part-write_list-requires t c =
    let h = c.requires in
    let x = is_listed _ _ h.at.rule h.at.stands _ _ _ _ _ _ c.in-ListedHead.is in
    rw (c.negated-quantifier.ensures, c.table_of-table.ensures, c.list_leaf-leaf.ensures) (omega (arith, part_few h.at), list_ready c.args.negate c.args.interpretation h x)

pub write_part-returns-in-ListedHead : goal.write_part-returns-in-ListedHead
write_part-returns-in-ListedHead t c = λ h.
    let x = is_listed _ _ h.at.rule h.at.stands _ _ _ _ _ _ c.in-ListedHead.is in
    list_wrote c.args.negate c.args.interpretation h x
    (rw (c.negated-quantifier.ensures, c.table_of-table.ensures, c.list_leaf-leaf.ensures) at c.write_list.ensures)

pub write_truth-write_part-requires : goal.write_truth-write_part-requires
write_truth-write_part-requires t c =
    let h = c.requires in
    (omega arith, as_ready h h.at (ap (λ y. truth_as y c.args.negate h.at.rule) c.in-True.is))

pub write_truth-returns-in-True : goal.write_truth-returns-in-True
write_truth-returns-in-True t c = λ h. as_wrote h h.at (ap (λ y. truth_as y c.args.negate h.at.rule) c.in-True.is) c.write_part.ensures

pub write_truth-write_part-requires-in-False : goal.write_truth-write_part-requires-in-False
write_truth-write_part-requires-in-False t c =
    let h = c.requires in
    (omega arith, as_ready h h.at (ap (λ y. truth_as y c.args.negate h.at.rule) c.in-False.is))

pub write_truth-returns-in-False : goal.write_truth-returns-in-False
write_truth-returns-in-False t c = λ h. as_wrote h h.at (ap (λ y. truth_as y c.args.negate h.at.rule) c.in-False.is) c.write_part-in-False.ensures

pub write_truth-write_pair-requires : goal.write_truth-write_pair-requires
write_truth-write_pair-requires t c =
    let h = c.requires in
    rw (c.negated-connective.ensures, c.part_under-not_true.ensures, c.part_under-not_false.ensures)
    (omega arith, pair_ready h h.at h.at (omega arith) (ap (λ y. truth_as y c.args.negate h.at.rule) c.in-Unknown.is))

pub write_truth-returns-in-Unknown : goal.write_truth-returns-in-Unknown
write_truth-returns-in-Unknown t c = λ h.
    as_pair_wrote h h.at h.at (omega arith) (ap (λ y. truth_as y c.args.negate h.at.rule) c.in-Unknown.is) (rw (c.negated-connective.ensures, c.part_under-not_true.ensures, c.part_under-not_false.ensures) at c.write_pair.ensures)
