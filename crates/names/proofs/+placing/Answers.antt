use Rattle.std.proofs.Common.{arith}
use Rattle.names.proofs.Placing.{has_notes, letters_fit, head_missing, inner_run, inner_missing, inner_room, placed, join_count, one_count, one_run, one_result, right_run, right_missing, right_room, left_run, left_result}
use Rattle.names.proofs.+placing.Goals as goal

-- ---- place

pub place-overflow_sub-h : goal.place-overflow_sub-h
place-overflow_sub-h t c = (has_notes c.requires).0

pub place-bounds-notes-h : goal.place-bounds-notes-h
place-bounds-notes-h t c = omega (arith, has_notes c.requires, c.requires.notes_room)

pub place-name_note-requires-clause-fact_3 : goal.place-name_note-requires-clause-fact_3
place-name_note-requires-clause-fact_3 t c = letters_fit c.requires _

pub place-returns-in_err-head : goal.place-returns-in_err-head
place-returns-in_err-head t c = rw c.from_residual.ensures (λ q. head_missing q _ c.in_err-head.ensures.is)

pub place-overflow_sub-h-2 : goal.place-overflow_sub-h-2
place-overflow_sub-h-2 t c = (has_notes c.requires).0

pub place-place_inner-requires : goal.place-place_inner-requires
place-place_inner-requires t c =
    let z = has_notes c.requires in
    (omega arith, inner_run c.requires _ _ c.in_ok-head.ensures.is c.in_ok-head.ensures.fits)

pub place-returns-in_err-at : goal.place-returns-in_err-at
place-returns-in_err-at t c =
    rw c.from_residual-in_err-at.ensures
    (λ q. inner_missing q _ _ c.in_ok-head.ensures.is c.in_ok-head.ensures.fits (c.in_err-at.ensures (inner_run q _ _ c.in_ok-head.ensures.is c.in_ok-head.ensures.fits)))

pub place-overflow_sub-at : goal.place-overflow_sub-at
place-overflow_sub-at t c =
    let run = inner_run c.requires _ _ c.in_ok-head.ensures.is c.in_ok-head.ensures.fits in
    (inner_room c.requires _ _ c.in_ok-head.ensures.is c.in_ok-head.ensures.fits (c.in_ok-at.ensures run)).0

pub place-put_part-requires : goal.place-put_part-requires
place-put_part-requires t c =
    let run = inner_run c.requires _ _ c.in_ok-head.ensures.is c.in_ok-head.ensures.fits in
    let few = c.requires.few_parts in
    omega (arith, inner_room c.requires _ _ c.in_ok-head.ensures.is c.in_ok-head.ensures.fits (c.in_ok-at.ensures run))

pub place-returns : goal.place-returns
place-returns t c =
    λ q.
    let run = inner_run q _ _ c.in_ok-head.ensures.is c.in_ok-head.ensures.fits in
    rw c.put_part.ensures (placed q _ _ c.in_ok-head.ensures.is c.in_ok-head.ensures.fits (c.in_ok-at.ensures run) c.place_inner.array_long)

-- ---- place_inner

pub place_inner-place-requires : goal.place_inner-place-requires
place_inner-place-requires t c = (omega arith, right_run c.requires (join_count c.in-JoinHead.is))

pub place_inner-returns-in_err-right-in-JoinHead : goal.place_inner-returns-in_err-right-in-JoinHead
place_inner-returns-in_err-right-in-JoinHead t c =
    rw c.from_residual.ensures (λ q. right_missing q (join_count c.in-JoinHead.is) (c.in_err-right-in-JoinHead.ensures (right_run q (join_count c.in-JoinHead.is))))

pub place_inner-overflow_sub-e : goal.place_inner-overflow_sub-e
place_inner-overflow_sub-e t c =
    let k = join_count c.in-JoinHead.is in
    (right_room c.requires k (c.in_ok-right-in-JoinHead.ensures (right_run c.requires k))).0

pub place_inner-overflow_sub-h : goal.place_inner-overflow_sub-h
place_inner-overflow_sub-h t c =
    let k = join_count c.in-JoinHead.is in
    (right_room c.requires k (c.in_ok-right-in-JoinHead.ensures (right_run c.requires k))).1

pub place_inner-place-requires-in-JoinHead : goal.place_inner-place-requires-in-JoinHead
place_inner-place-requires-in-JoinHead t c =
    let k = join_count c.in-JoinHead.is in
    (omega arith, left_run c.requires k (c.in_ok-right-in-JoinHead.ensures (right_run c.requires k)))

pub place_inner-returns-in_ok-right-in-JoinHead : goal.place_inner-returns-in_ok-right-in-JoinHead
place_inner-returns-in_ok-right-in-JoinHead t c =
    λ q.
    let k = join_count c.in-JoinHead.is in
    let right = c.in_ok-right-in-JoinHead.ensures (right_run q k) in
    left_result q k right _ _ (c.place-in-JoinHead.ensures (left_run q k right))

pub place_inner-place-requires-in-UnaryHead : goal.place_inner-place-requires-in-UnaryHead
place_inner-place-requires-in-UnaryHead t c = (omega arith, one_run c.requires (one_count c.in-UnaryHead.is))

pub place_inner-returns-in-UnaryHead : goal.place_inner-returns-in-UnaryHead
place_inner-returns-in-UnaryHead t c =
    λ q. one_result q (one_count c.in-UnaryHead.is) _ _ _ (c.place-in-UnaryHead.ensures (one_run q (one_count c.in-UnaryHead.is)))
