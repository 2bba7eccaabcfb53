use Rattle.std.proofs.Common.{refl, arith}
use Rattle.decoder.proofs.with_room.Goals as goal

pub returns-then-card-le-SHORT_CARD : goal.returns-then-card-le-SHORT_CARD
returns-then-card-le-SHORT_CARD g c = (_, _, λ laid. omega (arith, laid.long), record { shown = _; shows = refl; left = _; called = c.f.ensures; leaves = refl })

pub returns-then-card-le-MIDDLE_CARD : goal.returns-then-card-le-MIDDLE_CARD
returns-then-card-le-MIDDLE_CARD g c =
    (_, _, λ laid. omega (arith, laid.long), record { shown = _; shows = refl; left = _; called = c.f-then-card-le-MIDDLE_CARD.ensures; leaves = refl })

pub returns : goal.returns
returns g c = (_, _, λ laid. omega (arith, laid.entries_high), record { shown = _; shows = refl; left = _; called = c.f-2.ensures; leaves = refl })
