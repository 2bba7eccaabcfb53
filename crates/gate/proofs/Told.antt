-- What the answers of RUN and LIST stand for tells their cases.
use Rattle.cells.proofs.Told.{reasons_claim}
use Rattle.gate.specs.Claims.{AnswersClaim}

pub answers_claim : AnswersClaim
answers_claim = record { ran = λ x y. reasons_claim.answers x y; listed = λ x y. reasons_claim.answers x y }
