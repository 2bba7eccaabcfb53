-- What proofs/ shows of these definitions.
use Rattle.std.specs.Prelude.{◌≡◌, Bool, ℕ, Result}
use Rattle.cells.specs.Reasons.{answer_of}
use Rattle.cells.specs.declared.Reason.{Reason}

-- what the answers of RUN and LIST stand for tells their cases
pub record AnswersClaim : Type 0 where
  pub ran : (x y : Result Bool Reason) → answer_of x ≡ answer_of y → x ≡ y
  pub listed : (x y : Result ℕ Reason) → answer_of x ≡ answer_of y → x ≡ y
