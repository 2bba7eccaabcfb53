-- What proofs/ shows of the answer that the code gives.
use Rattle.std.specs.Prelude.{◌≡◌, Result}
use Rattle.cells.specs.Reasons.{answer_of}
use Rattle.cells.specs.declared.Reason.{Reason}
use Rattle.rule.specs.declared.Truth.{Truth}

-- what the answer of JUDGE stands for tells its cases apart
abbrev pub JudgedClaim : Type 0
JudgedClaim = (x y : Result Truth Reason) → answer_of x ≡ answer_of y → x ≡ y
