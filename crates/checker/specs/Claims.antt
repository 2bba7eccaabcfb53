-- What proofs/ shows of these definitions.
use Rattle.std.specs.Prelude.{◌≡◌, Result}
use Rattle.cells.specs.Reasons.{answer_of}
use Rattle.cells.specs.declared.Reason.{Reason}

-- what the result of CHECK stands for tells its case
abbrev pub CheckedClaim : Type 0
CheckedClaim = (x y : Result (Unit {0}) Reason) → answer_of x ≡ answer_of y → x ≡ y
