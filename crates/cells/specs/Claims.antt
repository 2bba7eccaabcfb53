-- What proofs/ shows of these definitions.
use Rattle.std.specs.Prelude.{◌≡◌, Result}
use Rattle.cells.specs.Reasons.{reason_number, answer_of}
use Rattle.cells.specs.declared.Reason.{Reason}

-- what an answer stands for tells its case: no two reasons have one number, and no two answers stand for the same
pub record ReasonsClaim : Type 1 where
  pub reasons : (x y : Reason) → reason_number x ≡ reason_number y → x ≡ y
  pub answers : {A : Type 0} (x y : Result A Reason) → answer_of x ≡ answer_of y → x ≡ y
