-- What the answer of JUDGE stands for tells its cases.
use Rattle.cells.proofs.Told.{reasons_claim}
use Rattle.judge.specs.Claims.{JudgedClaim}

pub judged_claim : JudgedClaim
judged_claim = reasons_claim.answers
