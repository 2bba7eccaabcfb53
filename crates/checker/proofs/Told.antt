-- What the result of CHECK stands for tells its case.
use Rattle.cells.proofs.Told.{reasons_claim}
use Rattle.checker.specs.Claims.{CheckedClaim}

pub checked_claim : CheckedClaim
checked_claim x y e = reasons_claim.answers x y e
