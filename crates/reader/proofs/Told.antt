-- What the answer of READ stands for tells its cases.
use Rattle.cells.proofs.Told.{reasons_claim}
use Rattle.reader.specs.Claims.{ReadClaim}

pub read_claim : ReadClaim
read_claim = reasons_claim.answers
