-- The order in which the refusals of IMPORT and EXPORT are tried.
use mathlib.Core.Path.{refl}
use Rattle.tables.proofs.Rising.{rising}
use Rattle.lines.specs.Calls.{export_order}
use Rattle.lines.specs.Claims.{LinesOrderClaim}
use Rattle.lines.proofs.Opened.{opened}

pub lines_order_claim : LinesOrderClaim
unfolding opened
lines_order_claim = record { importing = λ text buffer columns. refl; exporting = λ file buffer. refl; rises = rising export_order tt }
