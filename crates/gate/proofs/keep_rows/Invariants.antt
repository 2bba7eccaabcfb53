use Rattle.card.specs.Calls.{says_yes}
use Rattle.gate.proofs.Listing.{Kept}
use Rattle.gate.proofs.keep_rows.Given as goal

abbrev pub invariant-loop-row : goal.invariant-loop-row
invariant-loop-row l = Kept (says_yes l.card l.run.file.now) l.kept l.k l.row
