-- The loop's invariant is the contract, of the part that is reached.
use Rattle.std.proofs.Common.{◌≡◌}
use Rattle.entries.specs.Code.{StandsUnder}
use Rattle.entries.proofs.under_nots.Given as goal

abbrev pub invariant-loop-part : goal.invariant-loop-part
invariant-loop-part l = StandsUnder l.parts l.s l.negate l.fn.interpretation l.under × (l.under.part ≡ l.part)
