-- A part's inner conditions have fewer notes: the measure is twice the notes looked at.
use Prim.Native.Nat.{◌+◌, ◌*◌}
use Rattle.names.proofs.+placing.Given as goal

abbrev pub decreases-place : goal.decreases-place
decreases-place l = 2 * l.h

abbrev pub decreases-place_inner : goal.decreases-place_inner
decreases-place_inner l = 2 * l.h + 1
