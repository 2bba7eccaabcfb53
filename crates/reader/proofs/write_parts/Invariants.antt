-- The first n parts are written to the start of the list: after i turns its first i elements are the parts, and past them it is as it was.
use Rattle.std.proofs.Common.{◌≡◌}
use Rattle.reader.proofs.Storing.{stored_list}
use Rattle.reader.proofs.write_parts.Given as goal

abbrev pub invariant-loop-i : goal.invariant-loop-i
invariant-loop-i l = l.list ≡ stored_list l.parts l.fn.list l.i
