-- The first i entries stand in d.
use Rattle.std.proofs.Common.{ℕ, ◌<◌, get_or}
use Rattle.card.specs.Layout.{kind_at, record_at}
use Rattle.decoder.specs.Code.{no_entry, EntryOf}
use Rattle.decoder.proofs.decode.Given as goal

abbrev pub invariant-loop-i : goal.invariant-loop-i
invariant-loop-i l = (k : ℕ) → k < l.i → EntryOf (kind_at l.card k) (record_at l.card k) (get_or l.d k no_entry)
