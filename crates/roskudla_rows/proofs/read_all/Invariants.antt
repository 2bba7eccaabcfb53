-- `roskudla_rows::read_all` is safe and ends, and its count lies within the buffer: each turn but the last reads at least a byte.
use Rattle.std.proofs.Common.{length, ◌-◌, ◌≤◌}
use Rattle.roskudla_rows.proofs.read_all.Given as goal

-- the first n bytes are read
abbrev pub invariant-loop-n : goal.invariant-loop-n
invariant-loop-n l = l.n ≤ length l.buf

abbrev pub decreases-loop-n : goal.decreases-loop-n
decreases-loop-n l = length l.initial.buf - l.n
