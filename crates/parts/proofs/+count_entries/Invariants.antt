-- The loop's invariant: of the rule that the parts are of, so many entries are counted before part `at`, at most 385 for each part; the parts to count grow fewer.
use Prim.Native.Nat.{◌+◌, ◌*◌, ◌-◌, ◌≤◌}
use Rattle.tables.specs.Values.{most_entries}
use Rattle.parts.specs.Code.{Countable}
use Rattle.parts.proofs.Counting.{Counted}
use Rattle.parts.proofs.+count_entries.Given as goal

abbrev pub invariant-loop-at : goal.invariant-loop-at
invariant-loop-at l = (l.s ≤ l.at) × (l.at ≤ l.n) × (l.entries ≤ (1 + 2 * most_entries) * l.at) × ((h : Countable l.p l.s l.n) → Counted l.p l.n h.rule l.at l.entries)

abbrev pub decreases-loop-at : goal.decreases-loop-at
decreases-loop-at l = l.n - l.at

abbrev pub decreases-count_entries : goal.decreases-count_entries
decreases-count_entries l = l.n - l.s
