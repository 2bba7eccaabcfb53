use Rattle.std.proofs.Common.{◌≡◌, ℕ, ◌≤◌, ◌<◌, ◌*◌, true}
use Rattle.tables.specs.Tables.{size_at, cells_before, size_fits}
use Rattle.cells.proofs.sizes_fit.Given as goal

abbrev pub invariant-loop-j : goal.invariant-loop-j
invariant-loop-j l = record {
  each : (k : ℕ) → k < l.j → size_fits (size_at l.file k) ≡ true;
  so_far : l.cells ≡ cells_before l.file l.j;
  few : l.cells ≤ 16777216 * l.j;
}
