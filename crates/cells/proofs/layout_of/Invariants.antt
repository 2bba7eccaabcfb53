use Rattle.std.proofs.Common.{◌≡◌, ℕ, suc, ◌+◌, ◌<◌, length, get_or}
use Rattle.tables.specs.Tables.{most_tables, cells_before}
use Rattle.cells.specs.Code.{extent_of, no_extent}
use Rattle.cells.proofs.layout_of.Given as goal

abbrev pub invariant-loop-j : goal.invariant-loop-j
invariant-loop-j l = record {
  long : length l.tables ≡ 1 + most_tables;
  each : (k : ℕ) → k < l.j → get_or l.tables (suc k) no_extent ≡ extent_of l.file k;
  so_far : l.first ≡ cells_before l.file l.j;
}
