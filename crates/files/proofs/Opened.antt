-- `unfolding opened` opens every definition of specs/ that computes, for a fact that is closed by computing it.
use mathlib.Core.List.{flat_map}
use Rattle.tables.proofs.Opened.{opened as tables-opened}
use Rattle.files.specs.Files.{sizes_part, file_bytes, cells_asked, raw_cells, rows_cut, tables_cut}

unfoldable pub opened : Unit {0}
unfolding tables-opened flat_map sizes_part file_bytes cells_asked raw_cells rows_cut tables_cut
opened = tt
