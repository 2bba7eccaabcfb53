-- `unfolding opened` opens every definition of specs/ that computes, for a fact that is closed by computing it.
use Rattle.tables.specs.Tables.{sizes, columns_of, row_count, cells_before, cell_count, sizes_fit, marks_fit, cell_at, table_from, tables_of, same_columns, rows_where}
use Rattle.tables.specs.Refusals.{first_applying, unless, lend, tables_refusals, tables_call, row_refusal}

unfoldable pub opened : Unit {0}
unfolding sizes columns_of row_count cells_before cell_count sizes_fit marks_fit cell_at table_from tables_of same_columns rows_where first_applying unless lend tables_refusals tables_call row_refusal
opened = tt
