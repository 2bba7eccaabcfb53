-- What the functions of src/ promise one another: table 1 of a file, where it stands, and its rows. The contract of a public call cites nothing of this file.
use Rattle.std.specs.Prelude.{◌≡◌, true, List, [], ℕ, get_or}
use Rattle.tables.specs.Tables.{Row, Table, sizes_fit, tables_of, rows_of}
use Rattle.cells.specs.declared.Place.{Place}
use Rattle.window.specs.Window.{place_of_table}

-- the file is not refused with 1, and its table 1 stands there
pub record FirstTableAt (file : List ℕ) (at : Place) : Type 0 where
  pub fits : sizes_fit file ≡ true
  pub place : at ≡ place_of_table file 0

-- the rows of table 1, and one of them, counted from 0
abbrev pub first_rows : List ℕ → Table
first_rows file = rows_of (tables_of file) 1

abbrev pub first_row : List ℕ → ℕ → Row
first_row file row = get_or (first_rows file) row []
