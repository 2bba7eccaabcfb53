-- What the functions of src/ promise their callers, in the terms of the code: a row as the number of its first cell. The contract of a
-- public call cites nothing of this file.
use Rattle.std.specs.Prelude.{◌≡◌, List, [], ℕ, ◌+◌, ◌<◌, ◌≤◌, T, length, get_or}
use Rattle.tables.specs.Lists.{tabulate, numbered}
use Rattle.tables.specs.Tables.{Row, cell_at, cell_count, columns_of}
use Rattle.tables.specs.Values.{most_levels, Env, cell_of, value_fits}
use Rattle.tables.specs.declared.Value.{Value}
use Rattle.cells.specs.Code.{Sized, Places, seen_cell}
use Rattle.cells.specs.declared.Seen.{Seen}
use Rattle.cells.specs.declared.Layout.{Layout}

-- ---- rows and levels

-- the row whose cells are those from number k on
unfoldable pub row_from : List ℕ → ℕ → ℕ → Row
row_from file k columns = tabulate columns (λ c. cell_at file (k + c))

-- a level stands at this row of table t; k is the number of its first cell
pub record LevelAt (file : List ℕ) (k t : ℕ) (row : Row) : Type 0 where
  pub row_is : row ≡ row_from file k (numbered (columns_of file) t 0)
  pub within : k + numbered (columns_of file) t 0 ≤ cell_count file

-- w has the first cell of each level's row, levels its table, env the row
pub record Levels (file w levels : List ℕ) (env : Env) : Type 0 where
  pub size : length w ≡ most_levels
  pub few : length levels ≤ most_levels
  pub rows_too : length env ≡ length levels
  pub at : (l : ℕ) → l < length levels → LevelAt file (get_or w l 0) (get_or levels l 0) (get_or env l [])

-- the cells of a file can be read: its sizes are right, layout is that of its tables, and each level stands at a row
pub record Readable (layout : Layout) (file w levels : List ℕ) (env : Env) : Type 0 where
  pub sized : Sized file
  pub places : Places file layout
  pub standing : Levels file w levels env

-- ---- what looking at a value asks, and answers: for whatever levels and rows the numbers stand for

pub record ValueReady (layout : Layout) (file w : List ℕ) (v : Value) : Type 0 where
  pub levels : List ℕ
  pub env : Env
  pub readable : Readable layout file w levels env
  pub fits : T (value_fits (columns_of file) levels v)

-- the cell of the value; which number is seen under a blank or a declined one is open, and no answer depends on it
abbrev pub Sees : (layout : Layout) (file w : List ℕ) → Value → Seen → Type 0
Sees layout file w v r = (h : ValueReady layout file w v) → seen_cell r ≡ cell_of h.env v
