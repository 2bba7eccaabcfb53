-- The rows of a table, one after the other: where the next one stands, and that a new level can stand there.
use mathlib.Core.Path.{◌≡◌, refl, ◌∙◌}
use mathlib.Core.List.{List, [], ◌∷◌, ◌++◌}
use Prim.Native.Nat.{ℕ, ◌+◌, ◌*◌, ◌<◌, ◌≤◌}
use native.Mathlib.Nat.{suc-mul}
use native.Mathlib.Numerals.{add-one}
use native.Mathlib.Omega.{arith}
use lib.Dec.{T}
use lib.ListN.{length, get_or, set, length-set, length-append}
use lib.Seq.{get_or-set_other}
use Rattle.tables.specs.Bytes.{between}
use Rattle.tables.specs.Tables.{most_tables, most_cells, columns_of}
use Rattle.tables.specs.Values.{most_levels, Env, ◌▸◌}
use Rattle.cells.specs.declared.Layout.{Layout}
use Rattle.tables.proofs.Tests.{bounds}
use Rattle.tables.proofs.Sizes.{columns_count}
use Rattle.cells.specs.Code.{no_extent}
use Rattle.values.specs.Code.{row_from, LevelAt, Readable}
use Rattle.values.proofs.Rows.{TableAt, table_at, row_at, levels_more}

-- what a layout has of table t
module _ (layout : Layout) (t : ℕ) where
  abbrev pub first_at : ℕ
  first_at = (get_or layout.tables t no_extent).first

  abbrev pub columns_at : ℕ
  columns_at = (get_or layout.tables t no_extent).columns

  abbrev pub rows_at : ℕ
  rows_at = (get_or layout.tables t no_extent).rows

-- after r rows, first is the next row's first cell, and v has those of the rows around it
pub record NextRow (w : List ℕ) (depth start columns r first : ℕ) (v : List ℕ) : Type 0 where
  pub first_is : first ≡ start + r * columns
  pub long : length v ≡ most_levels
  pub same : (l : ℕ) → l < depth → get_or v l 0 ≡ get_or w l 0

pub next_none : (w : List ℕ) (depth start columns : ℕ) → length w ≡ most_levels → NextRow w depth start columns 0 start w
next_none w depth start columns long = record { first_is = omega arith; long = long; same = λ l m. refl }

pub next_more : {w : List ℕ} {depth start columns r first : ℕ} {v : List ℕ} → NextRow w depth start columns r first v
    → NextRow w depth start columns (r + 1) (first + columns) (set v depth first)
next_more {depth = depth} {columns = columns} {r = r} {first = first} {v = v} next =
    record {
      first_is = (let z = suc-mul r columns in let f = next.first_is in rw (add-one r) (omega arith));
      long = length-set v depth first ∙ next.long;
      same = λ l m. get_or-set_other v depth l first 0 (λ z. omega arith) ∙ next.same l m;
    }

module _ {layout : Layout} {file w levels : List ℕ} {env : Env} (readable : Readable layout file w levels env) (t : ℕ) (there : T (between 1 (length (columns_of file)) t)) where
  pub table_bounds : (1 ≤ t) × (t ≤ most_tables)
  table_bounds =
      let z = columns_count file in
      let b = bounds 1 (length (columns_of file)) t there in
      let n = readable.sized.tables_high in
      (b.0, omega arith)

  pub table_here_lem : TableAt file t (first_at layout t) (columns_at layout t) (rows_at layout t)
  table_here_lem =
      let z = columns_count file in
      let b = bounds 1 (length (columns_of file)) t there in
      table_at file layout readable.places readable.sized t (omega arith) (omega arith)

  module _ {depth : ℕ} (deep : depth ≡ length levels) where
    pub row_deep : depth + 1 ≡ length (levels ++ (t ∷ []))
    row_deep = simp length-append (omega arith)

    module _ {r first : ℕ} {v : List ℕ} (below : r < rows_at layout t) (next : NextRow w depth (first_at layout t) (columns_at layout t) r first v) where
      row_level : LevelAt file first t (row_from file first (columns_at layout t))
      row_level = row_at file t _ _ _ r first table_here_lem below next.first_is

      pub row_room : first + columns_at layout t ≤ most_cells
      row_room = omega (arith, row_level.within, table_here_lem.columns_are, readable.sized.cells_high)

      pub row_readable : depth < most_levels → Readable layout file (set v depth first) (levels ++ (t ∷ [])) (env ▸ row_from file first (columns_at layout t))
      row_readable shallow =
          record {
            sized = readable.sized;
            places = readable.places;
            standing = levels_more file w levels env v depth first t _ readable.standing deep shallow next.long next.same row_level;
          }
