-- What the sizes of a file that is not refused say of its columns; and that two files with the same columns have one list of columns.
use mathlib.Core.Path.{◌≡◌, refl, ap, ap₂, ◌∙◌}
use mathlib.Core.Bool.{◌&&◌}
use mathlib.Core.List.{List, [], ◌∷◌, map}
use Prim.Native.Nat.{ℕ, suc, ◌≤◌, ◌<◌}
use lib.Dec.{T, eqb, leb, leb→le, eqb→eq, eqb_refl}
use lib.Ieee.Fits.{and_l, and_r, and_i}
use lib.ListN.{length, get_or}
use Rattle.tables.specs.Lists.{tabulate, all, same}
use Rattle.tables.specs.Bytes.{between}
use Rattle.tables.specs.Tables.{most_tables, most_columns, most_rows, Size, table_count, size_at, sizes, columns_of, row_count, size_fits, sizes_fit, same_columns}
use Rattle.tables.proofs.Tabulated.{tabulate_length, tabulate_at, tabulate_map, all_each}
use Rattle.tables.proofs.Tests.{bounds}

-- a table's columns and rows
module _ (file : List ℕ) where
  pub columns_are : columns_of file ≡ tabulate (table_count file) (λ j. (size_at file j).columns)
  unfolding columns_of sizes
  columns_are = tabulate_map (λ (s : Size). s.columns) (table_count file) (size_at file)

  pub column_at : (j : ℕ) → j < table_count file → get_or (columns_of file) j 0 ≡ (size_at file j).columns
  column_at j h = rw columns_are (tabulate_at (table_count file) (λ j. (size_at file j).columns) j 0 h)

  pub count_at : (j : ℕ) → j < table_count file → row_count file (suc j) ≡ (size_at file j).rows
  unfolding row_count sizes
  count_at j h =
      rw (tabulate_map (λ (s : Size). s.rows) (table_count file) (size_at file)) (tabulate_at (table_count file) (λ j. (size_at file j).rows) j 0 h)

-- as many tables as byte 0 says
pub columns_count : (file : List ℕ) → length (columns_of file) ≡ table_count file
columns_count file = ap length (columns_are file) ∙ tabulate_length (table_count file) (λ j. (size_at file j).columns)

all_columns : (ss : List Size) → T (all size_fits ss) → T (all (between 1 most_columns) (map (λ s. s.columns) ss))
all_columns [] h = tt
all_columns (s ∷ ss) h =
    and_i (between 1 most_columns s.columns) _
    (and_l (between 1 most_columns s.columns) (leb s.rows most_rows) (and_l (size_fits s) (all size_fits ss) h))
    (all_columns ss (and_r (size_fits s) (all size_fits ss) h))

-- 1 to 8 tables, of 1 to 16 columns each
pub columns_fit : (file : List ℕ) → T (sizes_fit file) → T (between 1 most_tables (length (columns_of file)) && all (between 1 most_columns) (columns_of file))
unfolding sizes_fit columns_of
columns_fit file h =
    and_i (between 1 most_tables (length (columns_of file))) _
    (rw columns_count (and_l (between 1 most_tables (table_count file)) _ h))
    (all_columns (sizes file) (and_l (all size_fits (sizes file)) _ (and_r (between 1 most_tables (table_count file)) _ h)))

-- at most 8 tables
pub tables_few : (file : List ℕ) → T (sizes_fit file) → table_count file ≤ most_tables
unfolding sizes_fit
tables_few file h = (bounds 1 most_tables (table_count file) (and_l (between 1 most_tables (table_count file)) _ h)).1

-- table 1 is there, with at most 1,000 rows
pub first_rows : (file : List ℕ) → T (sizes_fit file) → row_count file 1 ≤ most_rows
unfolding sizes_fit sizes
first_rows file h =
    let n = table_count file in
    let some-table = (bounds 1 most_tables n (and_l (between 1 most_tables n) _ h)).0 in
    let every = and_l (all size_fits (tabulate n (size_at file))) _ (and_r (between 1 most_tables n) _ h) in
    let first = and_r (between 1 most_columns (size_at file 0).columns) (leb (size_at file 0).rows most_rows) (all_each size_fits n (size_at file) every 0 some-table) in
    rw (count_at file 0 some-table) (leb→le (size_at file 0).rows most_rows first)

-- ---- the same lists

pub same_is : (xs ys : List ℕ) → T (same xs ys) → xs ≡ ys
same_is [] [] h = refl
same_is [] (y ∷ ys) h = absurd h
same_is (x ∷ xs) [] h = absurd h
same_is (x ∷ xs) (y ∷ ys) h = ap₂ ◌∷◌ (eqb→eq x y (and_l (eqb x y) (same xs ys) h)) (same_is xs ys (and_r (eqb x y) (same xs ys) h))

pub same_refl : (xs : List ℕ) → T (same xs xs)
same_refl [] = tt
same_refl (x ∷ xs) = and_i (eqb x x) (same xs xs) (eqb_refl x) (same_refl xs)

pub same_columns_is : (file later : List ℕ) → T (same_columns file later) → columns_of file ≡ columns_of later
unfolding same_columns
same_columns_is file later h = same_is (columns_of file) (columns_of later) h
