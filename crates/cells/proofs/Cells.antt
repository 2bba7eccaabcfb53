-- The sizes of a tables file, table by table: where a table's cells start, and what is known of a file that is not refused with 1.
use mathlib.Core.Path.{◌≡◌, sym, ap, ap₂, ◌∙◌}
use mathlib.Core.Bool.{Bool, true, false, ◌&&◌}
use mathlib.Core.List.{List}
use Prim.Native.Nat.{ℕ, suc, ◌+◌, ◌*◌, ◌≤◌, ◌<◌, ◌-◌, max}
use native.Mathlib.Numerals.{add-one}
use native.Mathlib.Omega.{arith}
use lib.Dec.{leb, eqb}
use lib.ListN.{length, get_or, set}
use Rattle.tables.specs.Lists.{tabulate, all}
use Rattle.tables.specs.Bytes.{between as among, byte_at}
use Rattle.tables.specs.Tables.{most_tables, most_cells, highest_mark, table_count, size_at, sizes, cells_before, cell_count, marks_at, mark_of, size_fits, sizes_fit, marks_fit}
use Rattle.cells.specs.Code.{SizeIn, Sized, extent_of, no_extent, SmallExtent}
use Rattle.cells.specs.declared.Extent.{Extent}
use Rattle.std.specs.List.{between}
use Rattle.std.proofs.lemmas.List.Edits.{get_or-between, length-between}
use Rattle.std.proofs.lemmas.Grind.{common_steps}
use Rattle.tables.proofs.Tests.{is_true, is_so, refuted}
use Rattle.tables.proofs.Tabulated.{all_each, all_of, all_no, all_more}
use Rattle.tables.proofs.Numbering.{cells_more, cells_all, cells_within}

-- ---- the test of the sizes

size_in : (file : List ℕ) (j : ℕ) → size_fits (size_at file j) ≡ true → SizeIn file j
size_in file j e = record { columns_low = grind arith; columns_high = grind arith; rows_high = grind arith }

pub sized_is : (file : List ℕ) → sizes_fit file ≡ true → Sized file
unfolding sizes_fit sizes
sized_is file e =
    let every : all size_fits (tabulate (table_count file) (size_at file)) ≡ true = grind arith in
    record {
      tables_low = grind arith;
      tables_high = grind arith;
      each = λ j h. size_in file j (is_true _ (all_each size_fits (table_count file) (size_at file) (is_so _ every) j h));
      cells_high = grind arith;
      long = grind arith;
    }

pub sizes_no : (file : List ℕ) → (Sized file → ⊥) → false ≡ sizes_fit file
sizes_no file f = sym (refuted (sizes_fit file) (λ t. f (sized_is file (is_true _ t))))

-- one table's sizes are outside the limits
pub sizes_one : (file : List ℕ) (j : ℕ) → j < table_count file → size_fits (size_at file j) ≡ false → false ≡ sizes_fit file
unfolding sizes_fit sizes
sizes_one file j h e = let no = all_no size_fits (table_count file) (size_at file) j h e in grind arith

-- the number of tables is outside them
pub count_one : (file : List ℕ) (n : ℕ) → n ≡ table_count file → among 1 most_tables n ≡ false → false ≡ sizes_fit file
unfolding sizes_fit
count_one file n p e = rw (← p, e)

-- where all sizes are within the limits, all cells and the length decide
pub sizes_last : (file : List ℕ) (n j cells : ℕ) → n ≡ table_count file → among 1 most_tables n ≡ true → j ≤ n → n ≤ j
    → ((k : ℕ) → k < j → size_fits (size_at file k) ≡ true) → cells ≡ cells_before file j
    → (leb cells most_cells && eqb (length file) (1 + 3 * n + 5 * cells)) ≡ sizes_fit file
unfolding sizes_fit sizes
sizes_last file n j cells p count l m each q =
    let every : all size_fits (tabulate (table_count file) (size_at file)) ≡ true = all_of size_fits (table_count file) (size_at file) (λ k h. each k (omega arith)) in
    let last : j ≡ table_count file = omega arith in
    let c : cells ≡ cell_count file = q ∙ ap (cells_before file) last ∙ cells_all file in
    let e : 1 + 3 * n + 5 * cells ≡ marks_at file + cell_count file = omega arith in
    let few : among 1 most_tables (table_count file) ≡ true = ap (among 1 most_tables) (sym p) ∙ count in
    rw (every, few, e, c)

-- ---- what the code adds up

pub cells_next : (file : List ℕ) (n j cells rows columns : ℕ) → n ≡ table_count file → j < n → cells ≡ cells_before file j → rows ≡ (size_at file j).rows
    → columns ≡ (size_at file j).columns → cells + rows * columns ≡ cells_before file (j + 1)
cells_next file n j cells rows columns p h q r s = ap₂ ◌+◌ q (ap₂ ◌*◌ r s) ∙ sym (cells_more file j (omega arith))

-- ---- the marks

abbrev pub marks_to : List ℕ → ℕ → Bool
marks_to file k = all (λ k. leb (mark_of file k) highest_mark) (tabulate k (λ k. k))

-- of two numbers the higher one decides
higher : (a b : ℕ) → leb (max a b) highest_mark ≡ (leb a highest_mark && leb b highest_mark)
higher a b = grind (arith, common_steps)

-- the array of marks ends the file
module _ (file : List ℕ) (cells highest k : ℕ) (sized : Sized file) (is : cells ≡ cell_count file) (so_far : leb highest highest_mark ≡ marks_to file k) where
  abbrev marks : List ℕ
  marks = between (length file - cells) (length file) file

  pub marks_next : k < length marks → leb (max highest (get_or marks k 0)) highest_mark ≡ marks_to file (k + 1)
  marks_next h =
      let long = sized.long in
      let size = length-between file (length file - cells) (length file) in
      let mark : get_or marks k 0 ≡ mark_of file k =
      get_or-between file (length file - cells) (length file) k 0 (omega arith) ∙ ap (byte_at file) (omega arith) in
      higher highest (get_or marks k 0)
      ∙ ap₂ (λ (t : Bool) (m : ℕ). t && leb m highest_mark) so_far mark
      ∙ rw (add-one k) (sym (all_more (λ k. leb (mark_of file k) highest_mark) k (λ k. k)))

  pub marks_end : k ≤ length marks → length marks ≤ k → leb highest highest_mark ≡ marks_fit file
  unfolding marks_fit
  marks_end l m =
      let long = sized.long in
      let size = length-between file (length file - cells) (length file) in
      so_far ∙ ap (marks_to file) (omega arith)

-- no more cells with one table more than all cells
pub first_room : (file : List ℕ) (n j first rows columns : ℕ) → n ≡ table_count file → j < n → first ≡ cells_before file j → rows ≡ (size_at file j).rows
    → columns ≡ (size_at file j).columns → first + rows * columns ≤ cell_count file
first_room file n j first rows columns p h q r s = let z = cells_within file j (omega arith) in let e = ap₂ ◌*◌ r s in omega arith

-- one table more stands in a layout
pub extents_more : (file : List ℕ) (tables : List Extent) (j : ℕ) (extent : Extent) → ((k : ℕ) → k < j → get_or tables (suc k) no_extent ≡ extent_of file k)
    → j + 1 < length tables → extent ≡ extent_of file j → (k : ℕ) → k < j + 1 → get_or (set tables (j + 1) extent) (suc k) no_extent ≡ extent_of file k
extents_more file tables j extent each room is k h = grind (arith, common_steps)

-- the numbers of the extents have 32 bits
pub extents_small : (file : List ℕ) (tables : List Extent) → Sized file → ((k : ℕ) → k < table_count file → get_or tables (suc k) no_extent ≡ extent_of file k)
    → (j : ℕ) → j < table_count file → SmallExtent (get_or tables (suc j) no_extent)
extents_small file tables sized each j h =
    let size = sized.each j h in
    let few = sized.cells_high in
    let within = cells_within file j h in
    let low = size.columns_high in
    let high = size.rows_high in
    rw (each j h) (record { first = omega arith; columns = omega arith; rows = omega arith })
