-- The tables of a file are cut from the list of its cells.
use mathlib.Core.Path.{◌≡◌, refl, sym, ap, ap₂, ◌∙◌}
use mathlib.Core.Bool.{true}
use mathlib.Core.List.{List, [], ◌∷◌, ◌++◌, map, flat_map, append_assoc}
use Prim.Native.Nat.{ℕ, zero, suc, ◌+◌, ◌*◌, ◌<◌, ◌≤◌}
use native.Mathlib.Nat.{zero-add, add-zero, add_assoc, suc-mul, mul-le-mul, le_refl}
use native.Mathlib.Omega.{arith}
use borrow.Author.Tests.{eqb-true}
use lib.Dec.{eqb}
use lib.ListN.{length, get_or, take, drop}
use lib.Seq.{take_at, drop_at, drop-drop}
use Rattle.tables.specs.Lists.{tabulate, all, total}
use Rattle.tables.specs.Tables.{Size, table_count, size_at, sizes, cells_in, cells_before, cell_count, Cell, Blank, cell_from, cell_at, Row, Table, Tables, table_from, tables_of}
use Rattle.tables.proofs.Tabulated.{tabulate_length, tabulate_at, tabulate_same, tabulate_map}
use Rattle.tables.proofs.Numbering.{cells_within, cell_within}
use Rattle.files.specs.Files.{RawCell, file_bytes, cells_asked, Storable, raw_cell_at, raw_cells, cell_read, rows_cut, tables_cut}
use Rattle.files.specs.Claims.{CutClaim, FileTablesClaim}
use Rattle.tables.proofs.Tabulated.{and_parts, tabulate_part}
use Rattle.files.proofs.Back.{sizes_are, cells_back, value_back, mark_back}

module _ (xs : List Cell) where
  -- row after row, from number k on
  rows_cut_lem : (rows columns k : ℕ) → tabulate rows (λ r. take columns (drop (k + r * columns) xs)) ≡ rows_cut rows columns (drop k xs)
  unfolding rows_cut
  rows_cut_lem zero columns k = refl
  rows_cut_lem (suc rows) columns k =
      let first : k + 0 * columns ≡ k = omega arith in
      ap₂ ◌∷◌ (ap (λ (n : ℕ). take columns (drop n xs)) first)
      (tabulate_same rows _ _ (λ r _. let e : k + suc r * columns ≡ k + columns + r * columns = omega (arith, suc-mul r columns) in ap (λ (n : ℕ). take columns (drop n xs)) e)
      ∙ rows_cut_lem rows columns (k + columns)
      ∙ ap (rows_cut rows columns) (sym (drop-drop columns k xs)))

  -- table after table
  tables_cut_lem : (n : ℕ) (g : ℕ → Size) (k : ℕ)
      → tabulate n (λ j. rows_cut (g j).rows (g j).columns (drop (k + total (map cells_in (take j (tabulate n g)))) xs)) ≡ tables_cut (tabulate n g) (drop k xs)
  unfolding tables_cut
  tables_cut_lem zero g k = refl
  tables_cut_lem (suc n) g k =
      ap₂ ◌∷◌ (ap (λ (m : ℕ). rows_cut (g 0).rows (g 0).columns (drop m xs)) (add-zero k))
      (tabulate_same n _ _ (λ j _. ap (λ (m : ℕ). rows_cut (g (suc j)).rows (g (suc j)).columns (drop m xs))
      (sym (add_assoc k (cells_in (g 0)) (total (map cells_in (take j (tabulate n (λ j. g (suc j)))))))))
      ∙ tables_cut_lem n (λ j. g (suc j)) (k + cells_in (g 0))
      ∙ ap (tables_cut (tabulate n (λ j. g (suc j)))) (sym (drop-drop (cells_in (g 0)) k xs)))

module _ (file : List ℕ) where
  cells : List Cell
  cells = map cell_read (raw_cells file)

  cells_are : cells ≡ tabulate (cell_count file) (cell_at file)
  unfolding cells raw_cells cell_at
  cells_are = tabulate_map cell_read (cell_count file) (raw_cell_at file)

  cell_is : (k : ℕ) → k < cell_count file → cell_at file k ≡ get_or cells k Blank
  cell_is k h = sym (ap (λ (l : List Cell). get_or l k Blank) cells_are ∙ tabulate_at (cell_count file) (cell_at file) k Blank h)

  cells_count : length cells ≡ cell_count file
  cells_count = ap length cells_are ∙ tabulate_length (cell_count file) (cell_at file)

  module _ (j : ℕ) (h : j < table_count file) where
    row_cut : (r : ℕ) → r < (size_at file j).rows
        → tabulate (size_at file j).columns (λ c. cell_at file (cells_before file j + r * (size_at file j).columns + c))
        ≡ take (size_at file j).columns (drop (cells_before file j + r * (size_at file j).columns) cells)
    row_cut r l =
        let w = (size_at file j).columns in
        let up = mul-le-mul {n₁ = suc r} {m₁ = w} {n₂ = (size_at file j).rows} {m₂ = w} l (le_refl _) in
        let z : cells_before file j + r * w + w ≤ length cells = omega (arith, up, suc-mul r w, cells_within file j h, cells_count) in
        tabulate_same w _ _ (λ c m. cell_is (cells_before file j + r * w + c) (cell_within file j r c h l m))
        ∙ tabulate_part w cells (cells_before file j + r * w) Blank z

    table_cut : table_from file (cells_before file j) (size_at file j) ≡ rows_cut (size_at file j).rows (size_at file j).columns (drop (cells_before file j) cells)
    unfolding table_from
    table_cut = tabulate_same (size_at file j).rows _ _ row_cut ∙ rows_cut_lem cells (size_at file j).rows (size_at file j).columns (cells_before file j)

pub cut_claim : CutClaim
unfolding tables_of sizes cells_before cells
cut_claim file =
    tabulate_same (table_count file) _ _ (λ j h. table_cut file j h
    ∙ ap (λ (k : ℕ). rows_cut (size_at file j).rows (size_at file j).columns (drop k (cells file))) (sym (zero-add (cells_before file j))))
    ∙ tables_cut_lem (cells file) (table_count file) (size_at file) 0

-- ---- cells that were joined

-- rows of one width, cut from the list of their cells, with any cells behind them
pub rows_joined : (w : ℕ) (rows : Table) (rest : List Cell) → all (λ (row : Row). eqb (length row) w) rows ≡ true
    → rows_cut (length rows) w (flat_map (λ (row : Row). row) rows ++ rest) ≡ rows
unfolding flat_map rows_cut
rows_joined w [] rest e = refl
rows_joined w (row ∷ rows) rest e =
    let (p, q) = and_parts (eqb (length row) w) (all (λ (row : Row). eqb (length row) w) rows) e in
    let n : length row ≡ w = eqb-true (length row) w p in
    let cells = flat_map (λ (row : Row). row) rows in
    let whole = append_assoc row cells rest in
    ap₂ ◌∷◌ (ap (take w) whole ∙ take_at row (cells ++ rest) w n)
    (ap (rows_cut (length rows) w) (ap (drop w) whole ∙ drop_at row (cells ++ rest) w n) ∙ rows_joined w rows rest q)

-- the tables before some number, and those from it on
pub tables_append : (ss ss' : List Size) (xs : List Cell) → tables_cut (ss ++ ss') xs ≡ tables_cut ss xs ++ tables_cut ss' (drop (cells_asked ss) xs)
unfolding tables_cut cells_asked
tables_append [] ss' xs = refl
tables_append (s ∷ ss) ss' xs =
    ap (λ (l : Tables). rows_cut s.rows s.columns xs ∷ l)
    (tables_append ss ss' (drop (cells_in s) xs) ∙ ap (λ (l : List Cell). tables_cut ss (drop (cells_in s) xs) ++ tables_cut ss' l) (drop-drop (cells_asked ss) (cells_in s) xs))

-- ---- of a file that is made from sizes and cells

module _ (ss : List Size) (cs : List RawCell) (room : Storable ss cs) where
  cell_held : (k : ℕ) (d : RawCell) → k < length cs → cell_at (file_bytes ss cs) k ≡ cell_read (get_or cs k d)
  unfolding cell_at
  cell_held k d h = let c = get_or cs k d in ap₂ cell_from (mark_back ss cs room k d h) (value_back ss cs room k d h)

  pub tables_held : tables_of (file_bytes ss cs) ≡ tables_cut ss (map cell_read cs)
  tables_held = cut_claim (file_bytes ss cs) ∙ ap₂ tables_cut (sizes_are ss cs room.sizes_small) (ap (map cell_read) (cells_back ss cs room))

pub file_tables_claim : FileTablesClaim
file_tables_claim ss cs room = record { cell = cell_held ss cs room; tables = tables_held ss cs room }
