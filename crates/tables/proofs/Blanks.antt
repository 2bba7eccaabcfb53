-- The value bytes of a blank or declined cell affect nothing, and a declined cell is blank but for the tests that ask for it.
use mathlib.Core.Path.{◌≡◌, refl, sym, ap, ap₂, ◌∙◌}
use mathlib.Core.Bool.{true, not}
use mathlib.Core.List.{List, [], ◌∷◌, map}
use mathlib.Core.Logic.{inl, inr}
use Prim.Native.Nat.{ℕ, zero, suc, ◌+◌, ◌*◌, ◌<◌, ◌≤◌}
use native.Mathlib.Omega.{arith}
use lib.Dec.{leb, leb→le, eqb}
use lib.IntN.{ℤ}
use lib.ListN.{length, get_or}
use Rattle.tables.specs.Lists.{tabulate, all}
use Rattle.tables.specs.Tables.{highest_mark, Size, table_count, size_at, sizes, columns_of, row_count, cells_before, cell_count, value_bits, mark_of, sizes_fit, marks_fit, Cell, Tables, cell_marked, cell_from, cell_at, table_from, tables_of}
use Rattle.tables.specs.Values.{is_blank, is_declined}
use Rattle.tables.specs.Refusals.{tables_refusals}
use Rattle.tables.specs.Cases.{sample_file, turned_file}
use Rattle.tables.specs.Claims.{BlankCellsClaim, MarksAlike, DeclinedCellsClaim, TurnedCaseClaim, MarkedCellsClaim, as_blank}
use Rattle.tables.proofs.Opened.{opened}
use Rattle.tables.proofs.Tests.{is_so}
use Rattle.tables.proofs.Tabulated.{tabulate_length, tabulate_at, tabulate_same, tabulate_map, all_each, all_same}
use Rattle.tables.proofs.Numbering.{cell_within}

-- ---- two files of one length and the same sizes

module _ (file other : List ℕ) (same_length : length file ≡ length other) (same_sizes : sizes file ≡ sizes other) where
  same_count : table_count file ≡ table_count other
  unfolding sizes
  same_count = sym (tabulate_length (table_count file) (size_at file)) ∙ ap length same_sizes ∙ tabulate_length (table_count other) (size_at other)

  same_size : (j : ℕ) → j < table_count file → size_at file j ≡ size_at other j
  unfolding sizes
  same_size j h =
      sym (tabulate_at (table_count file) (size_at file) j (size_at file j) h)
      ∙ ap (λ (l : List Size). get_or l j (size_at file j)) same_sizes
      ∙ tabulate_at (table_count other) (size_at other) j (size_at file j) (rw same_count at h)

  same_first : (j : ℕ) → cells_before file j ≡ cells_before other j
  unfolding cells_before
  same_first j = rw same_sizes

  same_cells : cell_count file ≡ cell_count other
  unfolding cell_count
  same_cells = rw same_sizes

  -- cells that a function takes to the same are taken to the same in all tables
  module _ {A : Type 0} (f : Cell → A) (same_cell : (k : ℕ) → k < cell_count file → f (cell_at file k) ≡ f (cell_at other k)) where
    same_table : (j : ℕ) → j < table_count file
        → map (map f) (table_from file (cells_before file j) (size_at file j)) ≡ map (map f) (table_from other (cells_before file j) (size_at file j))
    unfolding table_from
    same_table j h =
        let s = size_at file j in
        tabulate_map (map f) s.rows _
        ∙ tabulate_same s.rows _ _ (λ r l.
        tabulate_map f s.columns _
        ∙ tabulate_same s.columns _ _ (λ c m. same_cell (cells_before file j + r * s.columns + c) (cell_within file j r c h l m))
        ∙ sym (tabulate_map f s.columns _))
        ∙ sym (tabulate_map (map f) s.rows _)

    same_tables : map (map (map f)) (tables_of file) ≡ map (map (map f)) (tables_of other)
    unfolding tables_of
    same_tables =
        tabulate_map (map (map f)) (table_count file) _
        ∙ tabulate_same (table_count file) _ _ (λ j h. same_table j h ∙ ap₂ (λ (k : ℕ) (s : Size). map (map f) (table_from other k s)) (same_first j) (same_size j h))
        ∙ sym (tabulate_map (map (map f)) (table_count file) _)
        ∙ ap (λ (n : ℕ). map (map (map f)) (tabulate n (λ j. table_from other (cells_before other j) (size_at other j)))) same_count

  same_sizes_fit : sizes_fit file ≡ sizes_fit other
  unfolding sizes_fit
  same_sizes_fit = rw (same_count, same_sizes, same_cells, same_length)

  same_marks_fit : ((k : ℕ) → k < cell_count file → leb (mark_of file k) highest_mark ≡ leb (mark_of other k) highest_mark) → marks_fit file ≡ marks_fit other
  unfolding marks_fit
  same_marks_fit same =
      all_same (cell_count file) (λ k. leb (mark_of file k) highest_mark) (λ k. leb (mark_of other k) highest_mark) same
      ∙ ap (λ (n : ℕ). all (λ k. leb (mark_of other k) highest_mark) (tabulate n (λ k. k))) same_cells

  same_refusals : ((k : ℕ) → k < cell_count file → leb (mark_of file k) highest_mark ≡ leb (mark_of other k) highest_mark) → tables_refusals file ≡ tables_refusals other
  unfolding tables_refusals
  same_refusals same = rw (same_sizes_fit, same_marks_fit same)

  same_columns_lem : columns_of file ≡ columns_of other
  unfolding columns_of
  same_columns_lem = rw same_sizes

  same_rows : (t : ℕ) → row_count file t ≡ row_count other t
  unfolding row_count
  same_rows t = rw same_sizes

-- ---- the value bytes

-- what leaves each element as it is leaves the list
map_leaves : {A : Type 0} (f : A → A) → ((x : A) → f x ≡ x) → (xs : List A) → map f xs ≡ xs
map_leaves f h [] = refl
map_leaves f h (x ∷ xs) = ap₂ ◌∷◌ (h x) (map_leaves f h xs)

all_left : (ts : Tables) → map (map (map (λ (x : Cell). x))) ts ≡ ts
all_left = map_leaves _ (map_leaves _ (map_leaves _ (λ x. refl)))

pub blank_cells_claim : BlankCellsClaim
unfolding cell_at
blank_cells_claim file other alike =
    let sized = alike.same_length in
    record {
      refusals = same_refusals file other sized alike.same_sizes (λ k h. ap (λ (m : ℕ). leb m highest_mark) (alike.same_marks k h));
      columns = same_columns_lem file other sized alike.same_sizes;
      rows = same_rows file other sized alike.same_sizes;
      tables = sym (all_left (tables_of file)) ∙ same_tables file other sized alike.same_sizes (λ x. x) same_cell ∙ all_left (tables_of other);
    }
  where
    same_cell : (k : ℕ) → k < cell_count file → cell_at file k ≡ cell_at other k
    same_cell k h = go (mark_of file k) refl ∙ ap (λ (m : ℕ). cell_from m (value_bits other k)) (alike.same_marks k h)
      where
        go : (m : ℕ) → mark_of file k ≡ m → cell_from (mark_of file k) (value_bits file k) ≡ cell_from (mark_of file k) (value_bits other k)
        go zero e = ap (cell_from (mark_of file k)) (alike.same_values k h e)
        go (suc zero) e = rw e
        go (suc (suc m)) e = rw e

-- ---- declined cells

-- alike marks are both refused or neither; and the cells are the same but for declined ones, where the bits are the same under a mark of 0
alike_fit : {m n : ℕ} → MarksAlike m n → leb m highest_mark ≡ leb n highest_mark
alike_fit (inl e) = rw e
alike_fit (inr (inl (e, f))) = rw (e, f)
alike_fit (inr (inr (e, f))) = rw (e, f)

alike_cells : (m : ℕ) {n : ℕ} (x y : ℕ) → MarksAlike m n → (m ≡ 0 → x ≡ y) → as_blank (cell_from m x) ≡ as_blank (cell_from n y)
alike_cells zero x y (inl e) same = rw (sym e, same refl)
alike_cells (suc zero) x y (inl e) same = rw (sym e)
alike_cells (suc (suc m)) x y (inl e) same = rw (sym e)
alike_cells m x y (inr (inl (e, f))) same = rw (e, f)
alike_cells m x y (inr (inr (e, f))) same = rw (e, f)

pub declined_cells_claim : DeclinedCellsClaim
unfolding cell_at
declined_cells_claim file other alike =
    let sized = alike.same_length in
    record {
      refusals = same_refusals file other sized alike.same_sizes (λ k h. alike_fit (alike.alike_marks k h));
      columns = same_columns_lem file other sized alike.same_sizes;
      rows = same_rows file other sized alike.same_sizes;
      tables = same_tables file other sized alike.same_sizes as_blank (λ k h. alike_cells (mark_of file k) _ _ (alike.alike_marks k h) (alike.same_values k h));
    }

pub turned_case_claim : TurnedCaseClaim
unfolding opened
turned_case_claim = record { same_length = refl; same_sizes = refl; alike_marks = marks; same_values = values }
  where
    marks : (k : ℕ) → k < 6 → MarksAlike (mark_of sample_file k) (mark_of turned_file k)
    marks zero h = inl refl
    marks (suc zero) h = inl refl
    marks (suc (suc zero)) h = inl refl
    marks (suc (suc (suc zero))) h = inl refl
    marks (suc (suc (suc (suc zero)))) h = inr (inl (refl, refl))
    marks (suc (suc (suc (suc (suc zero))))) h = inr (inr (refl, refl))
    marks (suc (suc (suc (suc (suc (suc k)))))) h = absurd (omega arith)

    values : (k : ℕ) → k < 6 → mark_of sample_file k ≡ 0 → value_bits sample_file k ≡ value_bits turned_file k
    values zero h e = refl
    values (suc zero) h e = refl
    values (suc (suc zero)) h e = refl
    values (suc (suc (suc zero))) h e = refl
    values (suc (suc (suc (suc zero)))) h e = absurd (omega arith)
    values (suc (suc (suc (suc (suc zero))))) h e = absurd (omega arith)
    values (suc (suc (suc (suc (suc (suc k)))))) h e = absurd (omega arith)

-- ---- each cell by its mark

declined_by : (m : ℕ) (k : ℤ) → m ≤ highest_mark → is_declined (cell_marked m k) ≡ eqb m 2
declined_by zero k l = refl
declined_by (suc zero) k l = refl
declined_by (suc (suc zero)) k l = refl
declined_by (suc (suc (suc m))) k l = absurd (omega arith)

blank_by : (m : ℕ) (k : ℤ) → m ≤ highest_mark → is_blank (cell_marked m k) ≡ not (eqb m 0)
blank_by zero k l = refl
blank_by (suc zero) k l = refl
blank_by (suc (suc zero)) k l = refl
blank_by (suc (suc (suc m))) k l = absurd (omega arith)

mark_low : (file : List ℕ) (k : ℕ) → marks_fit file ≡ true → k < cell_count file → mark_of file k ≤ highest_mark
unfolding marks_fit
mark_low file k e h = leb→le (mark_of file k) highest_mark (all_each (λ k. leb (mark_of file k) highest_mark) (cell_count file) (λ k. k) (is_so _ e) k h)

pub marked_cells_claim : MarkedCellsClaim
unfolding cell_at
marked_cells_claim = record {
  declined = λ file k e h. declined_by (mark_of file k) _ (mark_low file k e h);
  blank = λ file k e h. blank_by (mark_of file k) _ (mark_low file k e h);
}
