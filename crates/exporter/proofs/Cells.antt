-- A cell of table 1, seen through the window on it, and its field.
use mathlib.Core.Path.{◌≡◌, refl, sym, ap, ◌∙◌}
use mathlib.Core.List.{List, []}
use Prim.Native.Nat.{ℕ, zero, suc, ◌<◌, ◌≤◌}
use native.Mathlib.Omega.{arith}
use lib.IntN.{ℤ}
use lib.ListN.{length, get_or}
use Rattle.tables.proofs.Placed.{placed_none, placed_one}
use Rattle.tables.specs.Tables.{most_columns, Blank, Declined, cell_marked, size_at}
use Rattle.numerals.specs.Numerals.{numeral}
use Rattle.lines.specs.Lines.{declined_field, field_text}
use Rattle.lines.proofs.Written.{rows_count, row_count}
use Rattle.cells.specs.Code.{Sized, seen_cell}
use Rattle.cells.specs.declared.Seen.{Seen}
use Rattle.cells.specs.declared.Place.{Place}
use Rattle.cells.proofs.Cells.{sized_is}
use Rattle.window.specs.Window.{Inside, seen_at}
use Rattle.window.proofs.Shown.{window_claim}
use Rattle.exporter.specs.Code.{FirstTableAt, first_rows, first_row}

-- ---- the field of what is seen

-- a mark that is neither 0 nor 1
marked_declined : (mark : ℕ) (k : ℤ) → (mark ≡ 0 → ⊥) → (mark ≡ 1 → ⊥) → cell_marked mark k ≡ Declined
marked_declined zero k f g = absurd (f refl)
marked_declined (suc zero) k f g = absurd (g refl)
marked_declined (suc (suc mark)) k f g = refl

module _ (x : Seen) where
  pub number_field : x.mark ≡ 0 → field_text (seen_cell x) ≡ numeral x.number
  unfolding field_text
  number_field e = ap (λ (mark : ℕ). field_text (cell_marked mark x.number)) e

  pub blank_field : x.mark ≡ 1 → field_text (seen_cell x) ≡ []
  unfolding field_text
  blank_field e = ap (λ (mark : ℕ). field_text (cell_marked mark x.number)) e

  pub declined_field_lem : (x.mark ≡ 0 → ⊥) → (x.mark ≡ 1 → ⊥) → field_text (seen_cell x) ≡ declined_field
  unfolding field_text
  declined_field_lem f g = ap field_text (marked_declined x.mark x.number f g)

pub ruleset field_texts = (number_field, blank_field, declined_field_lem, placed_none, placed_one)

-- ---- table 1

module _ (file : List ℕ) (at : Place) (table : FirstTableAt file at) where
  sized : Sized file
  sized = sized_is file table.fits

  rows_same : at.rows ≡ (size_at file 0).rows
  rows_same = ap (λ (p : Place). p.rows) table.place

  columns_same : at.columns ≡ (size_at file 0).columns
  columns_same = ap (λ (p : Place). p.columns) table.place

  pub columns_in : (1 ≤ at.columns) × (at.columns ≤ most_columns)
  columns_in =
      let s = sized.each 0 sized.tables_low in
      (omega (arith, columns_same, s.columns_low), omega (arith, columns_same, s.columns_high))

  pub rows_long : length (first_rows file) ≡ at.rows
  rows_long = rows_count file table.fits ∙ sym rows_same

  module _ (row : ℕ) (r : row < at.rows) where
    pub row_long : length (first_row file row) ≡ at.columns
    row_long = row_count file table.fits row (omega (arith, rows_same)) ∙ sym columns_same

    module _ (column : ℕ) (c : column < at.columns) where
      pub cell_inside : Inside file at row column
      cell_inside =
          rw table.place (window_claim.inside file 0 row column table.fits sized.tables_low (omega (arith, rows_same)) (omega (arith, columns_same)))

      module _ (x : Seen) (e : x ≡ seen_at file at row column) where
        pub cell_is : seen_cell x ≡ get_or (first_row file row) column Blank
        cell_is =
            ap seen_cell e
            ∙ window_claim.seen file at row column
            ∙ rw table.place (window_claim.shows file 0 row column sized.tables_low (omega (arith, rows_same)) (omega (arith, columns_same)))
