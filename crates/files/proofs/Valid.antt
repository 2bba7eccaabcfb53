-- Which of refusals 1 and 2 a file gets that is made from sizes and cells.
use mathlib.Core.Path.{◌≡◌, sym, ap, ap₂, ◌∙◌}
use mathlib.Core.Bool.{Bool, true, not, ◌&&◌, and-true}
use mathlib.Core.List.{List, [], ◌∷◌}
use mathlib.Core.Option.{none}
use Prim.Native.Nat.{ℕ, ◌+◌}
use native.Mathlib.Omega.{arith}
use borrow.Author.Tests.{eq-eqb, not-false}
use lib.Dec.{leb}
use lib.ListN.{length, get_or}
use Rattle.tables.specs.Lists.{tabulate, all}
use Rattle.tables.specs.Bytes.{between}
use Rattle.tables.specs.Tables.{most_tables, most_cells, highest_mark, Size, cell_count, marks_at, mark_of, size_fits, sizes_fit, marks_fit}
use Rattle.tables.specs.Refusals.{◌if◌, first_applying, tables_refusals}
use Rattle.tables.proofs.Tabulated.{all_same}
use Rattle.tables.proofs.Refusals.{first_nil, first_none, none_first}
use Rattle.files.specs.Files.{RawCell, raw_cell, file_bytes, cells_asked, Storable, sizes_allowed, marks_allowed}
use Rattle.files.specs.Claims.{ValidityClaim}
use Rattle.tables.proofs.Tabulated.{all_read}
use Rattle.files.proofs.Back.{file_length_claim, count_tables, sizes_are, count_back, marks_start_lem, mark_back}

module _ (ss : List Size) (cs : List RawCell) (room : Storable ss cs) where
  sizes_fit_lem : sizes_fit (file_bytes ss cs) ≡ sizes_allowed ss
  unfolding sizes_fit
  sizes_fit_lem =
      let cells : cell_count (file_bytes ss cs) ≡ cells_asked ss = count_back ss cs room ∙ room.as_many in
      let long : length (file_bytes ss cs) ≡ marks_at (file_bytes ss cs) + cell_count (file_bytes ss cs) =
      omega (arith, file_length_claim ss cs, marks_start_lem ss cs room, count_back ss cs room) in
      ap₂ (λ (n : ℕ) (t : Bool). between 1 most_tables n && t) (count_tables ss cs)
      (ap₂ (λ (l : List Size) (t : Bool). all size_fits l && t) (sizes_are ss cs room.sizes_small)
      (ap₂ (λ (n : ℕ) (t : Bool). leb n most_cells && t) cells (eq-eqb _ _ long) ∙ and-true (leb (cells_asked ss) most_cells)))

  marks_fit_lem : marks_fit (file_bytes ss cs) ≡ marks_allowed cs
  unfolding marks_fit
  marks_fit_lem =
      let d = raw_cell 0 0 in
      ap (λ (n : ℕ). all (λ k. leb (mark_of (file_bytes ss cs) k) highest_mark) (tabulate n (λ k. k))) (count_back ss cs room)
      ∙ all_same (length cs) _ (λ k. leb (get_or cs k d).mark highest_mark) (λ k h. ap (λ (m : ℕ). leb m highest_mark) (mark_back ss cs room k d h))
      ∙ all_read (λ (c : RawCell). leb c.mark highest_mark) cs d

  refusals : tables_refusals (file_bytes ss cs) ≡ (1 if not (sizes_allowed ss)) ∷ (2 if not (marks_allowed cs)) ∷ []
  unfolding tables_refusals
  refusals = ap₂ (λ (a b : Bool). (1 if not a) ∷ (2 if not b) ∷ []) sizes_fit_lem marks_fit_lem

  valid_only : first_applying (tables_refusals (file_bytes ss cs)) ≡ none → (sizes_allowed ss ≡ true) × (marks_allowed cs ≡ true)
  valid_only e =
      let (p, r) = none_first 1 (not (sizes_allowed ss)) ((2 if not (marks_allowed cs)) ∷ []) (sym (ap first_applying refusals) ∙ e) in
      (not-false (sizes_allowed ss) p, not-false (marks_allowed cs) (none_first 2 (not (marks_allowed cs)) [] r).0)

  pub valid_file : sizes_allowed ss ≡ true → marks_allowed cs ≡ true → first_applying (tables_refusals (file_bytes ss cs)) ≡ none
  valid_file p q =
      ap first_applying refusals
      ∙ first_none 1 (not (sizes_allowed ss)) _ (ap not p) (first_none 2 (not (marks_allowed cs)) [] (ap not q) first_nil)

pub validity_claim : ValidityClaim
validity_claim ss cs room =
    record {
      sizes_fit_lem = sizes_fit_lem ss cs room;
      marks_fit_lem = marks_fit_lem ss cs room;
      refusals = refusals ss cs room;
      valid = (valid_only ss cs room, λ (p, q). valid_file ss cs room p q);
    }
