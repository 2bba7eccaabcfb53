-- A run of cells copied from a file: the bytes of its values, then those of its marks.
use mathlib.Core.Path.{◌≡◌, ap, ap₂, ◌∙◌}
use mathlib.Core.List.{List}
use Prim.Native.Nat.{ℕ, ◌+◌, ◌*◌, ◌-◌, ◌/◌, ◌<◌, ◌≤◌}
use native.Mathlib.Omega.{arith}
use lib.ListN.{length, take, drop}
use Rattle.tables.specs.Lists.{placed}
use Rattle.tables.specs.Bytes.{byte_at}
use Rattle.tables.specs.Tables.{cell_count, values_at, marks_at}
use Rattle.cells.specs.Code.{Sized}
use Rattle.files.specs.Files.{raw_cells, cells_placed}
use Rattle.files.proofs.Remade.{run_values, run_marks}

-- n cells from number `first` on; the code finds the arrays by byte 0 and the file's length
module _ (file : List ℕ) (small : (i : ℕ) → byte_at file i < 256) (sized : Sized file) (first n : ℕ) (within : first + n ≤ cell_count file) where
  pub cells_copied : (old x y : List ℕ) (values marks k tables : ℕ) → tables ≡ byte_at file 0
      → let start = 1 + 3 * tables in let a = start + 4 * first in let b = start + 4 * ((length file - start) / 5) + first in
      x ≡ placed old (values + 4 * k) (take (a + 4 * n - a) (drop a file)) → y ≡ placed x (marks + k) (take (b + n - b) (drop b file))
      → y ≡ cells_placed old values marks k (take n (drop first (raw_cells file)))
  cells_copied old x y values marks k tables t p q =
      let long = sized.long in
      let start = 1 + 3 * tables in
      let a = start + 4 * first in
      let b = start + 4 * ((length file - start) / 5) + first in
      let size : a + 4 * n - a ≡ 4 * n = omega arith in
      let size' : b + n - b ≡ n = omega arith in
      let at : a ≡ values_at file + 4 * first = omega arith in
      let cells : (length file - start) / 5 ≡ cell_count file = omega arith in
      let at' : b ≡ marks_at file + first = omega arith in
      q
      ∙ ap₂ (λ (l m : List ℕ). placed l (marks + k) m) (p ∙ ap (placed old (values + 4 * k)) (ap₂ (λ (s i : ℕ). take s (drop i file)) size at ∙ run_values file small long first n within))
      (ap₂ (λ (s i : ℕ). take s (drop i file)) size' at' ∙ run_marks file small long first n within)
