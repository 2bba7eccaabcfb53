-- The numbers of a table's cells among all cells of a file.
use mathlib.Core.Path.{◌≡◌, refl, ap}
use mathlib.Core.List.{List, map}
use Prim.Native.Nat.{ℕ, zero, suc, ◌+◌, ◌-◌, ◌*◌, ◌≤◌, ◌<◌}
use native.Mathlib.Nat.{le_of_suc-le-suc, not-suc-le-zero, mul-le-mul, le_refl}
use native.Mathlib.Numerals.{add-one}
use native.Mathlib.Omega.{arith}
use lib.ListN.{take}
use Rattle.tables.specs.Lists.{tabulate, total}
use Rattle.tables.specs.Tables.{Size, table_count, size_at, sizes, cells_in, cells_before, cell_count}

-- the first j of n numbers, added up, and one more of them
sum_more : (n j : ℕ) (f : ℕ → Size) → j < n
    → total (map cells_in (take (suc j) (tabulate n f))) ≡ total (map cells_in (take j (tabulate n f))) + cells_in (f j)
sum_more zero j f h = absurd (not-suc-le-zero h)
sum_more (suc n) zero f h = omega arith
sum_more (suc n) (suc j) f h = omega (arith, sum_more n j (λ k. f (suc k)) (le_of_suc-le-suc h))

sum_all : (n : ℕ) (f : ℕ → Size) → total (map cells_in (take n (tabulate n f))) ≡ total (map cells_in (tabulate n f))
sum_all zero f = refl
sum_all (suc n) f = ap (λ (x : ℕ). cells_in (f 0) + x) (sum_all n (λ k. f (suc k)))

module _ (file : List ℕ) where
  pub cells_none : cells_before file 0 ≡ 0
  unfolding cells_before
  cells_none = refl

  pub cells_more : (j : ℕ) → j < table_count file → cells_before file (j + 1) ≡ cells_before file j + (size_at file j).rows * (size_at file j).columns
  unfolding cells_before sizes
  cells_more j h = rw (add-one j) (sum_more (table_count file) j (size_at file) h)

  pub cells_all : cells_before file (table_count file) ≡ cell_count file
  unfolding cells_before cell_count sizes
  cells_all = sum_all (table_count file) (size_at file)

  -- no more cells up to a table than up to a later one
  cells_rise : (d j : ℕ) → j + d ≤ table_count file → cells_before file j ≤ cells_before file (j + d)
  cells_rise zero j h = let e : j ≡ j + 0 = omega arith in omega (arith, ap (cells_before file) e)
  cells_rise (suc d) j h =
      let e : j + d + 1 ≡ j + suc d = omega arith in
      let m = cells_more (j + d) (omega arith) in
      let z = ap (cells_before file) e in
      omega (arith, cells_rise d j (omega arith))

  -- a table's cells are among all cells
  pub cells_within : (j : ℕ) → j < table_count file → cells_before file j + (size_at file j).rows * (size_at file j).columns ≤ cell_count file
  cells_within j h =
      let e : j + 1 + (table_count file - (j + 1)) ≡ table_count file = omega arith in
      let z = ap (cells_before file) e in
      let r = cells_rise (table_count file - (j + 1)) (j + 1) (omega arith) in
      omega (arith, cells_more j h, cells_all)

  -- and so is each of them
  pub cell_within : (j r c : ℕ) → j < table_count file → r < (size_at file j).rows → c < (size_at file j).columns
      → cells_before file j + r * (size_at file j).columns + c < cell_count file
  cell_within j r c h l m =
      let up = mul-le-mul {n₁ = suc r} {m₁ = (size_at file j).columns} {n₂ = (size_at file j).rows} {m₂ = (size_at file j).columns} l (le_refl _) in
      omega (arith, up, cells_within j h)
