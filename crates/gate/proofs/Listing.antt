-- The rows that LIST keeps, row by row.
use mathlib.Core.Path.{◌≡◌, refl, sym, ap, ◌∙◌}
use mathlib.Core.Bool.{Bool, true, false}
use mathlib.Core.List.{List, [], ◌∷◌, ◌++◌, append-nil}
use Prim.Native.Nat.{ℕ, zero, suc, ◌+◌, ◌≤◌, ◌<◌}
use native.Mathlib.Numerals.{add-one}
use native.Mathlib.Omega.{arith}
use lib.ListN.{length, take, set, length-append, length-set}
use lib.Seq.{take-suc-set, take-set-le}
use Rattle.tables.specs.Lists.{tabulate, put, keep}
use Rattle.tables.specs.Tables.{most_rows, row_count, rows_where}

-- ---- the rows of which a test holds

put_append : (b : Bool) (x : ℕ) (xs ys : List ℕ) → put b x (xs ++ ys) ≡ put b x xs ++ ys
put_append true x xs ys = refl
put_append false x xs ys = refl

module _ (p : ℕ → Bool) where
  keep_more : (n : ℕ) (f : ℕ → ℕ) → keep p (tabulate (suc n) f) ≡ keep p (tabulate n f) ++ put (p (f n)) (f n) []
  keep_more zero f = refl
  keep_more (suc n) f = ap (put (p (f 0)) (f 0)) (keep_more n (λ k. f (suc k))) ∙ put_append (p (f 0)) (f 0) (keep p (tabulate n (λ k. f (suc k)))) _

  -- those below n
  abbrev pub kept_below : ℕ → List ℕ
  kept_below n = keep p (tabulate n (λ r. r))

  below_next : (row : ℕ) (b : Bool) → p row ≡ b → kept_below (row + 1) ≡ kept_below row ++ put b row []
  below_next row b e = rw (add-one row) (keep_more row (λ r. r) ∙ ap (λ (b : Bool). kept_below row ++ put b row []) e)

  -- the first k elements of kept are those
  pub record Kept (kept : List ℕ) (k row : ℕ) : Type 0 where
    pub size : length kept ≡ most_rows
    pub few : k ≤ row
    pub rows : take k kept ≡ kept_below row
    pub count : k ≡ length (kept_below row)

  module _ (kept : List ℕ) (k row : ℕ) (h : Kept kept k row) (room : row < most_rows) where
    stored : length (set kept k row) ≡ most_rows
    stored = simp length-set h.size

    pub kept_yes : (next : ℕ) → p row ≡ true → next ≡ k + 1 → Kept (set kept k row) next (row + 1)
    kept_yes next e n =
        let b = below_next row true e in
        let t : take (k + 1) (set kept k row) ≡ take k kept ++ (row ∷ []) = rw (add-one k) (take-suc-set kept k row (omega arith)) in
        let few = h.few in
        record {
          size = stored;
          few = omega arith;
          rows = ap (λ (j : ℕ). take j (set kept k row)) n ∙ t ∙ ap (λ (l : List ℕ). l ++ (row ∷ [])) h.rows ∙ sym b;
          count = n ∙ ap (λ (j : ℕ). j + 1) h.count ∙ sym (ap length b ∙ length-append (kept_below row) (row ∷ []));
        }

    pub kept_no : (next : ℕ) → p row ≡ false → next ≡ k → Kept (set kept k row) next (row + 1)
    kept_no next e n =
        let b : kept_below (row + 1) ≡ kept_below row = below_next row false e ∙ append-nil (kept_below row) in
        let few = h.few in
        record {
          size = stored;
          few = omega arith;
          rows = ap (λ (j : ℕ). take j (set kept k row)) n ∙ take-set-le k kept k row (omega arith) ∙ h.rows ∙ sym b;
          count = n ∙ h.count ∙ sym (ap length b);
        }

  -- all rows of table 1 are passed
  pub kept_all : (file kept : List ℕ) (k row n : ℕ) → Kept kept k row → n ≡ row_count file 1 → row ≤ n → n ≤ row
      → (take k kept ≡ rows_where file p) × (k ≡ length (rows_where file p))
  unfolding rows_where
  kept_all file kept k row n h e l m =
      let z : row ≡ row_count file 1 = omega arith in
      (h.rows ∙ ap kept_below z, h.count ∙ ap (λ (n : ℕ). length (kept_below n)) z)
