-- The file of one table in a lent buffer: its number of tables, its sizes, the values and the marks.
use mathlib.Core.Path.{◌≡◌, refl, ap, ◌∙◌}
use mathlib.Core.List.{List, [], ◌∷◌, ◌++◌, flat_map, append_assoc}
use Prim.Native.Nat.{ℕ, ◌+◌, ◌≤◌}
use native.Mathlib.Omega.{arith}
use lib.ListN.{length, set, length-append}
use Rattle.tables.specs.Lists.{placed}
use Rattle.tables.proofs.Placed.{placed_one, placed_next}
use Rattle.files.specs.Files.{size_of, size_bytes, sizes_part}

module _ (out : List ℕ) (columns rows : ℕ) where
  abbrev sizes : List ℕ
  sizes = sizes_part (size_of columns rows ∷ [])

  sizes_length : length sizes ≡ 4
  unfolding sizes_part flat_map
  sizes_length = refl

  module _ (room : 4 ≤ length out) (a : List ℕ) (p : a ≡ placed (set out 0 1) 1 (size_bytes (size_of columns rows))) where
    sizes_stored : a ≡ placed out 0 sizes
    unfolding sizes_part flat_map
    sizes_stored =
        p
        ∙ ap (λ (o : List ℕ). placed o 1 (size_bytes (size_of columns rows))) (placed_one out 0 1 (omega arith))
        ∙ placed_next out 0 (1 ∷ []) 1 (size_bytes (size_of columns rows)) (omega arith) refl

    module _ (values marks : List ℕ) (b : List ℕ) (q : b ≡ placed a 4 values) (wide : 4 + length values ≤ length out) where
      values_stored : b ≡ placed out 0 (sizes ++ values)
      values_stored =
          q
          ∙ ap (λ (o : List ℕ). placed o 4 values) sizes_stored
          ∙ placed_next out 0 sizes 4 values (omega arith) (omega (arith, sizes_length))

      pub table_stored : (d : List ℕ) (k : ℕ) → k ≡ 4 + length values → d ≡ placed b k marks → d ≡ placed out 0 (sizes ++ (values ++ marks))
      table_stored d k e r =
          let s = sizes_length in
          r
          ∙ ap (λ (o : List ℕ). placed o k marks) values_stored
          ∙ placed_next out 0 (sizes ++ values) k marks (omega arith) (omega (arith, length-append sizes values))
          ∙ ap (placed out 0) (append_assoc sizes values marks)
