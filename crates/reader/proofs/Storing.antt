-- The list while the parts are written to it: after i turns its first i elements are the parts, and past them it is as it was.
use Rattle.std.proofs.Common.{◌≡◌, ℕ, ◌+◌, ◌<◌, ◌≤◌, List, [], ◌∷◌, ◌++◌, length, get_or, map, take, drop, set, sym, ap, ◌∙◌, arith}
use Rattle.std.proofs.lemmas.List.{map-append, length-map, length-take-le}
use native.Mathlib.Numerals.{add-one}
use lib.Seq.{take-suc}
use Rattle.tables.specs.Lists.{placed}
use Rattle.tables.proofs.Placed.{placed_length, placed_start, placed_one, placed_next}
use Rattle.rule.specs.declared.Part.{Part}
use Rattle.names.specs.Code.{published}
use Rattle.names.specs.declared.RulePart.{RulePart}
use Rattle.parts.specs.Parts.{parts_in}

module _ (parts : List RulePart) (old : List Part) where
  abbrev pub stored_list : ℕ → List Part
  stored_list i = parts_in parts i ++ drop i old

  module _ (i : ℕ) (room : i ≤ length parts) where
    count : length (parts_in parts i) ≡ i
    count = length-map (take i parts) published ∙ length-take-le i parts room

    is_placed : placed old 0 (parts_in parts i) ≡ stored_list i
    is_placed = placed_start old (parts_in parts i) ∙ ap (λ (k : ℕ). parts_in parts i ++ drop k old) count

  -- one more part
  pub stored_next : (i : ℕ) → i < length parts → i < length old → (d : RulePart) → set (stored_list i) i (published (get_or parts i d)) ≡ stored_list (i + 1)
  stored_next i more room d =
      let x = published (get_or parts i d) in
      let z = count i (omega arith) in
      let next : parts_in parts i ++ (x ∷ []) ≡ parts_in parts (i + 1) =
      sym (map-append published (take i parts) (get_or parts i d ∷ [])) ∙ ap (map published) (sym (take-suc parts i d more)) ∙ ap (parts_in parts) (sym (add-one i))
      in
      let long : length (placed old 0 (parts_in parts i)) ≡ length old = placed_length old 0 (parts_in parts i) (omega (arith, z)) in
      ap (λ (l : List Part). set l i x) (sym (is_placed i (omega arith)))
      ∙ placed_one (placed old 0 (parts_in parts i)) i x (omega (arith, long))
      ∙ placed_next old 0 (parts_in parts i) i (x ∷ []) (omega (arith, z)) (omega (arith, z))
      ∙ ap (placed old 0) next
      ∙ is_placed (i + 1) (omega arith)
