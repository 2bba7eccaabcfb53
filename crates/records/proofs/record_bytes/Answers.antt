-- The fields of a record one after another, by what the entry says.
use Rattle.std.proofs.Common.{◌≡◌, refl, ap, ◌∙◌, List, ◌∷◌, [], ◌++◌, ℕ}
use Rattle.tables.specs.Lists.{placed}
use Rattle.tables.specs.Values.{unused_value}
use Rattle.tables.specs.declared.Value.{Value}
use Rattle.tables.specs.declared.Value.TheVariants.{Constant, Column}
use Rattle.card.specs.declared.Head.TheVariants.{LeafHead}
use Rattle.card.specs.Layout.{left_place, right_place, value_bytes}
use Rattle.records.proofs.record_bytes.Goals as goal

-- a record with its end, a number as its comparison, and no values
abbrev without_values : ℕ → ℕ → ℕ → List ℕ
without_values a b n = a ∷ b ∷ 0 ∷ n ∷ 0 ∷ 0 ∷ 0 ∷ 0 ∷ 0 ∷ 0 ∷ 0 ∷ 0 ∷ 0 ∷ 0 ∷ []

left_put : (a b n : ℕ) (l : Value) → placed (without_values a b n) left_place (value_bytes l) ≡ a ∷ b ∷ 0 ∷ n ∷ value_bytes l ++ value_bytes unused_value
unfolding placed
left_put a b n (Constant k) = refl
left_put a b n (Column l c) = refl

right_put : (a b n : ℕ) (l r : Value) → placed (a ∷ b ∷ 0 ∷ n ∷ value_bytes l ++ value_bytes unused_value) right_place (value_bytes r) ≡ a ∷ b ∷ 0 ∷ n ∷ value_bytes l ++ value_bytes r
unfolding placed
right_put a b n (Constant k) (Constant m) = refl
right_put a b n (Constant k) (Column m d) = refl
right_put a b n (Column l c) (Constant m) = refl
right_put a b n (Column l c) (Column m d) = refl

pub returns-in-PairHead : goal.returns-in-PairHead
unfolding placed
returns-in-PairHead c = rw (c.put_bytes.ensures, c.to_le_bytes.ensures, c.in-PairHead.is) refl

pub returns-in-RowHead : goal.returns-in-RowHead
unfolding placed
returns-in-RowHead c = rw (c.put_bytes.ensures, c.to_le_bytes.ensures, c.in-RowHead.is) refl

pub returns-in-LeafHead-CompareLeaf : goal.returns-in-LeafHead-CompareLeaf
unfolding placed
returns-in-LeafHead-CompareLeaf c =
    let x = c.in-LeafHead-CompareLeaf in
    rw (
      c.put_bytes-in-LeafHead-CompareLeaf-2.ensures,
      c.put_bytes-in-LeafHead-CompareLeaf.ensures,
      c.put_bytes.ensures,
      c.to_le_bytes.ensures,
      c.from.ensures,
      c.value_bytes.ensures,
      c.value_bytes-in-LeafHead-CompareLeaf.ensures,
      x.is ∙ ap LeafHead (rw x.is at x.field-0-is),
    )
    (ap (λ y. placed y right_place (value_bytes x.right)) (left_put _ _ _ x.left) ∙ right_put _ _ _ x.left x.right)

pub returns-in-LeafHead-MarkLeaf : goal.returns-in-LeafHead-MarkLeaf
unfolding placed
returns-in-LeafHead-MarkLeaf c =
    let x = c.in-LeafHead-MarkLeaf in
    rw (c.put_bytes-in-LeafHead-MarkLeaf.ensures, c.put_bytes.ensures, c.to_le_bytes.ensures, c.value_bytes-in-LeafHead-MarkLeaf.ensures, x.is ∙ ap LeafHead (rw x.is at x.field-0-is))
    (left_put _ _ _ x.value)
