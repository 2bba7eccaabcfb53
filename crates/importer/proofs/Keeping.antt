-- Cells that are kept in two arrays, one more and some more.
use mathlib.Core.Path.{◌≡◌, refl, sym, subst, ◌∙◌}
use mathlib.Core.List.{List, [], ◌++◌, append_assoc, append-nil}
use Prim.Native.Nat.{ℕ, ◌+◌}
use native.Mathlib.Omega.{arith}
use lib.ListN.{length, length-append}
use Rattle.files.specs.Files.{RawCell}
use Rattle.importer.specs.Code.{Room, Kept, MoreKept}

-- nothing is kept at first
pub kept_none : (values : List (List ℕ)) (marks : List ℕ) → Kept values marks []
kept_none values marks = record { values_kept = refl; marks_kept = refl }

module _ (values : List (List ℕ)) (marks : List ℕ) (room : Room values marks) (k : ℕ) where
  pub more_none : MoreKept values marks k [] values marks
  more_none =
      record { room = room; long = refl; kept = λ before n h kept. subst (Kept values marks) (sym (append-nil before)) kept }

-- some cells, and then more
pub more_kept : (values : List (List ℕ)) (marks : List ℕ) (k j : ℕ) (xs ys : List RawCell)
    (values' : List (List ℕ)) (marks' : List ℕ) (values'' : List (List ℕ)) (marks'' : List ℕ)
    → MoreKept values marks k xs values' marks' → j ≡ k + length xs → MoreKept values' marks' j ys values'' marks'' → MoreKept values marks k (xs ++ ys) values'' marks''
more_kept values marks k j xs ys values' marks' values'' marks'' m e n =
    let long = m.long in
    record {
      room = n.room;
      long = n.long ∙ long;
      kept = λ before size h kept.
          let sum = length-append xs ys in
          subst (Kept values'' marks'') (append_assoc before xs ys)
          (n.kept (before ++ xs) (omega (arith, length-append before xs)) (omega arith) (m.kept before size (omega arith) kept));
    }
