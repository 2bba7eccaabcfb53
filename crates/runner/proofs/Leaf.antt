-- What an entry without inner ones asks for and answers.
use mathlib.Core.Path.{◌≡◌, refl, ap, ◌∙◌}
use mathlib.Core.Bool.{Bool, true, false, not, beq}
use mathlib.Core.List.{List}
use Prim.Native.Nat.{ℕ}
use lib.Dec.{leb}
use lib.Ieee.Fits.{and_l, and_r}
use Rattle.tables.specs.Tables.{columns_of}
use Rattle.tables.specs.Values.{holds, by_numbers, mark_passes, value_fits}
use Rattle.tables.specs.declared.Comparison.{Comparison}
use Rattle.tables.specs.declared.MarkTest.{MarkTest}
use Rattle.tables.specs.declared.MarkTest.TheVariants.{Null, NotNull, IsDeclined, NotDeclined}
use Rattle.tables.specs.declared.Value.{Value}
use Rattle.cells.specs.Code.{seen_cell}
use Rattle.cells.specs.declared.Seen.{Seen}
use Rattle.card.specs.Card.{unknown_says, leaf_says}
use Rattle.card.specs.declared.Leaf.{Leaf}
use Rattle.card.specs.declared.Leaf.TheVariants.{CompareLeaf, MarkLeaf}
use Rattle.card.specs.declared.Interpretation.{Interpretation}
use Rattle.values.specs.Code.{ValueReady, Sees}
use Rattle.runner.specs.Code.{lowest_mark, asks_marked, LeafReady}
use Rattle.runner.specs.declared.Run.{Run}
use Rattle.values.proofs.Numbers.{seen_marked, seen_declined}

-- what a test by the mark says, by what it asks for
beq_true : (a : Bool) → beq a true ≡ a
beq_true true = refl
beq_true false = refl

beq_false : (a : Bool) → beq a false ≡ not a
beq_false true = refl
beq_false false = refl

marks_agree : (m : MarkTest) (x : Seen) → beq (leb (lowest_mark m) x.mark) (asks_marked m) ≡ mark_passes m (seen_cell x)
marks_agree Null x = beq_true (leb 1 x.mark) ∙ seen_marked x
marks_agree NotNull x = beq_false (leb 1 x.mark) ∙ ap not (seen_marked x)
marks_agree IsDeclined x = beq_true (leb 2 x.mark) ∙ seen_declined x
marks_agree NotDeclined x = beq_false (leb 2 x.mark) ∙ ap not (seen_declined x)

module _ {run : Run} {w : List ℕ} {leaf : Leaf} (h : LeafReady run w leaf) where
  module _ {u : Interpretation} {op : Comparison} {l r : Value} (is : leaf ≡ CompareLeaf u op l r) where
    abbrev left_ready : ValueReady run.layout.now run.file.now w l
    left_ready = record { levels = h.levels; env = h.env; readable = h.readable; fits = and_l (value_fits (columns_of run.file.now) h.levels l) _ (rw is at h.fits) }

    abbrev right_ready : ValueReady run.layout.now run.file.now w r
    right_ready = record { levels = h.levels; env = h.env; readable = h.readable; fits = and_r (value_fits (columns_of run.file.now) h.levels l) _ (rw is at h.fits) }

    pub compare_answer : (x y : Seen) → Sees run.layout.now run.file.now w l x → Sees run.layout.now run.file.now w r y
        → {unknown a : Bool} → unknown ≡ unknown_says u → a ≡ by_numbers unknown (holds op) (seen_cell x) (seen_cell y) → a ≡ leaf_says h.env leaf
    compare_answer x y left right tells says = rw (is, ← left left_ready, ← right right_ready, ← tells) says

  module _ {m : MarkTest} {v : Value} (is : leaf ≡ MarkLeaf m v) where
    abbrev marked_ready : ValueReady run.layout.now run.file.now w v
    marked_ready = record { levels = h.levels; env = h.env; readable = h.readable; fits = rw is at h.fits }

    pub mark_answer : (x : Seen) → Sees run.layout.now run.file.now w v x → {lowest : ℕ} {b : Bool} → lowest ≡ lowest_mark m → b ≡ asks_marked m
        → beq (leb lowest x.mark) b ≡ leaf_says h.env leaf
    mark_answer x seen low asks = rw (is, low, asks) (marks_agree m x ∙ ap (mark_passes m) (seen marked_ready))
