-- What looking at a value asks and sees, and what a test comes to.
use mathlib.Core.Path.{◌≡◌}
use mathlib.Core.List.{List}
use Prim.Native.Nat.{ℕ}
use Rattle.tables.specs.Tables.{columns_of}
use Rattle.tables.specs.Values.{cell_of, mark_passes}
use Rattle.tables.specs.declared.Value.{Value}
use Rattle.tables.specs.declared.Comparison.{Comparison}
use Rattle.tables.specs.declared.MarkTest.{MarkTest}
use Rattle.cells.specs.Code.{seen_cell}
use Rattle.cells.specs.declared.Seen.{Seen}
use Rattle.values.specs.Code.{ValueReady, Sees}
use Rattle.rule.specs.declared.Test.{Test}
use Rattle.rule.specs.declared.Test.TheVariants.{Compare, Mark}
use Rattle.rule.specs.Names.{ValueFits, TestFits}
use Rattle.rule.specs.Truth.{truth}
use Rattle.rule.specs.declared.Truth.{Truth}
use Rattle.rule.specs.Meaning.{compare3, test3}
use Rattle.rule.proofs.Fits.{value_tested}
use Rattle.evaluator.specs.Code.{TestReady}
use Rattle.evaluator.specs.declared.Evaluation.{Evaluation}

module _ {e : Evaluation} {w : List ℕ} {test : Test Value} (h : TestReady e w test) where
  module _ (v : Value) (fits : ValueFits (columns_of e.file.now) h.levels v) where
    value_ready : ValueReady e.layout.now e.file.now w v
    value_ready = record { levels = h.levels; env = h.env; readable = h.readable; fits = value_tested (columns_of e.file.now) h.levels v fits }

    value_seen : (x : Seen) → Sees e.layout.now e.file.now w v x → seen_cell x ≡ cell_of h.env v
    unfolding value_ready
    value_seen x sees = sees value_ready

  module _ {op : Comparison} {l r : Value} (is : test ≡ Compare op l r) where
    pub compare_evaluated : (x y : Seen) → Sees e.layout.now e.file.now w l x → Sees e.layout.now e.file.now w r y
        → {a : Truth} → a ≡ compare3 op (seen_cell x) (seen_cell y) → a ≡ test3 h.env test
    compare_evaluated x y left right told =
        let fits : TestFits (columns_of e.file.now) h.levels (Compare op l r) = rw is at h.fits in
        rw (is, ← value_seen l fits.0 x left, ← value_seen r fits.1 y right) told

  module _ {m : MarkTest} {v : Value} (is : test ≡ Mark m v) where
    pub mark_evaluated : (x : Seen) → Sees e.layout.now e.file.now w v x → {a : Truth} → a ≡ truth (mark_passes m (seen_cell x)) → a ≡ test3 h.env test
    mark_evaluated x sees told =
        let fits : TestFits (columns_of e.file.now) h.levels (Mark m v) = rw is at h.fits in
        rw (is, ← value_seen v fits x sees) told
