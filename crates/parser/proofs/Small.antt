-- The parts of a rule that fits its tables are small enough to be published.
use mathlib.Core.Path.{◌≡◌, refl}
use mathlib.Core.Bool.{Bool, true, false}
use mathlib.Core.List.{List, [], ◌∷◌, ◌++◌}
use Prim.Native.Nat.{ℕ, zero, suc, ◌+◌, ◌<◌}
use native.Mathlib.Omega.{arith}
use borrow.Author.Tests.{ltb-true, ltb-false}
use lib.Dec.{ltb}
use lib.ListN.{length, get_or, get_or-eq_default}
use Rattle.tables.specs.Lists.{numbered}
use Rattle.tables.specs.Tables.{table_count, columns_of}
use Rattle.tables.specs.declared.Value.{Value}
use Rattle.tables.specs.declared.Value.TheVariants.{Constant, Column}
use Rattle.tables.proofs.Tests.{bounds}
use Rattle.tables.proofs.Sizes.{columns_count, column_at}
use Rattle.cells.specs.Code.{Sized}
use Rattle.rule.specs.Condition.{Atom, Join, Apply, Exists, Listed, Rule, parts}
use Rattle.rule.specs.Names.{within, ValueFits, TestFits, Fits}
use Rattle.rule.specs.Throughout.{TestThroughout}
use Rattle.rule.specs.declared.Test.{Test}
use Rattle.rule.specs.declared.Test.TheVariants.{Compare, Mark}
use Rattle.names.specs.Code.{placed_from}
use Rattle.names.specs.declared.RulePart.{RulePart}
use Rattle.parts.specs.Parts.{SmallValue, SmallPart}

abbrev pub EachSmall : List RulePart → Type 0
EachSmall [] = Unit {0}
EachSmall (p ∷ ps) = SmallPart p × EachSmall ps

each_append : (ps qs : List RulePart) → EachSmall ps → EachSmall qs → EachSmall (ps ++ qs)
each_append [] qs s t = t
each_append (p ∷ ps) qs s t = (s.0, each_append ps qs s.1 t)

pub each_at : (ps : List RulePart) → EachSmall ps → (i : ℕ) → i < length ps → (d : RulePart) → SmallPart (get_or ps i d)
each_at [] s i h d = absurd (omega arith)
each_at (p ∷ ps) s zero h d = s.0
each_at (p ∷ ps) s (suc i) h d = each_at ps s.1 i (omega arith) d

-- tables whose columns a byte numbers
module _ (columns : List ℕ) (narrow : (t : ℕ) → numbered columns t 0 < 256) where
  value_small : (levels : List ℕ) (v : Value) → ValueFits columns levels v → SmallValue v
  value_small levels (Constant k) f = tt
  value_small levels (Column l c) f = omega (arith, (bounds 1 (numbered columns (get_or levels l 0) 0) c f.1).1, narrow (get_or levels l 0))

  test_small : (levels : List ℕ) (x : Test Value) → TestFits columns levels x → TestThroughout SmallValue x
  test_small levels (Compare op l r) f = (value_small levels l f.0, value_small levels r f.1)
  test_small levels (Mark m l) f = value_small levels l f

  -- from part k on
  pub rule_small : (r : Rule) (k : ℕ) (levels : List ℕ) → k + parts r < 256 → Fits columns levels r → EachSmall (placed_from k r)
  unfolding placed_from parts Fits
  rule_small (Atom x) k levels h c = ((omega arith, test_small levels x c), tt)
  rule_small (Join j a b) k levels h c = (
    (omega arith, tt),
    each_append (placed_from (k + 1) a) _ (rule_small a (k + 1) levels (omega arith) c.0) (rule_small b (k + 1 + parts a) levels (omega arith) c.1),
  )
  rule_small (Apply u a) k levels h c = ((omega arith, tt), rule_small a (k + 1) levels (omega arith) c)
  rule_small (Exists f w) k levels h c = ((omega arith, tt), rule_small w (k + 1) (within levels f) (omega arith) c.1)
  rule_small (Listed q op x y f w) k levels h c =
      ((omega arith, (value_small levels x c.1, value_small (within levels f) y c.2)), rule_small w (k + 1) (within levels f) (omega arith) c.3)

-- a valid file's tables are so
pub few_columns : (file : List ℕ) → Sized file → (t : ℕ) → numbered (columns_of file) t 0 < 256
few_columns file sized zero = omega arith
few_columns file sized (suc j) = go (ltb j (table_count file)) refl
  where
    go : (b : Bool) → ltb j (table_count file) ≡ b → get_or (columns_of file) j 0 < 256
    go true e = let l = ltb-true j (table_count file) e in omega (arith, column_at file j l, (sized.each j l).columns_high)
    go false e =
        let l = ltb-false j (table_count file) e in
        let z = get_or-eq_default (columns_of file) 0 {n = j} (omega (arith, columns_count file)) in
        omega arith
