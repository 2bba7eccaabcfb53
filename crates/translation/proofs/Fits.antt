-- The card of a rule that fits its columns fits them too.
use mathlib.Core.Path.{◌≡◌, refl, ap₂}
use mathlib.Core.Bool.{◌&&◌}
use mathlib.Core.List.{List, [], ◌∷◌, ◌++◌}
use Prim.Native.Nat.{ℕ, ◌+◌, ◌<◌, ◌≤◌}
use native.Mathlib.Omega.{arith}
use lib.Dec.{T, le→leb}
use lib.Ieee.Fits.{and_i}
use lib.ListN.{length, length-append, get_or-append}
use Rattle.tables.specs.Bytes.{between}
use Rattle.tables.specs.Values.{most_levels, value_fits}
use Rattle.tables.specs.declared.Value.{Value}
use Rattle.tables.specs.declared.Value.TheVariants.{Constant, Column}
use Rattle.tables.specs.declared.Connective.TheVariants.{And, Or}
use Rattle.tables.specs.declared.Quantifier.{Quantifier}
use Rattle.tables.specs.declared.Quantifier.TheVariants.{Some, All}
use Rattle.card.specs.Card.{most_row_entries, Card, LeafEntry, PairEntry, RowEntry, row_entry_fits, card_fits}
use Rattle.card.specs.declared.Leaf.TheVariants.{CompareLeaf, MarkLeaf}
use Rattle.card.specs.declared.Interpretation.{Interpretation}
use Rattle.card.specs.declared.Interpretation.TheVariants.{AsNo, AsYes}
use Rattle.rule.specs.declared.Truth.TheVariants.{False, Unknown, True}
use Rattle.rule.specs.Condition.{Atom, Join, Apply, Exists, Listed, Rule, letters, froms_deep}
use Rattle.rule.specs.declared.Test.TheVariants.{Compare, Mark}
use Rattle.rule.specs.declared.Unary.{Unary}
use Rattle.rule.specs.declared.Unary.TheVariants.{Not, Is, IsNot}
use Rattle.rule.specs.declared.FromClause.{FromClause}
use Rattle.rule.specs.declared.FromClause.TheVariants.{Single}
use Rattle.rule.specs.Names.{within, ValueFits, FromFits, Fits}
use Rattle.rule.proofs.Fits.{value_tested}
use Rattle.translation.specs.Translation.{other, negated, rows_card, unknown_card, unary_card, card_of}

module _ (columns : List ℕ) where
  negated_fits : (c : Card) (levels : List ℕ) → card_fits columns levels (negated c) ≡ card_fits columns levels c
  unfolding card_fits negated
  negated_fits (LeafEntry (CompareLeaf i op l r)) levels = refl
  negated_fits (LeafEntry (MarkLeaf m l)) levels = refl
  negated_fits (PairEntry j a b) levels = ap₂ ◌&&◌ (negated_fits a levels) (negated_fits b levels)
  negated_fits (RowEntry q t c) levels = simp (negated_fits c)

  -- what fits outside a FROM fits inside
  inside : (levels : List ℕ) (f : FromClause ℕ) (v : Value) → ValueFits columns levels v → ValueFits columns (within levels f) v
  inside levels f (Constant k) fits = fits
  inside levels (Single t) (Column l c) fits =
      let far : l < length (levels ++ (t ∷ [])) = simp length-append (omega (arith, fits.0)) in
      (far, rw (get_or-append levels (t ∷ []) 0 l fits.0) fits.1)

  -- the row entries of a FROM fit around what fits inside it
  rows_fit : (q : Quantifier) (levels : List ℕ) (f : FromClause ℕ) (c : Card) → FromFits columns f → length levels + letters f ≤ most_levels
      → T (card_fits columns (within levels f) c) → T (card_fits columns levels (rows_card q f c))
  unfolding card_fits
  rows_fit q levels (Single t) c fits few inner =
      and_i (row_entry_fits columns levels t) _ (and_i (between 1 (length columns) t) _ fits (le→leb (length levels) most_row_entries (omega arith))) inner

  longer : (levels : List ℕ) (f : FromClause ℕ) (n : ℕ) → length levels + (letters f + n) ≤ most_levels → length (within levels f) + n ≤ most_levels
  longer levels (Single t) n h = simp length-append (omega arith)

  unknown_fits : (levels : List ℕ) (c : Interpretation → Card) → ((i : Interpretation) → T (card_fits columns levels (c i))) → T (card_fits columns levels (unknown_card c))
  unfolding card_fits
  unknown_fits levels c fits = and_i (card_fits columns levels (negated (c AsNo))) _ (rw negated_fits (fits AsNo)) (fits AsYes)

  unary_fits : (u : Unary) (i : Interpretation) (levels : List ℕ) (c : Interpretation → Card)
      → ((i : Interpretation) → T (card_fits columns levels (c i))) → T (card_fits columns levels (unary_card u i c))
  unary_fits Not i levels c fits = rw negated_fits (fits (other i))
  unary_fits (Is True) i levels c fits = fits _
  unary_fits (IsNot True) i levels c fits = rw negated_fits (fits _)
  unary_fits (Is False) i levels c fits = rw negated_fits (fits _)
  unary_fits (IsNot False) i levels c fits = fits _
  unary_fits (Is Unknown) i levels c fits = unknown_fits levels c fits
  unary_fits (IsNot Unknown) i levels c fits = rw negated_fits (unknown_fits levels c fits)

  pub card_fits_lem : (r : Rule) (i : Interpretation) (levels : List ℕ) → length levels + froms_deep r ≤ most_levels → Fits columns levels r → T (card_fits columns levels (card_of i r))
  unfolding card_fits card_of Fits froms_deep
  card_fits_lem (Atom (Compare op l r)) i levels h f = and_i (value_fits columns levels l) _ (value_tested columns levels l f.0) (value_tested columns levels r f.1)
  card_fits_lem (Atom (Mark m l)) i levels h f = value_tested columns levels l f
  card_fits_lem (Join j a b) i levels h f =
      and_i (card_fits columns levels (card_of i a)) _ (card_fits_lem a i levels (omega arith) f.0) (card_fits_lem b i levels (omega arith) f.1)
  card_fits_lem (Apply u a) i levels h f = unary_fits u i levels (λ i'. card_of i' a) (λ i'. card_fits_lem a i' levels h f)
  card_fits_lem (Exists g w) i levels h f =
      rows_fit Some levels g (card_of AsNo w) f.0 (omega arith) (card_fits_lem w AsNo (within levels g) (longer levels g (froms_deep w) h) f.1)
  card_fits_lem (Listed q op l s g w) i levels h f =
      let inner = card_fits_lem w AsNo (within levels g) (longer levels g (froms_deep w) h) f.3 in
      let compared = and_i (value_fits columns (within levels g) l) _ (value_tested columns (within levels g) l (inside levels g l f.1)) (value_tested columns (within levels g) s f.2) in
      listed q inner compared
    where
      leaf : Card
      leaf = LeafEntry (CompareLeaf i op l s)

      listed : (q : Quantifier) → T (card_fits columns (within levels g) (card_of AsNo w)) → T (card_fits columns (within levels g) leaf) → T (card_fits columns levels (card_of i (Listed q op l s g w)))
      listed Some inner compared =
          rows_fit Some levels g (PairEntry And (card_of AsNo w) leaf) f.0 (omega arith) (and_i (card_fits columns (within levels g) (card_of AsNo w)) _ inner compared)
      listed All inner compared =
          rows_fit All levels g (PairEntry Or (negated (card_of AsNo w)) leaf) f.0 (omega arith)
          (and_i (card_fits columns (within levels g) (negated (card_of AsNo w))) _ (rw negated_fits inner) compared)
