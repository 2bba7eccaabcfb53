-- The rule that a condition stands for names existing tables, columns and levels alone, its constants have 32 bits, and it has the condition's size.
use mathlib.Core.Path.{◌≡◌, refl, ap, ap₂, ◌∙◌}
use mathlib.Core.Bool.{Bool, true, false}
use mathlib.Core.List.{List, [], ◌∷◌, ◌++◌}
use mathlib.Core.Option.{some}
use Prim.Native.Nat.{ℕ, ◌<◌, ◌+◌, max}
use native.Mathlib.Omega.{arith}
use lib.Dec.{T, eqb, ltb, lt→ltb}
use lib.Ieee.Fits.{and_i}
use lib.IntN.{ℤ, pos, negsuc}
use lib.ListN.{length, get_or, length-append, get_or-append}
use lib.Seq.{get_or-append_seam}
use Rattle.tables.specs.Lists.{numbered, only}
use Rattle.tables.specs.Bytes.{between}
use Rattle.tables.specs.Values.{judged_levels, value_fits}
use Rattle.tables.specs.declared.Value.{Value}
use Rattle.tables.specs.declared.Value.TheVariants.{Constant, Column}
use Rattle.rule.specs.Condition.{Atom, Join, Apply, Exists, Listed, WrittenCondition, Rule, parts, letters, froms_deep}
use Rattle.rule.specs.declared.Test.{Test}
use Rattle.rule.specs.declared.Test.TheVariants.{Compare, Mark}
use Rattle.rule.specs.declared.FromClause.{FromClause}
use Rattle.rule.specs.declared.FromClause.TheVariants.{Single}
use Rattle.rule.specs.declared.WrittenValue.{WrittenValue}
use Rattle.rule.specs.declared.WrittenValue.TheVariants.{Plain, Named}
use Rattle.rule.specs.declared.Source.{Source}
use Rattle.rule.specs.declared.Source.TheVariants.{Over}
use Rattle.rule.specs.Names.{Binding, Scope, outermost, bound, nearest, existing, value_in, test_in, from_in, rule_in, within, ValueFits, TestFits, FromFits, Fits, ValueScoped, Scoped}
use Rattle.rule.proofs.Every.{Every, missing, there, found, every_bind}
use Rattle.rule.specs.Throughout.{TestThroughout, Throughout}
use Rattle.rule.proofs.Constants.{WrittenFits, Constants}

-- a value that exists passes the test which a card's value has to pass
pub value_tested : (columns levels : List ℕ) (v : Value) → ValueFits columns levels v → T (value_fits columns levels v)
value_tested columns levels (Constant k) f = f
value_tested columns levels (Column l c) f = and_i (ltb l (length levels)) _ (lt→ltb l (length levels) f.0) f.1

-- a binding's level has the binding's table
abbrev InPlace : List ℕ → Binding → Type 0
InPlace levels b = (b.level < length levels) × (get_or levels b.level 0 ≡ b.table)

-- and so for every binding of a scope
data Placed (levels : List ℕ) : Scope → Type 0 where
  none_placed : Placed levels []
  one_placed : {b : Binding} {scope : Scope} → InPlace levels b → Placed levels scope → Placed levels (b ∷ scope)

deeper : {levels : List ℕ} {scope : Scope} (t : ℕ) → Placed levels scope → Placed (levels ++ (t ∷ [])) scope
deeper t none_placed = none_placed
deeper {levels} t (one_placed {b = b} p r) =
    let far : b.level < length (levels ++ (t ∷ [])) = simp length-append (omega (arith, p.0)) in
    let q : InPlace (levels ++ (t ∷ [])) b = (far, get_or-append levels (t ∷ []) 0 b.level p.0 ∙ p.1) in
    one_placed q (deeper t r)

-- one more FROM
bound_placed : {levels : List ℕ} {scope : Scope} (x t : ℕ) → length scope ≡ length levels → Placed levels scope → Placed (levels ++ (t ∷ [])) (bound scope x t)
bound_placed {levels} {scope} x t e p =
    let far : length scope < length (levels ++ (t ∷ [])) = simp length-append (omega arith) in
    let q : InPlace (levels ++ (t ∷ [])) (record { letter = x; level = length scope; table = t }) = (far, ap (λ (n : ℕ). get_or (levels ++ (t ∷ [])) n 0) e ∙ get_or-append_seam levels t [] 0) in
    one_placed q (deeper t p)

-- one level more for each letter of a FROM
pub within_length : (levels : List ℕ) (n : ℕ) (f : FromClause ℕ) → n ≡ length levels → letters f + n ≡ length (within levels f)
within_length levels n (Single t) e = simp length-append (omega arith)

nearest_placed : {levels : List ℕ} {scope : Scope} → Placed levels scope → (x : ℕ) → Every (InPlace levels) (nearest scope x)
unfolding nearest
nearest_placed none_placed x = missing
nearest_placed {levels} (one_placed {b = b} {scope = scope} h r) x = go (eqb b.letter x) (nearest_placed r x)
  where
    go : (t : Bool) → Every (InPlace levels) (nearest scope x) → Every (InPlace levels) (elim t [ true ↦ some b | false ↦ nearest scope x ])
    go true e = there h
    go false e = e

existing_fits : (most : ℕ) (z : ℤ) → Every (λ n. T (between 1 most n)) (existing most z)
existing_fits most (pos n) = go (between 1 most n) refl
  where
    go : (b : Bool) → between 1 most n ≡ b → Every (λ n. T (between 1 most n)) (only b n)
    go true e = let f : T (between 1 most n) = rw e tt in there f
    go false e = missing
existing_fits most (negsuc n) = missing

module _ (columns : List ℕ) where
  value_fits_lem : {levels : List ℕ} {scope : Scope} → Placed levels scope → (v : WrittenValue) → WrittenFits v → Every (ValueFits columns levels) (value_in columns scope v)
  unfolding value_in
  value_fits_lem p (Plain k) f = there f
  value_fits_lem {levels} p (Named x m) f =
      every_bind (InPlace levels) (ValueFits columns levels) _ (nearest_placed p x) (λ b h.
      every_bind (λ n. T (between 1 (numbered columns b.table 0) n)) (ValueFits columns levels) _ (existing_fits (numbered columns b.table 0) m) (λ c g.
      let q : ValueFits columns levels (Column b.level c) = (h.0, rw h.1 g) in there q))

  test_fits : {levels : List ℕ} {scope : Scope} → Placed levels scope → (x : Test WrittenValue) → TestThroughout WrittenFits x → Every (TestFits columns levels) (test_in columns scope x)
  unfolding test_in
  test_fits p (Compare op l r) f =
      every_bind (ValueFits columns _) (TestFits columns _) _ (value_fits_lem p l f.0) (λ x h. every_bind (ValueFits columns _) (TestFits columns _) _ (value_fits_lem p r f.1) (λ y g. there (h, g)))
  test_fits p (Mark m l) f = every_bind (ValueFits columns _) (TestFits columns _) _ (value_fits_lem p l f) (λ x h. there h)

  -- a FROM's tables exist, and its letters are bound at the next levels
  record Opened (levels : List ℕ) (f : FromClause Source) (g : FromClause ℕ × Scope) : Type 0 where
    from_fits : FromFits columns g.0
    same_letters : letters g.0 ≡ letters f
    same_levels : length g.1 ≡ length (within levels g.0)
    placed : Placed (within levels g.0) g.1

  opened : {levels : List ℕ} {scope : Scope} → length scope ≡ length levels → Placed levels scope → (f : FromClause Source) → Every (Opened levels f) (from_in columns scope f)
  unfolding from_in
  opened {levels} {scope} e p (Single (Over n x)) =
      every_bind (λ t. T (between 1 (length columns) t)) (Opened levels (Single (Over n x))) _ (existing_fits (length columns) n) (λ t g.
      there (record { from_fits = g; same_letters = refl; same_levels = simp length-append (omega arith); placed = bound_placed x t e p }))

  -- the rule of a condition fits, with as many parts and as many FROMs around one another
  pub record Resolved (levels : List ℕ) (a : WrittenCondition) (r : Rule) : Type 0 where
    pub fits : Fits columns levels r
    pub same_parts : parts r ≡ parts a
    pub same_depth : froms_deep r ≡ froms_deep a

  rule_fits : {levels : List ℕ} {scope : Scope} → length scope ≡ length levels → Placed levels scope → (a : WrittenCondition) → Constants a → Every (Resolved levels a) (rule_in columns scope a)
  unfolding rule_in Fits Throughout parts froms_deep
  rule_fits e p (Atom x) f = every_bind (TestFits columns _) (Resolved _ (Atom x)) _ (test_fits p x f) (λ y h. there (record { fits = h; same_parts = refl; same_depth = refl }))
  rule_fits e p (Join j a b) f =
      every_bind (Resolved _ a) (Resolved _ (Join j a b)) _ (rule_fits e p a f.0) (λ x h.
      every_bind (Resolved _ b) (Resolved _ (Join j a b)) _ (rule_fits e p b f.1) (λ y g.
      there (record { fits = (h.fits, g.fits); same_parts = ap₂ (λ m n. 1 + m + n) h.same_parts g.same_parts; same_depth = ap₂ max h.same_depth g.same_depth })))
  rule_fits e p (Apply u a) f =
      every_bind (Resolved _ a) (Resolved _ (Apply u a)) _ (rule_fits e p a f) (λ x h. there (record { fits = h.fits; same_parts = ap (1 +◌) h.same_parts; same_depth = h.same_depth }))
  rule_fits {levels} {scope} e p (Exists f w) c =
      every_bind (Opened levels f) (Resolved levels (Exists f w)) _ (opened e p f) (λ g o.
      every_bind (Resolved (within levels g.0) w) (Resolved levels (Exists f w)) _ (rule_fits o.same_levels o.placed w c.1) (λ w' h.
      there (record { fits = (o.from_fits, h.fits); same_parts = ap (1 +◌) h.same_parts; same_depth = ap₂ ◌+◌ o.same_letters h.same_depth })))
  rule_fits {levels} {scope} e p (Listed q op l s f w) c =
      let a = Listed q op l s f w in
      every_bind (Opened levels f) (Resolved levels a) _ (opened e p f) (λ g o.
      every_bind (ValueFits columns levels) (Resolved levels a) _ (value_fits_lem p l c.0) (λ l' hl.
      every_bind (ValueFits columns (within levels g.0)) (Resolved levels a) _ (value_fits_lem o.placed s c.1) (λ s' hs.
      every_bind (Resolved (within levels g.0) w) (Resolved levels a) _ (rule_fits o.same_levels o.placed w c.3) (λ w' h.
      there (record { fits = (o.from_fits, hl, hs, h.fits); same_parts = ap (1 +◌) h.same_parts; same_depth = ap₂ ◌+◌ o.same_letters h.same_depth })))))

  -- a whole rule
  pub names_fit : (a : WrittenCondition) {r : Rule} → Constants a → rule_in columns outermost a ≡ some r → Resolved judged_levels a r
  names_fit a f e =
      let b : InPlace judged_levels (record { letter = 109; level = 0; table = 1 }) = (omega arith, refl) in
      found (rw e at (rule_fits {levels = judged_levels} {scope = outermost} refl (one_placed b none_placed) a f))

  -- the levels that it names exist
  value_scoped : (n : ℕ) (levels : List ℕ) → n ≡ length levels → (v : Value) → ValueFits columns levels v → ValueScoped n v
  value_scoped n levels e (Constant k) f = tt
  value_scoped n levels e (Column l c) f = omega (arith, f.0)

  pub fits_scoped : (n : ℕ) (levels : List ℕ) → n ≡ length levels → (r : Rule) → Fits columns levels r → Scoped n r
  unfolding Fits Scoped
  fits_scoped n levels e (Atom (Compare op l r)) f = (value_scoped n levels e l f.0, value_scoped n levels e r f.1)
  fits_scoped n levels e (Atom (Mark m l)) f = value_scoped n levels e l f
  fits_scoped n levels e (Join j a b) f = (fits_scoped n levels e a f.0, fits_scoped n levels e b f.1)
  fits_scoped n levels e (Apply u a) f = fits_scoped n levels e a f
  fits_scoped n levels e (Exists g w) f = fits_scoped (letters g + n) (within levels g) (within_length levels n g e) w f.1
  fits_scoped n levels e (Listed q op l s g w) f = (
    value_scoped n levels e l f.1,
    value_scoped (letters g + n) (within levels g) (within_length levels n g e) s f.2,
    fits_scoped (letters g + n) (within levels g) (within_length levels n g e) w f.3,
  )
