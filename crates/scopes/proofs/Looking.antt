-- What a letter, a value and a FROM stand for, from what the code finds.
use Rattle.std.proofs.Common.{◌≡◌, ℕ, zero, suc, ◌-◌, ◌<◌, ◌≤◌, List, length, get_or, refl, sym, ap, ◌∙◌, arith}
use Rattle.std.proofs.Math.Option.{Option, none, some}
use mathlib.Core.Logic.{⊎_elim}
use native.Mathlib.Nat.{eq-or-lt_of_le}
use borrow.Author.Tests.{eq-eqb, ne_eqb}
use lib.IntN.{ℤ}
use Rattle.tables.specs.Lists.{numbered, ◌>>=◌}
use Rattle.tables.specs.Tables.{table_count, size_at, columns_of}
use Rattle.tables.specs.declared.Value.TheVariants.{Column}
use Rattle.tables.proofs.Sizes.{columns_count, column_at}
use Rattle.rule.specs.declared.FromClause.{FromClause}
use Rattle.rule.specs.declared.FromClause.TheVariants.{Single}
use Rattle.rule.specs.declared.Source.{Source}
use Rattle.rule.specs.declared.Source.TheVariants.{Over}
use Rattle.rule.specs.declared.WrittenValue.TheVariants.{Named}
use Rattle.rule.specs.Names.{nearest, existing, value_in, from_in}
use Rattle.scopes.specs.Code.{unbound, binding_in, levels_in, scope_in, binding, letter_in, ScopeFits}
use Rattle.scopes.proofs.Scopes.{bound_is}
use Rattle.scopes.specs.declared.Binding.{Binding}
use Rattle.scopes.specs.declared.HeldScope.{HeldScope}

-- ---- letters

module _ (bindings : List Binding) (x : ℕ) where
  abbrev letter_of : ℕ → ℕ
  letter_of k = (get_or bindings k unbound).letter

  none_nearest : (k : ℕ) → ((j : ℕ) → j < k → letter_of j ≡ x → ⊥) → nearest (levels_in bindings k) x ≡ none
  unfolding levels_in nearest
  none_nearest zero h = refl
  none_nearest (suc k) h = rw (ne_eqb (letter_of k) x (h k (omega arith)), nearest) (none_nearest k (λ j l. h j (omega arith)))

  level_nearest : (k n : ℕ) → n < k → letter_of n ≡ x → ((j : ℕ) → n < j → j < k → letter_of j ≡ x → ⊥) → nearest (levels_in bindings k) x ≡ some (binding_in bindings n)
  unfolding levels_in nearest
  level_nearest zero n l e h = absurd (omega arith)
  level_nearest (suc k) n l e h =
      ⊎_elim
      (λ (q : n ≡ k). rw (eq-eqb (letter_of k) x (ap letter_of (sym q) ∙ e), nearest) (ap (λ (j : ℕ). some (binding_in bindings j)) (sym q)))
      (λ (q : n < k). rw (ne_eqb (letter_of k) x (h k q (omega arith)), nearest) (level_nearest k n q e (λ j p r. h j p (omega arith))))
      (eq-or-lt_of_le {n = n} {m = k} (omega arith))

-- ---- values

module _ (file : List ℕ) (scope : HeldScope) (x : ℕ) (number : ℤ) where
  pub letter_unknown : ((k : ℕ) → k < scope.levels → letter_in scope k ≡ x → ⊥) → none ≡ value_in (columns_of file) (scope_in scope) (Named x number)
  unfolding value_in
  letter_unknown h = rw (none_nearest scope.bindings x scope.levels h)

  module _ (fits : ScopeFits file scope) (n : ℕ)
      (near : (n < scope.levels) × (letter_in scope n ≡ x) × ((k : ℕ) → n < k → k < scope.levels → letter_in scope k ≡ x → ⊥)) where
    abbrev table : ℕ
    table = (get_or scope.bindings n unbound).table

    columns_here : numbered (columns_of file) table 0 ≡ (size_at file (table - 1)).columns
    columns_here = go table (fits.table_low n near.0) (fits.table_high n near.0)
      where
        go : (t : ℕ) → 1 ≤ t → t ≤ table_count file → numbered (columns_of file) t 0 ≡ (size_at file (t - 1)).columns
        go zero p q = absurd (omega arith)
        go (suc j) p q =
            let w : suc j - 1 ≡ j = omega arith in
            column_at file j (omega arith) ∙ ap (λ (i : ℕ). (size_at file i).columns) (sym w)

    -- the column with the written number, in the table of this level
    pub column_as : {most : ℕ} {m : ℤ} → most ≡ (size_at file (table - 1)).columns → m ≡ number → (o : Option ℕ) → o ≡ existing most m
        → (o >>= (λ c. some (Column n c))) ≡ value_in (columns_of file) (scope_in scope) (Named x number)
    unfolding value_in
    column_as is same o found = rw (level_nearest scope.bindings x scope.levels n near.0 near.1 near.2, columns_here, sym is, sym same, sym found) refl

-- ---- a FROM

module _ (file : List ℕ) (scope : HeldScope) (number : ℤ) (x : ℕ) where
  abbrev from : FromClause Source
  from = Single (Over number x)

  pub table_unknown : {m : ℤ} → m ≡ number → none ≡ existing (table_count file) m → none ≡ from_in (columns_of file) (scope_in scope) from
  unfolding from_in
  table_unknown same found = rw (columns_count file, sym same, sym found) refl

  pub table_known : {t : ℕ} {m : ℤ} {inside : HeldScope} → m ≡ number → some t ≡ existing (table_count file) m → inside ≡ binding scope x t
      → scope.levels < length scope.bindings → some (Single t, scope_in inside) ≡ from_in (columns_of file) (scope_in scope) from
  unfolding from_in
  table_known {t = t} same found b room = rw (columns_count file, sym same, sym found, b, bound_is scope x t room) refl
