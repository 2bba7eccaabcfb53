-- Bound letters: binding one more, and the letter around a whole rule.
use Rattle.std.proofs.Common.{◌≡◌, ℕ, zero, suc, ◌+◌, ◌<◌, ◌≤◌, List, ◌∷◌, length, get_or, replicate, refl, sym, ap, ap₂, ◌∙◌, arith}
use mathlib.Core.Logic.{⊎_elim}
use native.Mathlib.Nat.{eq-or-lt_of_le}
use native.Mathlib.Numerals.{add-one}
use lib.ListN.{length-set}
use lib.Seq.{get_or-set_same, get_or-set_other}
use Rattle.tables.specs.Tables.{table_count}
use Rattle.tables.specs.Values.{most_levels}
use Rattle.rule.specs.Names.{judged_table, judged_letter, outermost, bound}
use Rattle.scopes.specs.Code.{unbound, levels_in, scope_in, binding, outer_scope, ScopeFits}
use Rattle.scopes.specs.declared.Binding.{Binding}
use Rattle.scopes.specs.declared.HeldScope.{HeldScope}

levels_length : (bindings : List Binding) (k : ℕ) → length (levels_in bindings k) ≡ k
unfolding levels_in
levels_length bindings zero = refl
levels_length bindings (suc k) = ap suc (levels_length bindings k)

-- only what stands below the levels tells
levels_same : (s t : List Binding) (k : ℕ) → ((i : ℕ) → i < k → get_or s i unbound ≡ get_or t i unbound) → levels_in s k ≡ levels_in t k
unfolding levels_in
levels_same s t zero h = refl
levels_same s t (suc k) h =
    ap₂ ◌∷◌ (ap (λ (b : Binding). record { letter = b.letter; level = k; table = b.table }) (h k (omega arith))) (levels_same s t k (λ i l. h i (omega arith)))

module _ (scope : HeldScope) (x t : ℕ) where
  abbrev next : Binding
  next = record { letter = x; table = t }

  below_same : (i : ℕ) → i < scope.levels → get_or (binding scope x t).bindings i unbound ≡ get_or scope.bindings i unbound
  below_same i l = get_or-set_other scope.bindings scope.levels i next unbound (λ e. omega arith)

  module _ (long : scope.levels < length scope.bindings) where
    next_at : get_or (binding scope x t).bindings scope.levels unbound ≡ next
    next_at = get_or-set_same scope.bindings scope.levels next unbound long

    bound_next : levels_in (binding scope x t).bindings (suc scope.levels) ≡ bound (scope_in scope) x t
    unfolding levels_in
    bound_next =
        ap₂ ◌∷◌
        (ap₂ (λ (b : Binding) (n : ℕ). record { letter = b.letter; level = n; table = b.table }) next_at (sym (levels_length scope.bindings scope.levels)))
        (levels_same (binding scope x t).bindings scope.bindings scope.levels below_same)

    pub bound_is : scope_in (binding scope x t) ≡ bound (scope_in scope) x t
    bound_is = ap (levels_in (binding scope x t).bindings) (add-one scope.levels) ∙ bound_next

module _ {file : List ℕ} {scope : HeldScope} (f : ScopeFits file scope) (x t : ℕ) (few : scope.levels < most_levels) where
  pub room_for : scope.levels < length scope.bindings
  room_for = omega (arith, f.size)

  module _ (low : 1 ≤ t) (high : t ≤ table_count file) where
    bound_table : (P : ℕ → Type 0) → P t → ((k : ℕ) → k < scope.levels → P (get_or scope.bindings k unbound).table)
        → (k : ℕ) → k < scope.levels + 1 → P (get_or (binding scope x t).bindings k unbound).table
    bound_table P here others k l =
        ⊎_elim
        (λ (e : k ≡ scope.levels). rw (e, next_at scope x t room_for) here)
        (λ (w : k < scope.levels). rw (below_same scope x t k w) (others k w))
        (eq-or-lt_of_le {n = k} {m = scope.levels} (omega arith))

    pub fits_deeper : ScopeFits file (binding scope x t)
    fits_deeper =
        record {
          size = length-set scope.bindings scope.levels (next scope x t) ∙ f.size;
          few = omega arith;
          table_low = bound_table (λ n. 1 ≤ n) low f.table_low;
          table_high = bound_table (λ n. n ≤ table_count file) high f.table_high;
        }

-- around a whole rule
pub outer_is : scope_in outer_scope ≡ outermost
unfolding levels_in
outer_is = refl

pub outer_fits : (file : List ℕ) → 1 ≤ table_count file → ScopeFits file outer_scope
outer_fits file h = fits_deeper none_bound judged_letter judged_table (omega arith) (omega arith) h
  where
    none_bound : ScopeFits file (record { bindings = replicate most_levels unbound; levels = 0 })
    none_bound = record { size = refl; few = omega arith; table_low = (λ k l. absurd (omega arith)); table_high = (λ k l. absurd (omega arith)) }
