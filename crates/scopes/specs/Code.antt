-- What the functions of src/ promise one another and their callers, in the terms of the code: bound letters as they are held. The contract of a public
-- call cites nothing of this file.
use Rattle.std.specs.Prelude.{◌≡◌, List, [], ◌∷◌, ℕ, zero, suc, ◌+◌, ◌<◌, ◌≤◌, length, get_or, set, replicate, Option, MatchOption}
use Rattle.std.proofs.Math.Option.{Option as MathOption, some}
use Rattle.tables.specs.Lists.{◌>>=◌}
use Rattle.tables.specs.Tables.{table_count}
use Rattle.tables.specs.Values.{most_levels}
use Rattle.rule.specs.Condition.{letters}
use Rattle.rule.specs.Names.{judged_table, judged_letter, Binding as ScopeBinding, Scope, value_in, test_in, from_in}
use Rattle.rule.specs.Parts.{Head}
use Rattle.rule.specs.declared.Head.{Head as HeadOver}
use Rattle.rule.specs.declared.Head.TheVariants.{AtomHead, JoinHead, UnaryHead, ExistsHead, ListedHead}
use Rattle.rule.specs.declared.FromClause.{FromClause}
use Rattle.phrases.specs.Code.{Note}
use Rattle.scopes.specs.declared.Binding.{Binding}
use Rattle.scopes.specs.declared.HeldScope.{HeldScope}
use Rattle.scopes.specs.declared.Opened.{Opened}
use Rattle.scopes.specs.declared.NamedHead.{NamedHead}

-- ---- letters

-- level k, and all the levels below a number, the nearest first
abbrev pub unbound : Binding
unbound = record { letter = 0; table = 0 }

abbrev pub binding_in : List Binding → ℕ → ScopeBinding
binding_in bindings k = record { letter = (get_or bindings k unbound).letter; level = k; table = (get_or bindings k unbound).table }

unfoldable pub levels_in : List Binding → ℕ → Scope
levels_in bindings zero = []
levels_in bindings (suc k) = binding_in bindings k ∷ levels_in bindings k

abbrev pub scope_in : HeldScope → Scope
scope_in scope = levels_in scope.bindings scope.levels

-- the scope with the letter x, which ranges over the table t, at the next level
abbrev pub binding : HeldScope → ℕ → ℕ → HeldScope
binding scope x t = record { bindings = set scope.bindings scope.levels (record { letter = x; table = t }); levels = scope.levels + 1 }

-- around a whole rule m alone is bound, which ranges over table 1
abbrev pub outer_scope : HeldScope
outer_scope = binding (record { bindings = replicate most_levels unbound; levels = 0 }) judged_letter judged_table

-- r is the nearest level whose letter is x, if there is one
abbrev pub letter_in : HeldScope → ℕ → ℕ
letter_in scope k = (get_or scope.bindings k unbound).letter

abbrev pub NearestAt : HeldScope → ℕ → Option ℕ → Type 0
NearestAt scope x r =
    MatchOption r
    ((k : ℕ) → k < scope.levels → letter_in scope k ≡ x → ⊥)
    (λ n. (n < scope.levels) × (letter_in scope n ≡ x) × ((k : ℕ) → n < k → k < scope.levels → letter_in scope k ≡ x → ⊥))

-- there is room for the levels, and the table of each level exists
pub record ScopeFits (file : List ℕ) (scope : HeldScope) : Type 0 where
  pub size : length scope.bindings ≡ most_levels
  pub few : scope.levels ≤ most_levels
  pub table_low : (k : ℕ) → k < scope.levels → 1 ≤ (get_or scope.bindings k unbound).table
  pub table_high : (k : ℕ) → k < scope.levels → (get_or scope.bindings k unbound).table ≤ table_count file

-- ---- parts

-- what a FROM says in a rule, with the scope inside it
abbrev pub opened_as : Opened → FromClause ℕ × Scope
opened_as o = (o.from, scope_in o.inside)

-- how many letters the FROM of a part binds, if it has one
abbrev pub letters_in : {A S : Type 0} → HeadOver A S → ℕ
letters_in (AtomHead x) = 0
letters_in (JoinHead j) = 0
letters_in (UnaryHead u) = 0
letters_in (ExistsHead f) = letters f
letters_in (ListedHead q op l s f) = letters f

-- what a part says in a rule, if its names mean something, with the scope of the conditions in it
module _ (columns : List ℕ) (scope : Scope) where
  unfoldable pub named_in : Note → MathOption (Head × Scope)
  named_in (AtomHead x) = test_in columns scope x >>= (λ y. some (AtomHead y, scope))
  named_in (JoinHead j) = some (JoinHead j, scope)
  named_in (UnaryHead u) = some (UnaryHead u, scope)
  named_in (ExistsHead f) = from_in columns scope f >>= (λ g. some (ExistsHead g.0, g.1))
  named_in (ListedHead q op l s f) =
      from_in columns scope f >>= (λ g. value_in columns scope l >>= (λ l'. value_in columns g.1 s >>= (λ s'. some (ListedHead q op l' s' g.0, g.1))))

abbrev pub named_as : NamedHead → Head × Scope
named_as n = (n.head, scope_in n.inside)
