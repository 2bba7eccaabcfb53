-- What placing comes to: from the conditions in a condition to the condition.
use Rattle.std.proofs.Common.{◌≡◌, ℕ, suc, ◌+◌, ◌-◌, ◌≤◌, List, [], ◌∷◌, ◌++◌, append_assoc, length, get_or, take, drop, set, refl, sym, ap, subst, ◌∙◌, arith, Option as StdOption, Some, None, is_some}
use Rattle.std.proofs.Math.Option.{Option, none, some}
use Rattle.std.proofs.lemmas.List.{drop-set, append-nil}
use Rattle.tables.specs.Lists.{◌>>=◌}
use Rattle.tables.specs.Tables.{columns_of}
use Rattle.tables.specs.Values.{most_levels, any_value}
use Rattle.tables.specs.declared.Value.{Value}
use mathlib.Core.Logic.{◌⊎◌, inl, inr}
use Rattle.tables.specs.declared.Connective.{Connective}
use Rattle.tables.specs.declared.Quantifier.{Quantifier}
use Rattle.tables.specs.declared.Comparison.{Comparison}
use Rattle.rule.specs.declared.Unary.{Unary}
use Rattle.tables.specs.declared.MarkTest.TheVariants.{Null}
use Rattle.rule.specs.Condition.{Atom, Join, Apply, Exists, Listed, WrittenCondition, Rule, parts, froms_deep}
use Rattle.rule.specs.declared.Test.{Test}
use Rattle.rule.specs.declared.Test.TheVariants.{Mark}
use Rattle.rule.specs.Names.{most_parts, Scope, outermost, value_in, test_in, from_in, rule_in}
use Rattle.rule.specs.Parts.{Head}
use Rattle.rule.specs.declared.Head.TheVariants.{AtomHead, JoinHead, UnaryHead, ExistsHead, ListedHead}
use Rattle.rule.specs.declared.FromClause.{FromClause}
use Rattle.phrases.specs.Code.{Note, noted}
use Rattle.scopes.specs.Code.{scope_in, letters_in, named_in, named_as, outer_scope, ScopeFits}
use Rattle.scopes.specs.declared.HeldScope.{HeldScope}
use Rattle.scopes.specs.declared.NamedHead.{NamedHead}
use Rattle.names.specs.Code.{rule_part, placed_from, placed_of, own_head, inner, inner_count, parts_all, deep_all, noted_all, rules_in, placed_all, Placeable, PlacedAt, PlacedAs, InnerPlaceable, InnerPlacedAt, InnerPlacedAs, Nameable, NamedAs}
use Rattle.names.specs.declared.RulePart.{RulePart}
use lib.Seq.{take_at}
use Rattle.scopes.proofs.Scopes.{outer_is, outer_fits}
use Rattle.names.proofs.Published.{placed_length, parts_inner, placed_own}
use Rattle.names.proofs.Notes.{noted_length, parts_in, deep_in, count_in, enough, some_notes, inner_are, note_is, front_are}

-- ---- a rule from what it says by itself and the rules in it

-- with another number of rules than it takes, some rule
abbrev built : Head → List Rule → Rule → Rule
built (AtomHead x) rs d = Atom x
built (JoinHead j) (a ∷ b ∷ rs) d = Join j a b
built (JoinHead j) _ d = d
built (UnaryHead u) (a ∷ rs) d = Apply u a
built (UnaryHead u) _ d = d
built (ExistsHead f) (w ∷ rs) d = Exists f w
built (ExistsHead f) _ d = d
built (ListedHead q op l s f) (w ∷ rs) d = Listed q op l s f w
built (ListedHead q op l s f) _ d = d

-- what holds of an option's value, if there is one
abbrev Each : {A : Type 0} → (A → Type 0) → Option A → Type 0
Each P none = Unit {0}
Each P (some x) = P x

each_bind : {A B : Type 0} (P : B → Type 0) (o : Option A) (f : A → Option B) → ((x : A) → Each P (f x)) → Each P (o >>= f)
each_bind P none f h = tt
each_bind P (some x) f h = h x

abbrev with_scope : Scope → Head → Option (Head × Scope)
with_scope scope head = some (head, scope)

module _ (columns : List ℕ) where
  -- what a condition stands for, by its own part and the conditions in it
  rule_by : (scope : Scope) (t : WrittenCondition) (d : Rule)
      → rule_in columns scope t ≡ (named_in columns scope (own_head t) >>= (λ o. rules_in columns o.1 (inner t) >>= (λ rs. some (built o.0 rs d))))
  unfolding rule_in named_in
  rule_by scope (Atom x) d = go (test_in columns scope x)
    where
      go : (p : Option (Test Value)) → (p >>= (λ y. some (Atom y))) ≡ ((p >>= (λ y. with_scope scope (AtomHead y))) >>= (λ o. some [] >>= (λ rs. some (built o.0 rs d))))
      go none = refl
      go (some y) = refl
  rule_by scope (Join j a b) d = go (rule_in columns scope a) (rule_in columns scope b)
    where
      go : (p r : Option Rule) → (p >>= (λ x. r >>= (λ y. some (Join j x y))))
          ≡ ((p >>= (λ x. (r >>= (λ y. some [] >>= (λ rs. some (y ∷ rs)))) >>= (λ rs. some (x ∷ rs)))) >>= (λ rs. some (built (JoinHead j) rs d)))
      go none r = refl
      go (some x) none = refl
      go (some x) (some y) = refl
  rule_by scope (Apply u a) d = go (rule_in columns scope a)
    where
      go : (p : Option Rule) → (p >>= (λ x. some (Apply u x))) ≡ ((p >>= (λ x. some [] >>= (λ rs. some (x ∷ rs)))) >>= (λ rs. some (built (UnaryHead u) rs d)))
      go none = refl
      go (some x) = refl
  rule_by scope (Exists f w) d = go (from_in columns scope f)
    where
      inside : (g : FromClause ℕ) (p : Option Rule) → (p >>= (λ x. some (Exists g x))) ≡ ((p >>= (λ x. some [] >>= (λ rs. some (x ∷ rs)))) >>= (λ rs. some (built (ExistsHead g) rs d)))
      inside g none = refl
      inside g (some x) = refl

      go : (p : Option (FromClause ℕ × Scope)) → (p >>= (λ g. rule_in columns g.1 w >>= (λ x. some (Exists g.0 x))))
          ≡ ((p >>= (λ g. with_scope g.1 (ExistsHead g.0))) >>= (λ o. rules_in columns o.1 (w ∷ []) >>= (λ rs. some (built o.0 rs d))))
      go none = refl
      go (some g) = inside g.0 (rule_in columns g.1 w)
  rule_by scope (Listed q op l s f w) d = go (from_in columns scope f)
    where
      inside : (g : FromClause ℕ) (v x : Option Value) (scope' : Scope) → (v >>= (λ l'. x >>= (λ s'. rule_in columns scope' w >>= (λ w'. some (Listed q op l' s' g w')))))
          ≡ ((v >>= (λ l'. x >>= (λ s'. with_scope scope' (ListedHead q op l' s' g)))) >>= (λ o. rules_in columns o.1 (w ∷ []) >>= (λ rs. some (built o.0 rs d))))
      inside g none x scope' = refl
      inside g (some v) none scope' = refl
      inside g (some v) (some x) scope' = last (rule_in columns scope' w)
        where
          last : (p : Option Rule) → (p >>= (λ w'. some (Listed q op v x g w'))) ≡ ((p >>= (λ r. some [] >>= (λ rs. some (r ∷ rs)))) >>= (λ rs. some (built (ListedHead q op v x g) rs d)))
          last none = refl
          last (some r) = refl

      go : (p : Option (FromClause ℕ × Scope))
          → (p >>= (λ g. value_in columns scope l >>= (λ l'. value_in columns g.1 s >>= (λ s'. rule_in columns g.1 w >>= (λ w'. some (Listed q op l' s' g.0 w'))))))
          ≡ ((p >>= (λ g. value_in columns scope l >>= (λ l'. value_in columns g.1 s >>= (λ s'. with_scope g.1 (ListedHead q op l' s' g.0))))) >>= (λ o. rules_in columns o.1 (w ∷ []) >>= (λ rs. some (built o.0 rs d))))
      go none = refl
      go (some g) = inside g.0 (value_in columns scope l) (value_in columns g.1 s) g.1

-- a rule that was built of as many rules as it takes
abbrev IsBuilt : Head → List Rule → Rule → Type 0
IsBuilt head rs r = (own_head r ≡ head) × (inner r ≡ rs)

is_built : (head : Head) (rs : List Rule) (d : Rule) → length rs ≡ inner_count head → IsBuilt head rs (built head rs d)
is_built (AtomHead x) [] d e = (refl, refl)
is_built (AtomHead x) (a ∷ rs) d e = absurd (omega arith)
is_built (JoinHead j) [] d e = absurd (omega arith)
is_built (JoinHead j) (a ∷ []) d e = absurd (omega arith)
is_built (JoinHead j) (a ∷ b ∷ []) d e = (refl, refl)
is_built (JoinHead j) (a ∷ b ∷ c ∷ rs) d e = absurd (omega arith)
is_built (UnaryHead u) [] d e = absurd (omega arith)
is_built (UnaryHead u) (a ∷ []) d e = (refl, refl)
is_built (UnaryHead u) (a ∷ b ∷ rs) d e = absurd (omega arith)
is_built (ExistsHead f) [] d e = absurd (omega arith)
is_built (ExistsHead f) (a ∷ []) d e = (refl, refl)
is_built (ExistsHead f) (a ∷ b ∷ rs) d e = absurd (omega arith)
is_built (ListedHead q op l s f) [] d e = absurd (omega arith)
is_built (ListedHead q op l s f) (a ∷ []) d e = (refl, refl)
is_built (ListedHead q op l s f) (a ∷ b ∷ rs) d e = absurd (omega arith)

-- as many rules as conditions
rules_count : (columns : List ℕ) (scope : Scope) (ts : List WrittenCondition) (rs : List Rule) → rules_in columns scope ts ≡ some rs → length rs ≡ length ts
rules_count columns scope [] rs e = let z : rs ≡ [] = cc in ap length z
rules_count columns scope (t ∷ ts) rs e = go (rule_in columns scope t) (rules_in columns scope ts) (rules_count columns scope ts) e
  where
    go : (p : Option Rule) (o : Option (List Rule)) → ((more : List Rule) → o ≡ some more → length more ≡ length ts) → (p >>= (λ r. o >>= (λ rs. some (r ∷ rs)))) ≡ some rs
        → length rs ≡ length (t ∷ ts)
    go none o i f = absurd (let z : ◌≡◌ {A = ℕ} 0 1 = cc in omega arith)
    go (some r) none i f = absurd (let z : ◌≡◌ {A = ℕ} 0 1 = cc in omega arith)
    go (some r) (some more) i f =
        let z : r ∷ more ≡ rs = cc in
        sym (ap length z) ∙ ap suc (i more refl)

-- as many conditions as the part that stands for another takes
named_count : (columns : List ℕ) (scope : Scope) (note : Note) → Each (λ (o : Head × Scope). inner_count note ≡ inner_count o.0) (named_in columns scope note)
unfolding named_in
named_count columns scope (AtomHead x) = each_bind _ (test_in columns scope x) _ (λ y. refl)
named_count columns scope (JoinHead j) = refl
named_count columns scope (UnaryHead u) = refl
named_count columns scope (ExistsHead f) = each_bind _ (from_in columns scope f) _ (λ g. refl)
named_count columns scope (ListedHead q op l s f) =
    each_bind _ (from_in columns scope f) _
    (λ g. each_bind _ (value_in columns scope l) _ (λ l'. each_bind _ (value_in columns g.1 s) _ (λ s'. refl)))

-- ---- a part before those of the conditions in it

abbrev any_rule : Rule
any_rule = Atom (Mark Null any_value)

module _ {file : List ℕ} {notes : List Note} {h e : ℕ} {scope : HeldScope} (q : Placeable file notes h e scope) where
  abbrev pub columns : List ℕ
  columns = columns_of file

  pub has_notes : (1 ≤ h) × (h ≤ most_parts)
  has_notes = (some_notes notes q.before h q.notes_room q.tree q.notes_are, q.few_notes)

  module _ (d : Note) where
    abbrev pub note : Note
    note = get_or notes (h - 1) d

    note_here : note ≡ own_head q.tree
    note_here = note_is notes q.before h q.notes_room q.tree q.notes_are d

    pub letters_fit : scope.levels + letters_in note ≤ most_levels
    letters_fit = rw note_here (omega (arith, deep_in q.tree, q.deep))

    pub head_missing : none ≡ named_in columns (scope_in scope) note → rule_in columns (scope_in scope) q.tree ≡ none
    head_missing m = rule_by columns (scope_in scope) q.tree any_rule ∙ rw (← note_here, sym m) refl

    module _ (n : NamedHead) (is : some (named_as n) ≡ named_in columns (scope_in scope) note) (fits : ScopeFits file n.inside × (n.inside.levels ≡ scope.levels + letters_in note)) where
      named : named_in columns (scope_in scope) (own_head q.tree) ≡ some (named_as n)
      named = ap (named_in columns (scope_in scope)) (sym note_here) ∙ sym is

      pub head_count : inner_count (own_head q.tree) ≡ inner_count n.head
      head_count = let c = named_count columns (scope_in scope) (own_head q.tree) in rw named at c

      pub deeper : n.inside.levels ≡ scope.levels + letters_in (own_head q.tree)
      deeper = fits.1 ∙ ap (λ (t : Note). scope.levels + letters_in t) note_here

      abbrev pub inner_run : InnerPlaceable file notes (h - 1) e n.inside n.head
      inner_run =
          record {
            sized = q.sized;
            scope_fits = fits.0;
            notes_room = omega (arith, q.notes_room);
            few_notes = omega (arith, q.few_notes);
            few_parts = q.few_parts;
            before = q.before;
            trees = inner q.tree;
            count = count_in q.tree ∙ head_count;
            notes_are = inner_are notes q.before h q.notes_room q.tree q.notes_are;
            fits = omega (arith, q.fits, parts_in q.tree);
            deep = omega (arith, q.deep, deep_in q.tree, deeper);
          }

      by_inner : rule_in columns (scope_in scope) q.tree ≡ (rules_in columns (scope_in n.inside) (inner q.tree) >>= (λ rs. some (built n.head rs any_rule)))
      by_inner = rule_by columns (scope_in scope) q.tree any_rule ∙ rw named refl

      pub inner_missing : rules_in columns (scope_in n.inside) (inner q.tree) ≡ none → rule_in columns (scope_in scope) q.tree ≡ none
      inner_missing m = by_inner ∙ rw m refl

      module _ {old mid : List RulePart} {p : ℕ} (w : InnerPlacedAt file n.inside (inner q.tree) old mid p e) where
        pub inner_room : (1 ≤ p) × (p ≤ most_parts)
        inner_room = (omega (arith, w.start, q.fits, parts_in q.tree), omega (arith, w.start, q.few_parts))

        rule_here : Rule
        rule_here = built n.head w.rules any_rule

        here_built : IsBuilt n.head w.rules rule_here
        unfolding rule_here
        here_built = is_built n.head w.rules any_rule (rules_count columns (scope_in n.inside) (inner q.tree) w.rules w.named ∙ count_in q.tree ∙ head_count)

        same_here : parts rule_here ≡ parts q.tree
        same_here = parts_inner rule_here ∙ ap (λ (rs : List Rule). 1 + parts_all rs) here_built.1 ∙ ap (1 +◌) w.same_parts ∙ sym (parts_in q.tree)

        own_placed : placed_from (p - 1) rule_here ≡ rule_part e n.head ∷ placed_all p w.rules
        own_placed =
            let z : p - 1 + parts rule_here ≡ e = omega (arith, same_here, parts_in q.tree, inner_room, w.start) in
            let y : p - 1 + 1 ≡ p = omega (arith, inner_room) in
            placed_own (p - 1) rule_here ∙ rw (z, y, here_built.0, here_built.1) refl

        pub placed : length mid ≡ most_parts → PlacedAt file scope q.tree old (set mid (p - 1) (rule_part e n.head)) (p - 1) e
        unfolding rule_here
        placed long =
            let y : p - 1 + 1 ≡ p = omega (arith, inner_room) in
            record {
              rule = rule_here;
              named = by_inner ∙ rw w.named refl;
              same_parts = same_here;
              start = omega (arith, w.start, parts_in q.tree, inner_room);
              written =
                  drop-set mid (p - 1) (rule_part e n.head) (omega (arith, inner_room))
                  ∙ rw (y, w.written, own_placed) refl;
            }

-- ---- the conditions in a part

-- one that has two conditions in it, or one
pub join_count : {head : Head} {j : Connective} → head ≡ JoinHead j → inner_count head ≡ 2
join_count e = rw e refl

pub one_count : {head : Head}
    → ((u : Unary) × (head ≡ UnaryHead u))
    ⊎ (((f : FromClause ℕ) × (head ≡ ExistsHead f))
    ⊎ ((q : Quantifier) × (op : Comparison) × (l : Value) × (s : Value) × (f : FromClause ℕ) × (head ≡ ListedHead q op l s f)))
    → inner_count head ≡ 1
one_count (inl u) = rw u.1 refl
one_count (inr (inl f)) = rw f.1 refl
one_count (inr (inr l)) = rw l.5 refl

pub record One {A : Type 0} (ts : List A) : Type 0 where
  pub only : A
  pub is : ts ≡ only ∷ []

one_tree : {A : Type 0} (ts : List A) → length ts ≡ 1 → One ts
one_tree [] e = absurd (omega arith)
one_tree (t ∷ []) e = record { only = t; is = refl }
one_tree (t ∷ u ∷ ts) e = absurd (omega arith)

pub record Two {A : Type 0} (ts : List A) : Type 0 where
  pub first : A
  pub second : A
  pub is : ts ≡ first ∷ second ∷ []

two_trees : {A : Type 0} (ts : List A) → length ts ≡ 2 → Two ts
two_trees [] e = absurd (omega arith)
two_trees (t ∷ []) e = absurd (omega arith)
two_trees (t ∷ u ∷ []) e = record { first = t; second = u; is = refl }
two_trees (t ∷ u ∷ v ∷ ts) e = absurd (omega arith)

module _ {file : List ℕ} {notes : List Note} {h e : ℕ} {scope : HeldScope} {head : Head} (q : InnerPlaceable file notes h e scope head) where
  abbrev scope_here : Scope
  scope_here = scope_in scope

  abbrev columns_here : List ℕ
  columns_here = columns_of file

  -- one
  module _ (k : inner_count head ≡ 1) where
    pub one_of : One q.trees
    one_of = one_tree q.trees (q.count ∙ k)

    abbrev pub one_run : Placeable file notes h e scope
    one_run =
        record {
          sized = q.sized;
          scope_fits = q.scope_fits;
          notes_room = q.notes_room;
          few_notes = q.few_notes;
          few_parts = q.few_parts;
          before = q.before;
          tree = one_of.only;
          notes_are = q.notes_are ∙ ap (λ (ts : List WrittenCondition). q.before ++ noted_all ts) one_of.is ∙ ap (q.before ++◌) (append-nil (noted one_of.only));
          fits = omega (arith, q.fits, ap parts_all one_of.is);
          deep = omega (arith, q.deep, ap deep_all one_of.is);
        }

    pub one_result : (old new : List RulePart) (r : StdOption ℕ) → PlacedAs file scope one_of.only old new e r → InnerPlacedAs file scope q.trees old new e r
    one_result old new None m = ap (rules_in columns_here scope_here) one_of.is ∙ rw m refl
    one_result old new (Some p) w =
        record {
          rules = w.rule ∷ [];
          named = ap (rules_in columns_here scope_here) one_of.is ∙ rw w.named refl;
          same_parts = omega (arith, w.same_parts, ap parts_all one_of.is);
          start = omega (arith, w.start, ap parts_all one_of.is);
          written = w.written ∙ rw (append-nil (placed_from p w.rule)) refl;
        }

  -- two: the right one's notes are the last
  module _ (k : inner_count head ≡ 2) where
    pub two_of : Two q.trees
    two_of = two_trees q.trees (q.count ∙ k)

    pub both_are : take h notes ≡ q.before ++ (noted two_of.first ++ noted two_of.second)
    both_are =
        q.notes_are ∙ ap (λ (ts : List WrittenCondition). q.before ++ noted_all ts) two_of.is
        ∙ ap (λ (ns : List Note). q.before ++ (noted two_of.first ++ ns)) (append-nil (noted two_of.second))

    pub both_fit : parts two_of.first + parts two_of.second ≤ e
    both_fit = omega (arith, q.fits, ap parts_all two_of.is)

    pub both_deep : (scope.levels + froms_deep two_of.first ≤ most_levels) × (scope.levels + froms_deep two_of.second ≤ most_levels)
    both_deep = (omega (arith, q.deep, ap deep_all two_of.is), omega (arith, q.deep, ap deep_all two_of.is))

    abbrev pub right_run : Placeable file notes h e scope
    right_run =
        record {
          sized = q.sized;
          scope_fits = q.scope_fits;
          notes_room = q.notes_room;
          few_notes = q.few_notes;
          few_parts = q.few_parts;
          before = q.before ++ noted two_of.first;
          tree = two_of.second;
          notes_are = both_are ∙ sym (append_assoc q.before (noted two_of.first) (noted two_of.second));
          fits = omega (arith, both_fit);
          deep = both_deep.1;
        }

    pub right_missing : rule_in columns_here scope_here two_of.second ≡ none → rules_in columns_here scope_here q.trees ≡ none
    right_missing m = ap (rules_in columns_here scope_here) two_of.is ∙ rw m (bind_none (rule_in columns_here scope_here two_of.first))
      where
        bind_none : {A B : Type 0} (o : Option A) → (o >>= (λ (x : A). let y : Option B = none in y)) ≡ none
        bind_none none = refl
        bind_none (some x) = refl

    module _ {old mid : List RulePart} {p : ℕ} (right_at : PlacedAt file scope two_of.second old mid p e) where
      pub right_room : (p ≤ e) × (e - p ≤ h)
      right_room = (
        omega (arith, right_at.start),
        omega (arith, right_at.start, enough notes (q.before ++ noted two_of.first) h q.notes_room two_of.second (both_are ∙ sym (append_assoc q.before (noted two_of.first) (noted two_of.second)))),
      )

      abbrev pub left_run : Placeable file notes (h - (e - p)) p scope
      left_run =
          record {
            sized = q.sized;
            scope_fits = q.scope_fits;
            notes_room = omega (arith, q.notes_room);
            few_notes = omega (arith, q.few_notes);
            few_parts = omega (arith, right_at.start, q.few_parts);
            before = q.before;
            tree = two_of.first;
            notes_are =
                front_are notes q.before (noted two_of.first) (noted two_of.second) h q.notes_room both_are (h - (e - p))
                (omega (arith, noted_length two_of.second, right_at.start, right_room));
            fits = omega (arith, both_fit, right_at.start);
            deep = both_deep.0;
          }

      pub left_result : (new : List RulePart) (r : StdOption ℕ) → PlacedAs file scope two_of.first mid new p r → InnerPlacedAs file scope q.trees old new e r
      left_result new None m = ap (rules_in columns_here scope_here) two_of.is ∙ rw m refl
      left_result new (Some o) w =
          let z : o + parts w.rule ≡ p = omega (arith, w.start, w.same_parts) in
          record {
            rules = w.rule ∷ right_at.rule ∷ [];
            named = ap (rules_in columns_here scope_here) two_of.is ∙ rw (w.named, right_at.named) refl;
            same_parts = omega (arith, w.same_parts, right_at.same_parts, ap parts_all two_of.is);
            start = omega (arith, w.start, right_at.start, ap parts_all two_of.is);
            written =
                w.written
                ∙ rw (z, right_at.written, append-nil (placed_from p right_at.rule)) (sym (append_assoc (placed_from o w.rule) (placed_from p right_at.rule) (drop e old)));
          }

-- ---- a whole rule

module _ {file : List ℕ} {notes : List Note} {n : ℕ} (q : Nameable file notes n) {scope : HeldScope} (made : scope ≡ outer_scope) where
  whole_scope : scope_in scope ≡ outermost
  whole_scope = ap scope_in made ∙ outer_is

  pub outer_fitting : ScopeFits file scope
  outer_fitting = rw made (outer_fits file q.sized.tables_low)

  abbrev pub whole_run : Placeable file notes n n scope
  whole_run =
      record {
        sized = q.sized;
        scope_fits = outer_fitting;
        notes_room = q.notes_room;
        few_notes = q.few_notes;
        few_parts = q.few_notes;
        before = [];
        tree = q.tree;
        notes_are = q.notes_are;
        fits = omega (arith, q.count);
        deep = rw made (omega (arith, q.shallow));
      }

  -- what placing them all came to
  pub whole_result : (old new : List RulePart) (r : StdOption ℕ) → PlacedAs file scope q.tree old new n r → NamedAs file q.tree n new (is_some r)
  whole_result old new None m = ap (λ (s : Scope). rule_in (columns_of file) s q.tree) (sym whole_scope) ∙ m
  whole_result old new (Some p) w =
      let z : p ≡ 0 = omega (arith, w.start, q.count) in
      let long : length (placed_of w.rule) ≡ n = placed_length 0 w.rule ∙ w.same_parts ∙ sym q.count in
      let all : new ≡ placed_of w.rule ++ drop n old = subst (λ (m : ℕ). drop m new ≡ placed_from m w.rule ++ drop n old) z w.written in
      record {
        rule = w.rule;
        named = ap (λ (s : Scope). rule_in (columns_of file) s q.tree) (sym whole_scope) ∙ w.named;
        written = ap (take n) all ∙ take_at (placed_of w.rule) (drop n old) n long;
      }
