-- What a part asks for and comes to, by what it says: from a rule that stands in an array, and from the rows at which the levels stand.
use mathlib.Core.Path.{◌≡◌, refl, sym, ap, ap₂, subst, ◌∙◌}
use mathlib.Core.Bool.{Bool, cond}
use mathlib.Core.List.{List, map}
use Prim.Native.Nat.{ℕ, ◌+◌, ◌*◌, ◌<◌, ◌≤◌}
use native.Mathlib.Numerals.{add-one}
use native.Mathlib.Omega.{arith}
use lib.ListN.{set}
use Rattle.tables.specs.Lists.{tabulate}
use Rattle.tables.specs.Tables.{most_tables, most_cells, Row, columns_of, tables_of, rows_of}
use Rattle.tables.specs.Values.{most_levels, Env, ◌▸◌, cell_of}
use Rattle.tables.specs.declared.Value.{Value}
use Rattle.tables.specs.declared.Comparison.{Comparison}
use Rattle.tables.specs.declared.Connective.{Connective}
use Rattle.tables.specs.declared.Quantifier.{Quantifier}
use Rattle.tables.specs.declared.Quantifier.TheVariants.{Some}
use Rattle.tables.proofs.Tabulated.{tabulate_map}
use Rattle.cells.specs.Code.{seen_cell, place_in}
use Rattle.cells.specs.declared.Seen.{Seen}
use Rattle.cells.specs.declared.Place.{Place}
use Rattle.values.specs.Code.{row_from, Readable, ValueReady, Sees}
use Rattle.values.proofs.Rows.{TableAt}
use Rattle.values.proofs.Ranging.{NextRow, next_more, table_bounds, table_here_lem, row_deep, row_room as room_at, row_readable}
use Rattle.rule.specs.Condition.{Atom, Join, Apply, Exists, Listed, Rule, parts, froms_deep}
use Rattle.rule.specs.declared.Test.{Test}
use Rattle.rule.specs.declared.Unary.{Unary}
use Rattle.rule.specs.declared.FromClause.{FromClause}
use Rattle.rule.specs.declared.FromClause.TheVariants.{Single}
use Rattle.rule.specs.declared.Head.TheVariants.{AtomHead, JoinHead, UnaryHead, ExistsHead, ListedHead}
use Rattle.rule.specs.Names.{most_parts, within, ValueFits, FromFits, Fits}
use Rattle.rule.specs.Truth.{truth, is_true, not3, join3, deciding}
use Rattle.rule.specs.declared.Truth.{Truth}
use Rattle.rule.specs.declared.Truth.TheVariants.{False, True}
use Rattle.rule.specs.Meaning.{unary3, compare3, over3, meaning}
use Rattle.parts.specs.Parts.{Stands}
use Rattle.parts.proofs.Parts.{parts_low, IsJoin, IsUnary, IsExists, IsListed, is_test, is_join, is_unary, is_exists, is_listed}
use Rattle.evaluator.specs.Code.{empty_truth, TestReady, TestEvaluated, Evaluable, Evaluates, no_part, head_in, end_in, Joins, Ranges, Lists, RowReady, RowEvaluated}
use Rattle.evaluator.specs.declared.Evaluation.{Evaluation}
use Rattle.evaluator.proofs.Truths.{left_stop, not_kept, over_rows, over_two, over_decides, over_more, over_stop, Open, open_two}
use Rattle.evaluator.proofs.Rows.{exists_rows, listed_rows}
use Rattle.rule.proofs.Fits.{value_tested}

-- ---- rows

-- what EXISTS or a list makes of a row; one that a list does not retain counts as the value over no rows
unfoldable pub row_value : List ℕ → Env → Rule → Row → Truth
row_value file env (Atom x) row = False
row_value file env (Join j a b) row = False
row_value file env (Apply u a) row = False
row_value file env (Exists (Single t) w) row = truth (is_true (meaning (tables_of file) (env ▸ row) w))
row_value file env (Listed q op l s (Single t) w) row =
    cond (is_true (meaning (tables_of file) (env ▸ row) w)) (compare3 op (cell_of env l) (cell_of (env ▸ row) s)) (empty_truth q)

-- row k of the table at a place
abbrev row_of : List ℕ → Place → ℕ → Row
row_of file at k = row_from file (at.first + k * at.columns) at.columns

-- the first r rows of the table at a place have passed and none decided; value is what they come to
pub record RowsPassed (e : Evaluation) (w : List ℕ) (s depth : ℕ) (q : Quantifier) (at : Place) (r first : ℕ) (value : Truth) (v : List ℕ) : Type 0 where
  pub next : NextRow w depth at.first at.columns r first v
  pub undecided : Open q value
  pub value_is : (h : Evaluable e w s depth) → value ≡ over3 q (tabulate r (λ k. row_value e.file.now h.env h.rule (row_of e.file.now at k)))

module _ (e : Evaluation) (w : List ℕ) (s depth : ℕ) (q : Quantifier) (at : Place) where
  module _ {r first : ℕ} {value : Truth} {v : List ℕ} (passed : RowsPassed e w s depth q at r first value v)
      (row : Truth) (undecides : Open q row) (row_is : (h : Evaluable e w s depth) → row ≡ row_value e.file.now h.env h.rule (row_from e.file.now first at.columns)) where
    pub passed_more : (now : Truth) → now ≡ over_two q value row → RowsPassed e w s depth q at (r + 1) (first + at.columns) now (set v depth first)
    passed_more now is =
        record {
          next = next_more passed.next;
          undecided = λ z. open_two q value row passed.undecided undecides (sym is ∙ z);
          value_is = λ h.
              let f : ℕ → Truth = λ k. row_value e.file.now h.env h.rule (row_of e.file.now at k) in
              let next : row ≡ f r = row_is h ∙ ap (λ (k : ℕ). row_value e.file.now h.env h.rule (row_from e.file.now k at.columns)) passed.next.first_is in
              rw (add-one r) (is ∙ ap₂ (over_two q) (passed.value_is h) next ∙ sym (over_more q r f));
        }

-- ---- a part with its inner parts, by what it says

module _ {e : Evaluation} {w : List ℕ} {s depth : ℕ} (h : Evaluable e w s depth) where
  -- v is the rule's value
  abbrev Means : Truth → Type 0
  Means v = v ≡ meaning (tables_of e.file.now) h.env h.rule

  pub start : s < most_parts
  start = omega (arith, h.few, parts_low h.rule)

  -- what is known of the rule, said of what it is
  module _ {r : Rule} (is : h.rule ≡ r) where
    fits_as : Fits (columns_of e.file.now) h.levels r
    fits_as = subst (Fits (columns_of e.file.now) h.levels) is h.fits

    few_as : s + parts r ≤ most_parts
    few_as = subst (λ r. s + parts r ≤ most_parts) is h.few

    room_as : depth + froms_deep r ≤ most_levels
    room_as = subst (λ r. depth + froms_deep r ≤ most_levels) is h.room

    means_as : meaning (tables_of e.file.now) h.env r ≡ meaning (tables_of e.file.now) h.env h.rule
    means_as = ap (meaning (tables_of e.file.now) h.env) (sym is)

  -- a rule under the same levels
  inner_as : (k : ℕ) (r : Rule) → k + parts r ≤ most_parts → Stands e.parts.now k r → depth + froms_deep r ≤ most_levels
      → Fits (columns_of e.file.now) h.levels r → Evaluable e w k depth
  inner_as k r few stands room fits =
      record {
        levels = h.levels;
        env = h.env;
        rule = r;
        readable = h.readable;
        few = few;
        stands = stands;
        deep = h.deep;
        room = room;
        fits = fits;
      }

  -- ---- a test

  module _ {t : Test Value} (head : head_in e s ≡ AtomHead t) where
    test_is : h.rule ≡ Atom t
    test_is = (is_test e.parts.now s h.rule h.stands no_part t head).is

    pub test_ready : TestReady e w t
    unfolding Fits
    test_ready = record { levels = h.levels; env = h.env; readable = h.readable; fits = fits_as test_is }

    pub test_evaluated : {v : Truth} → TestEvaluated e w t v → Means v
    unfolding test_ready meaning
    test_evaluated evaluated = evaluated test_ready ∙ means_as test_is

  -- ---- NOT and the truth tests

  module _ {u : Unary} (head : head_in e s ≡ UnaryHead u) where
    unary_here : IsUnary e.parts.now s u h.rule
    unary_here = is_unary e.parts.now s h.rule h.stands no_part u head

    pub unary_inner : Evaluable e w (s + 1) depth
    unfolding parts froms_deep Fits
    unary_inner =
        inner_as (s + 1) unary_here.inner (omega (arith, few_as unary_here.is)) unary_here.inner_stands (room_as unary_here.is) (fits_as unary_here.is)

    pub unary_evaluated : {v r : Truth} → Evaluates e w (s + 1) depth v → r ≡ unary3 u v → Means r
    unfolding meaning unary_inner inner_as
    unary_evaluated evaluated is = is ∙ ap (unary3 u) (evaluated unary_inner) ∙ means_as unary_here.is

  -- ---- AND and OR

  module _ {j : Connective} (head : head_in e s ≡ JoinHead j) where
    join_here : IsJoin e.parts.now s j h.rule
    join_here = is_join e.parts.now s h.rule h.stands no_part j head

    abbrev next : ℕ
    next = end_in e (s + 1)

    pub join_known : Joins e w s depth j
    unfolding parts
    join_known =
        let n = join_here.next no_part in
        let f = few_as join_here.is in
        let a = parts_low join_here.left in
        let b = parts_low join_here.right in
        record { whole = h; head = head; right_low = omega arith; right_high = omega arith }

    pub left_inner : Evaluable e w (s + 1) depth
    unfolding parts froms_deep Fits
    left_inner =
        let is = join_here.is in
        inner_as (s + 1) join_here.left (omega (arith, few_as is)) join_here.left_stands (omega (arith, room_as is)) (fits_as is).0

    pub right_inner : Evaluable e w next depth
    unfolding parts froms_deep Fits
    right_inner =
        let is = join_here.is in
        let n = join_here.next no_part in
        let f = few_as is in
        inner_as next join_here.right (omega arith) (rw n join_here.right_stands) (omega (arith, room_as is)) (fits_as is).1

    module _ {a : Truth} (left : Evaluates e w (s + 1) depth a) where
      left_value : a ≡ meaning (tables_of e.file.now) h.env join_here.left
      unfolding left_inner inner_as
      left_value = left left_inner

      pub join_stops : a ≡ deciding j → Means a
      unfolding meaning
      join_stops is = is ∙ left_stop j _ (meaning (tables_of e.file.now) h.env join_here.right) (sym left_value ∙ is) ∙ means_as join_here.is

      pub join_evaluated : {b v : Truth} → Evaluates e w next depth b → v ≡ join3 j a b → Means v
      unfolding meaning right_inner inner_as
      join_evaluated right is = is ∙ ap₂ (join3 j) left_value (right right_inner) ∙ means_as join_here.is

  -- ---- the rows of a table

  -- EXISTS and lists: the rule that is evaluated at the rows of the table
  pub record Ranging (table : ℕ) : Type 0 where
    pub inner : Rule
    pub table_fits : FromFits (columns_of e.file.now) (Single table)
    pub inner_stands : Stands e.parts.now (s + 1) inner
    pub inner_few : s + 1 + parts inner ≤ most_parts
    pub inner_room : depth + 1 + froms_deep inner ≤ most_levels
    pub inner_fits : Fits (columns_of e.file.now) (within h.levels (Single table)) inner

  module _ {table : ℕ} where
    abbrev ranging : (inner : Rule) → FromFits (columns_of e.file.now) (Single table) → Stands e.parts.now (s + 1) inner → s + (1 + parts inner) ≤ most_parts
        → depth + (1 + froms_deep inner) ≤ most_levels → Fits (columns_of e.file.now) (within h.levels (Single table)) inner → Ranging table
    ranging inner fits stands few room inner_fits =
        record {
          inner = inner;
          table_fits = fits;
          inner_stands = stands;
          inner_few = omega arith;
          inner_room = omega arith;
          inner_fits = inner_fits;
        }

    -- the bounds of its numbers
    table_high : Ranging table → table ≤ most_tables
    table_high a = (table_bounds h.readable table a.table_fits).1

    shallow : Ranging table → depth < most_levels
    shallow a = omega (arith, a.inner_room)

    -- at is where that table stands
    module _ (a : Ranging table) {at : Place} (there : at ≡ place_in e.layout.now table) where
      table_here : TableAt e.file.now table at.first at.columns at.rows
      table_here = subst (λ o. TableAt e.file.now table o.first o.columns o.rows) (sym there) (table_here_lem h.readable table a.table_fits)

      abbrev row_here : ℕ → Row
      row_here first = row_from e.file.now first at.columns

      module _ {q : Quantifier} {r first : ℕ} {value : Truth} {v : List ℕ} (below : r < at.rows) (passed : RowsPassed e w s depth q at r first value v) where
        abbrev NextAt : Place → Type 0
        NextAt o = (r < o.rows) × NextRow w depth o.first o.columns r first v

        next_at : NextAt (place_in e.layout.now table)
        next_at = subst NextAt there (below, passed.next)

        pub row_room : first + at.columns ≤ most_cells
        row_room = rw there (room_at h.readable table a.table_fits h.deep next_at.0 next_at.1)

        row_seen : Readable e.layout.now e.file.now (set v depth first) (within h.levels (Single table)) (h.env ▸ row_here first)
        row_seen = rw there (row_readable h.readable table a.table_fits h.deep next_at.0 next_at.1 (shallow a))

        pub row_inner : Evaluable e (set v depth first) (s + 1) (depth + 1)
        row_inner =
            record {
              levels = within h.levels (Single table);
              env = h.env ▸ row_here first;
              rule = a.inner;
              readable = row_seen;
              few = a.inner_few;
              stands = a.inner_stands;
              deep = row_deep h.readable table a.table_fits h.deep;
              room = a.inner_room;
              fits = a.inner_fits;
            }

      -- its rows one after the other, and as a whole
      abbrev rows_here : ℕ → List Truth
      rows_here n = tabulate n (λ k. row_value e.file.now h.env h.rule (row_of e.file.now at k))

      rows_as : {r : Rule} (q : Quantifier) → h.rule ≡ r
          → over3 q (rows_here at.rows) ≡ over3 q (map (row_value e.file.now h.env r) (rows_of (tables_of e.file.now) table))
      rows_as q is =
          ap (over3 q) (sym (tabulate_map (row_value e.file.now h.env h.rule) at.rows (row_of e.file.now at)))
          ∙ ap (λ rows. over3 q (map (row_value e.file.now h.env h.rule) rows)) (sym table_here.rows_are)
          ∙ ap (λ (r : Rule). over3 q (map (row_value e.file.now h.env r) (rows_of (tables_of e.file.now) table))) is

      module _ {q : Quantifier} {r first : ℕ} {value : Truth} {v : List ℕ} (whole : over3 q (rows_here at.rows) ≡ meaning (tables_of e.file.now) h.env h.rule)
          (passed : RowsPassed e w s depth q at r first value v) where
        row_decides : r < at.rows → {row : Truth} → row ≡ row_value e.file.now h.env h.rule (row_here first) → row ≡ deciding (over_rows q) → Means row
        row_decides below {row} row_is is =
            let f : ℕ → Truth = λ k. row_value e.file.now h.env h.rule (row_of e.file.now at k) in
            let next : row ≡ f r = row_is ∙ ap (λ (k : ℕ). row_value e.file.now h.env h.rule (row_from e.file.now k at.columns)) passed.next.first_is in
            is ∙ over_stop q at.rows f r below (sym next ∙ is) ∙ whole

        rows_end : r ≡ at.rows → Means value
        rows_end end = passed.value_is h ∙ ap (λ (n : ℕ). over3 q (rows_here n)) end ∙ whole

  -- ---- EXISTS

  module _ {table : ℕ} (head : head_in e s ≡ ExistsHead (Single table)) where
    exists_here : IsExists e.parts.now s (Single table) h.rule
    exists_here = is_exists e.parts.now s h.rule h.stands no_part (Single table) head

    pub exists_ranging : Ranging table
    unfolding parts froms_deep Fits
    exists_ranging =
        let is = exists_here.is in
        ranging exists_here.inner (fits_as is).0 exists_here.inner_stands (few_as is) (room_as is) (fits_as is).1

    pub exists_known : Ranges e w s depth table
    exists_known = record { whole = h; head = head; table_high = table_high exists_ranging; shallow = shallow exists_ranging }

    module _ {at : Place} (there : at ≡ place_in e.layout.now table) where
      exists_whole : over3 Some (rows_here exists_ranging there at.rows) ≡ meaning (tables_of e.file.now) h.env h.rule
      unfolding row_value
      exists_whole =
          rows_as exists_ranging there Some exists_here.is ∙ exists_rows (tables_of e.file.now) h.env table exists_here.inner ∙ means_as exists_here.is

      module _ {r first : ℕ} {v : List ℕ} (below : r < at.rows) (passed : RowsPassed e w s depth Some at r first False v) where
        pub exists_room : first + at.columns ≤ most_cells
        exists_room = row_room exists_ranging there below passed

        pub exists_inner : Evaluable e (set v depth first) (s + 1) (depth + 1)
        exists_inner = row_inner exists_ranging there below passed

        module _ {kept : Truth} (evaluated : Evaluates e (set v depth first) (s + 1) (depth + 1) kept) where
          exists_value : truth (is_true kept) ≡ row_value e.file.now h.env h.rule (row_from e.file.now first at.columns)
          unfolding exists_inner row_inner exists_ranging row_value
          exists_value =
              ap (λ a. truth (is_true a)) (evaluated exists_inner) ∙ sym (ap (λ r. row_value e.file.now h.env r (row_from e.file.now first at.columns)) exists_here.is)

          pub exists_true : kept ≡ True → Means True
          exists_true is = row_decides exists_ranging there exists_whole passed below (ap (λ a. truth (is_true a)) (sym is) ∙ exists_value) refl

          pub exists_lost : (kept ≡ True → ⊥) → False ≡ row_value e.file.now h.env h.rule (row_from e.file.now first at.columns)
          exists_lost f = ap truth (sym (not_kept kept f)) ∙ exists_value

      pub exists_false : {r first : ℕ} {v : List ℕ} → RowsPassed e w s depth Some at r first False v → r ≡ at.rows → Means False
      exists_false passed end = rows_end exists_ranging there exists_whole passed end

  -- ---- SOME and ALL

  module _ {q : Quantifier} {op : Comparison} {left selected : Value} {table : ℕ} (head : head_in e s ≡ ListedHead q op left selected (Single table)) where
    listed_here : IsListed e.parts.now s q op left selected (Single table) h.rule
    listed_here = is_listed e.parts.now s h.rule h.stands no_part q op left selected (Single table) head

    pub listed_ranging : Ranging table
    unfolding parts froms_deep Fits
    listed_ranging =
        let is = listed_here.is in
        ranging listed_here.inner (fits_as is).0 listed_here.inner_stands (few_as is) (room_as is) (fits_as is).3

    listed_bounds : (table ≤ most_tables) × (depth < most_levels)
    listed_bounds = (table_high listed_ranging, shallow listed_ranging)

    outer_fits : ValueFits (columns_of e.file.now) h.levels left
    unfolding Fits
    outer_fits = (fits_as listed_here.is).1

    selected_fits : ValueFits (columns_of e.file.now) (within h.levels (Single table)) selected
    unfolding Fits
    selected_fits = (fits_as listed_here.is).2

    pub outer_ready : ValueReady e.layout.now e.file.now w left
    outer_ready =
        record { levels = h.levels; env = h.env; readable = h.readable; fits = value_tested (columns_of e.file.now) h.levels left outer_fits }

    abbrev kept : Row → Bool
    kept row = is_true (meaning (tables_of e.file.now) (h.env ▸ row) listed_here.inner)

    module _ {at : Place} (there : at ≡ place_in e.layout.now table) where
      listed_whole : over3 q (rows_here listed_ranging there at.rows) ≡ meaning (tables_of e.file.now) h.env h.rule
      unfolding row_value
      listed_whole =
          rows_as listed_ranging there q listed_here.is
          ∙ listed_rows (tables_of e.file.now) h.env table listed_here.inner q op left selected
          ∙ means_as listed_here.is

      module _ {r first : ℕ} {value : Truth} {v : List ℕ} (below : r < at.rows) (passed : RowsPassed e w s depth q at r first value v) where
        pub listed_room : first + at.columns ≤ most_cells
        listed_room = row_room listed_ranging there below passed

        pub row_ready : RowReady e (set v depth first) s (depth + 1) selected
        unfolding row_inner listed_ranging
        row_ready = record { inner = row_inner listed_ranging there below passed; selected_fits = selected_fits }

        module _ (x : Seen) (sees : Sees e.layout.now e.file.now w left x) {empty row : Truth} (none_is : empty ≡ empty_truth q)
            (evaluated : RowEvaluated e (set v depth first) s (depth + 1) op x selected empty row) where
          outer_seen : seen_cell x ≡ cell_of h.env left
          unfolding outer_ready
          outer_seen = sees outer_ready

          pub row_valued : row ≡ row_value e.file.now h.env h.rule (row_from e.file.now first at.columns)
          unfolding row_ready row_inner listed_ranging row_value
          row_valued =
              let here = row_here listed_ranging there first in
              evaluated row_ready
              ∙ ap₂ (λ c e. cond (kept here) (compare3 op c (cell_of (h.env ▸ here) selected)) e) outer_seen none_is
              ∙ sym (ap (λ r. row_value e.file.now h.env r (row_from e.file.now first at.columns)) listed_here.is)

          pub listed_decides : row ≡ not3 empty → Means row
          listed_decides is = row_decides listed_ranging there listed_whole passed below row_valued (is ∙ ap not3 none_is ∙ over_decides q)

      pub listed_ends : {r first : ℕ} {value : Truth} {v : List ℕ} → RowsPassed e w s depth q at r first value v → r ≡ at.rows → Means value
      listed_ends passed end = rows_end listed_ranging there listed_whole passed end

-- a list, by its FROM
module _ {e : Evaluation} {w : List ℕ} {s depth : ℕ} (h : Evaluable e w s depth) {q : Quantifier} {op : Comparison} {left selected : Value} where
  pub listed_known : (f : FromClause ℕ) → head_in e s ≡ ListedHead q op left selected f → Lists e w s depth
  listed_known (Single t) head =
      let b = listed_bounds h head in
      record {
        whole = h;
        quantifier = q;
        comparison = op;
        left = left;
        selected = selected;
        table = t;
        head = head;
        table_high = b.0;
        shallow = b.1;
      }

-- ---- a list at one row

module _ {e : Evaluation} {v : List ℕ} {s depth : ℕ} {selected : Value} (h : RowReady e v s depth selected) where
  pub selected_ready : ValueReady e.layout.now e.file.now v selected
  selected_ready =
      record {
        levels = h.inner.levels;
        env = h.inner.env;
        readable = h.inner.readable;
        fits = value_tested (columns_of e.file.now) h.inner.levels selected h.selected_fits;
      }

  module _ {kept : Truth} (evaluated : Evaluates e v (s + 1) depth kept) (op : Comparison) (x : Seen) (empty : Truth) where
    abbrev Comes : Truth → Type 0
    Comes r = r ≡ cond (is_true (meaning (tables_of e.file.now) h.inner.env h.inner.rule)) (compare3 op (seen_cell x) (cell_of h.inner.env selected)) empty

    pub row_compared : kept ≡ True → (y : Seen) → Sees e.layout.now e.file.now v selected y → {r : Truth} → r ≡ compare3 op (seen_cell x) (seen_cell y) → Comes r
    unfolding selected_ready
    row_compared is y sees told = rw (← evaluated h.inner, is, ← sees selected_ready) told
