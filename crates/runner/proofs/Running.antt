-- What an entry with its inner ones asks for and answers, by what it says: from a card that stands in an array, and from the rows at which the levels stand.
use mathlib.Core.Path.{◌≡◌, refl, sym, ap, ap₂, subst, ◌∙◌}
use mathlib.Core.Bool.{Bool, true, false, not, beq, true≢false, false≢true}
use mathlib.Core.List.{List, [], ◌∷◌, ◌++◌}
use mathlib.Core.Logic.{⊎_elim}
use Prim.Native.Nat.{ℕ, zero, suc, ◌+◌, ◌*◌, ◌<◌, ◌≤◌, suc-le-suc}
use native.Mathlib.Nat.{le_of_suc-le-suc, not-suc-le-zero, eq-or-lt_of_le}
use native.Mathlib.Omega.{arith}
use denote.Enum.Bare.{sameb}
use lib.Dec.{T, leb, leb→le}
use lib.ListN.{length, get_or, set, length-set}
use lib.Seq.{get_or-set_other}
use Rattle.std.proofs.Math.Option.{some}
use Rattle.tables.specs.Lists.{tabulate}
use Rattle.tables.specs.Bytes.{between}
use Rattle.tables.specs.Tables.{most_tables, most_cells, Row, columns_of, tables_of}
use Rattle.tables.specs.Values.{most_levels, Env, ◌▸◌}
use Rattle.tables.specs.declared.Connective.{Connective}
use Rattle.tables.specs.declared.Connective.TheVariants.{And, Or}
use Rattle.tables.proofs.Tests.{both}
use Rattle.card.specs.Card.{most_row_entries, Card, LeafEntry, PairEntry, RowEntry, leaf_says, joined, over_rows, answer, leaf_fits, row_entry_fits, card_fits}
use Rattle.card.specs.declared.Leaf.{Leaf}
use Rattle.card.specs.declared.Head.TheVariants.{LeafHead, PairHead, RowHead}
use Rattle.decoder.specs.Code.{next_end_in, head_at, Coded}
use Rattle.decoder.proofs.Coded.{coded_less, coded_end, PairParts, RowParts, pair_of, row_of, leaf_of}
use Rattle.values.specs.Code.{row_from, Readable}
use Rattle.values.proofs.Ranging.{first_at, columns_at, rows_at, NextRow, table_bounds, table_here_lem, row_deep, row_room as room_at, row_readable}
use Rattle.cells.specs.Code.{place_in}
use Rattle.cells.specs.declared.Place.{Place}
use Rattle.runner.specs.Code.{LeafReady, LeafAnswers, quantifier_by, TableReady, LeafRowsReady, Runnable, connective_by, PairRunnable, RowsRunnable}
use Rattle.runner.specs.declared.Run.{Run}

-- ---- the answers of two entries, and over rows

-- no of the first entry decides an and, and yes an or; else the second entry decides; and so do no and yes of the second
joined_stop : (o a b : Bool) → beq a o ≡ true → a ≡ joined (connective_by o) a b
joined_stop true true b p = refl
joined_stop true false b p = absurd (false≢true p)
joined_stop false true b p = absurd (false≢true p)
joined_stop false false b p = refl

joined_on : (o a b : Bool) → beq a o ≡ false → b ≡ joined (connective_by o) a b
joined_on true true b p = absurd (true≢false p)
joined_on true false b p = refl
joined_on false true b p = refl
joined_on false false b p = absurd (true≢false p)

joined_last : (o a : Bool) {b : Bool} → o ≡ b → o ≡ joined (connective_by o) a b
joined_last true true e = refl
joined_last true false e = e
joined_last false true e = e
joined_last false false e = refl

module _ (p : Row → Bool) where
  over_end : (q : Bool) (n : ℕ) (f : ℕ → Row) → ((k : ℕ) → k < n → p (f k) ≡ q) → q ≡ over_rows (quantifier_by q) p (tabulate n f)
  over_end false zero f h = refl
  over_end true zero f h = refl
  over_end false (suc n) f h = rw (h 0 (omega arith)) (over_end false n (λ k. f (suc k)) (λ k l. h (suc k) (suc-le-suc l)))
  over_end true (suc n) f h = rw (h 0 (omega arith)) (over_end true n (λ k. f (suc k)) (λ k l. h (suc k) (suc-le-suc l)))

  over_stop : (q : Bool) (n : ℕ) (f : ℕ → Row) (k : ℕ) → k < n → p (f k) ≡ not q → not q ≡ over_rows (quantifier_by q) p (tabulate n f)
  over_stop q zero f k l e = absurd (not-suc-le-zero l)
  over_stop false (suc n) f zero l e = rw e
  over_stop true (suc n) f zero l e = rw e
  over_stop false (suc n) f (suc k) l e = joined_last true (p (f 0)) (over_stop false n (λ k. f (suc k)) k (le_of_suc-le-suc l) e)
  over_stop true (suc n) f (suc k) l e = joined_last false (p (f 0)) (over_stop true n (λ k. f (suc k)) k (le_of_suc-le-suc l) e)

pub differ : (a q : Bool) → not (beq a q) ≡ true → a ≡ not q
differ true true h = absurd (false≢true h)
differ true false h = refl
differ false true h = refl
differ false false h = absurd (false≢true h)

pub agree : (a q : Bool) → not (beq a q) ≡ false → a ≡ q
agree true true h = refl
agree true false h = absurd (true≢false h)
agree false true h = absurd (true≢false h)
agree false false h = refl

-- ---- the loop over a table's rows

module _ (columns levels : List ℕ) (table : ℕ) (fits : T (row_entry_fits columns levels table)) where
  table_parts : T (between 1 (length columns) table) × T (leb (length levels) most_row_entries)
  table_parts = both (between 1 (length columns) table) (leb (length levels) most_row_entries) fits

  table_between : T (between 1 (length columns) table)
  table_between = table_parts.0

  few_levels : length levels ≤ most_row_entries
  few_levels = leb→le (length levels) most_row_entries table_parts.1

module _ {run : Run} {w : List ℕ} {depth table : ℕ} (h : TableReady run w depth table) where
  pub table_there : T (between 1 (length (columns_of run.file.now)) table)
  table_there = table_between (columns_of run.file.now) h.levels table h.fits

  -- a row of the table
  abbrev pub row_by : ℕ → Row
  row_by r =
      row_from run.file.now (first_at run.layout.now table + r * columns_at run.layout.now table)
      (columns_at run.layout.now table)

  -- the levels with it
  abbrev pub env_by : ℕ → Env
  env_by r = h.env ▸ row_by r

  -- the answer over the rows, by what the entry inside says at each
  rows_answer : (q : Bool) (c : Card) → over_rows (quantifier_by q) (λ row. answer (tables_of run.file.now) (h.env ▸ row) c)
      (tabulate (rows_at run.layout.now table) row_by) ≡ answer (tables_of run.file.now) h.env (RowEntry (quantifier_by q) table c)
  unfolding answer
  rows_answer q c =
      sym (ap (over_rows (quantifier_by q) (λ row. answer (tables_of run.file.now) (h.env ▸ row) c)) (table_here_lem h.readable table table_there).rows_are)

-- the levels around the row stand where they stood, and the rows before it say q: for whatever gives levels and rows, and the entry inside
pub record RowsPassed (run : Run) (w : List ℕ) (depth table : ℕ) (H : Type 0) (ready : H → TableReady run w depth table) (inner : H → Card) (q : Bool) (v : List ℕ) (row : ℕ) : Type 0 where
  pub long : length v ≡ most_levels
  pub same : (l : ℕ) → l < depth → get_or v l 0 ≡ get_or w l 0
  pub each : (h : H) (r : ℕ) → r < row → answer (tables_of run.file.now) (env_by (ready h) r) (inner h) ≡ q

module _ {run : Run} {w : List ℕ} {depth table : ℕ} {H : Type 0} {ready : H → TableReady run w depth table} {inner : H → Card} {q : Bool}
    {place : Place} (is : place ≡ place_in run.layout.now table) {v : List ℕ} {row : ℕ} (passed : RowsPassed run w depth table H ready inner q v row) where
  pub passed_more : ((h : H) → answer (tables_of run.file.now) (env_by (ready h) row) (inner h) ≡ q) → (n : ℕ)
      → RowsPassed run w depth table H ready inner q (set v depth n) (row + 1)
  passed_more new n =
      record {
        long = length-set v depth n ∙ passed.long;
        same = λ l m. get_or-set_other v depth l n 0 (λ z. omega arith) ∙ passed.same l m;
        each = λ h r m. ⊎_elim (λ z. rw z (new h)) (λ z. passed.each h r z) (eq-or-lt_of_le {n = r} {m = row} (omega arith));
      }

  module _ (h : H) where
    pub rows_end : place.rows ≤ row → q ≡ answer (tables_of run.file.now) (ready h).env (RowEntry (quantifier_by q) table (inner h))
    rows_end end =
        let past = rw is at end in
        over_end _ q (rows_at run.layout.now table) (row_by (ready h)) (λ r m. passed.each h r (omega arith)) ∙ rows_answer (ready h) q (inner h)

    module _ (below : row < place.rows) where
      row_below : row < rows_at run.layout.now table
      row_below = rw is at below

      next : NextRow w depth (first_at run.layout.now table) (columns_at run.layout.now table)
          row (first_at run.layout.now table + row * columns_at run.layout.now table) v
      next = record { first_is = refl; long = passed.long; same = passed.same }

      pub row_room : place.first + row * place.columns + place.columns ≤ most_cells
      row_room = rw is (room_at (ready h).readable table (table_there (ready h)) (ready h).deep row_below next)

      pub row_stops : {a : Bool} → a ≡ answer (tables_of run.file.now) (env_by (ready h) row) (inner h) → a ≡ not q
          → a ≡ answer (tables_of run.file.now) (ready h).env (RowEntry (quantifier_by q) table (inner h))
      row_stops says z = z ∙ over_stop _ q _ (row_by (ready h)) row row_below (sym says ∙ z) ∙ rows_answer (ready h) q (inner h)

      pub inner_readable : Readable run.layout.now run.file.now (set v depth (place.first + row * place.columns)) ((ready h).levels ++ (table ∷ []))
          (env_by (ready h) row)
      inner_readable = rw is (row_readable (ready h).readable table (table_there (ready h)) (ready h).deep row_below next (ready h).shallow)

-- ---- the rows, where the entry inside has no inner ones

abbrev pub LeafPassed : (run : Run) (w : List ℕ) (leaf : Leaf) (depth table : ℕ) (q : Bool) (v : List ℕ) (row : ℕ) → Type 0
LeafPassed run w leaf depth table q v row = RowsPassed run w depth table (LeafRowsReady run w leaf depth table) (λ h. h.rows) (λ h. LeafEntry leaf) q v row

module _ {run : Run} {w : List ℕ} {leaf : Leaf} {depth table : ℕ} {q : Bool} {place : Place} (is : place ≡ place_in run.layout.now table)
    {v : List ℕ} {row : ℕ} (passed : LeafPassed run w leaf depth table q v row) (h : LeafRowsReady run w leaf depth table) (below : row < place.rows) where
  abbrev pub leaf_row_ready : LeafReady run (set v depth (place.first + row * place.columns)) leaf
  leaf_row_ready =
      record { levels = h.rows.levels ++ (table ∷ []); env = env_by h.rows row; readable = inner_readable is passed h below; fits = h.fits }

  pub leaf_row_says : {r : Bool} → LeafAnswers run (set v depth (place.first + row * place.columns)) leaf r
      → r ≡ answer (tables_of run.file.now) (env_by h.rows row) (LeafEntry leaf)
  unfolding answer
  leaf_row_says says = says leaf_row_ready

-- ---- running an entry

module _ {run : Run} {w : List ℕ} {s e depth : ℕ} (h : Runnable run w s e depth) where
  -- the card fits, said of what it is known to be
  fits_as : (c : Card) → h.card ≡ c → T (card_fits (columns_of run.file.now) h.levels c)
  fits_as c e = subst (λ c. T (card_fits (columns_of run.file.now) h.levels c)) e h.fits

  answer_as : {c : Card} {r : Bool} → h.card ≡ c → r ≡ answer (tables_of run.file.now) h.env c → r ≡ answer (tables_of run.file.now) h.env h.card
  answer_as e p = p ∙ sym (ap (answer (tables_of run.file.now) h.env) e)

  -- an entry without inner ones
  module _ {leaf : Leaf} (k : head_at run.entries.now s ≡ some (LeafHead leaf)) where
    pub leaf_fits_lem : T (leaf_fits (columns_of run.file.now) h.levels leaf)
    unfolding card_fits
    leaf_fits_lem = fits_as (LeafEntry leaf) (leaf_of h.coded leaf k).0

    abbrev pub leaf_ready : LeafReady run w leaf
    leaf_ready = record { levels = h.levels; env = h.env; readable = h.readable; fits = leaf_fits_lem }

    pub leaf_answer : {r : Bool} → r ≡ leaf_says h.env leaf → r ≡ answer (tables_of run.file.now) h.env h.card
    unfolding answer
    leaf_answer p = answer_as (leaf_of h.coded leaf k).0 p

  -- two inner entries
  module _ (o : Bool) (k : head_at run.entries.now s ≡ some (PairHead (connective_by o))) where
    pub pair_here : PairParts run.entries.now s e h.card (connective_by o)
    pair_here = pair_of h.coded (connective_by o) k

    middle_is : pair_here.middle ≡ next_end_in run.entries.now s
    middle_is = sym (coded_end pair_here.left_coded)

    pub left_coded : Coded run.entries.now (s + 1) (next_end_in run.entries.now s) pair_here.left
    left_coded = rw middle_is at pair_here.left_coded

    pub right_coded : Coded run.entries.now (next_end_in run.entries.now s) e pair_here.right
    right_coded = rw middle_is at pair_here.right_coded

    pub middle : (s + 1 < next_end_in run.entries.now s) × (next_end_in run.entries.now s < e)
    middle = (coded_less left_coded, coded_less right_coded)

    pub pair_fits : T (card_fits (columns_of run.file.now) h.levels pair_here.left) × T (card_fits (columns_of run.file.now) h.levels pair_here.right)
    unfolding card_fits
    pair_fits = both (card_fits (columns_of run.file.now) h.levels pair_here.left) _ (fits_as (PairEntry (connective_by o) pair_here.left pair_here.right) pair_here.is)

    pub pair_run : PairRunnable run w s e depth o
    pair_run = record { whole = h; head = k; middle_low = middle.0; middle_high = middle.1 }

    pub left_room : next_end_in run.entries.now s ≤ length run.entries.now
    left_room = omega (arith, middle.1, h.room)

    abbrev pub left_run : Runnable run w (s + 1) (next_end_in run.entries.now s) depth
    left_run =
        record {
          levels = h.levels;
          env = h.env;
          card = pair_here.left;
          readable = h.readable;
          coded = left_coded;
          started = coded_less left_coded;
          deep = h.deep;
          room = left_room;
          fits = pair_fits.0;
        }

    abbrev pub right_run : Runnable run w (next_end_in run.entries.now s) e depth
    right_run =
        record {
          levels = h.levels;
          env = h.env;
          card = pair_here.right;
          readable = h.readable;
          coded = right_coded;
          started = coded_less right_coded;
          deep = h.deep;
          room = h.room;
          fits = pair_fits.1;
        }

    pair_answer : joined (connective_by o) (answer (tables_of run.file.now) h.env pair_here.left) (answer (tables_of run.file.now) h.env pair_here.right)
        ≡ answer (tables_of run.file.now) h.env h.card
    unfolding answer
    pair_answer = answer_as pair_here.is refl

    module _ {a : Bool} (left : a ≡ answer (tables_of run.file.now) h.env pair_here.left) where
      pub left_decides : beq a o ≡ true → a ≡ answer (tables_of run.file.now) h.env h.card
      left_decides p = joined_stop o a (answer (tables_of run.file.now) h.env pair_here.right) p ∙ ap₂ (joined (connective_by o)) left refl ∙ pair_answer

      pub right_decides : beq a o ≡ false → {r : Bool} → r ≡ answer (tables_of run.file.now) h.env pair_here.right
          → r ≡ answer (tables_of run.file.now) h.env h.card
      right_decides p {r} right = joined_on o a r p ∙ ap₂ (joined (connective_by o)) left right ∙ pair_answer

  -- some row of a table, or every row
  module _ (q : Bool) {table : ℕ} (k : head_at run.entries.now s ≡ some (RowHead (quantifier_by q) table)) where
    pub row_here : RowParts run.entries.now s e h.card (quantifier_by q) table
    row_here = row_of h.coded (quantifier_by q) table k

    pub rows_fit : T (row_entry_fits (columns_of run.file.now) h.levels table)
        × T (card_fits (columns_of run.file.now) (h.levels ++ (table ∷ [])) row_here.inner)
    unfolding card_fits
    rows_fit =
        both (row_entry_fits (columns_of run.file.now) h.levels table) _
        (fits_as (RowEntry (quantifier_by q) table row_here.inner) row_here.is)

    pub table_bounded : (table ≤ most_tables) × (depth < most_levels)
    table_bounded =
        let there = table_between (columns_of run.file.now) h.levels table rows_fit.0 in
        let few = few_levels (columns_of run.file.now) h.levels table rows_fit.0 in
        ((table_bounds h.readable table there).1, omega (arith, few, h.deep))

    abbrev pub table_ready : TableReady run w depth table
    table_ready =
        record {
          levels = h.levels;
          env = h.env;
          readable = h.readable;
          deep = h.deep;
          fits = rows_fit.0;
          table_high = table_bounded.0;
          shallow = table_bounded.1;
        }

    abbrev pub rows_run : RowsRunnable run w s e depth table q
    rows_run = record { whole = h; head = k; table_high = table_bounded.0; shallow = table_bounded.1; inner = coded_less row_here.inner_coded }

    pub row_answer : {r : Bool} → r ≡ answer (tables_of run.file.now) h.env (RowEntry (quantifier_by q) table row_here.inner)
        → r ≡ answer (tables_of run.file.now) h.env h.card
    row_answer p = answer_as row_here.is p

    -- the entry inside has no inner ones
    module _ {leaf : Leaf} (inside : head_at run.entries.now (s + 1) ≡ some (LeafHead leaf)) where
      inner_is : row_here.inner ≡ LeafEntry leaf
      inner_is = (leaf_of row_here.inner_coded leaf inside).0

      pub inner_fits : T (leaf_fits (columns_of run.file.now) (h.levels ++ (table ∷ [])) leaf)
      unfolding card_fits
      inner_fits = subst (λ c. T (card_fits (columns_of run.file.now) (h.levels ++ (table ∷ [])) c)) inner_is rows_fit.1

      abbrev pub leaf_rows_ready : LeafRowsReady run w leaf depth table
      leaf_rows_ready = record { rows = table_ready; fits = inner_fits }

      pub leaf_rows_answer : {r : Bool} → r ≡ answer (tables_of run.file.now) h.env (RowEntry (quantifier_by q) table (LeafEntry leaf))
          → r ≡ answer (tables_of run.file.now) h.env h.card
      leaf_rows_answer p = row_answer (p ∙ sym (ap (λ c. answer (tables_of run.file.now) h.env (RowEntry (quantifier_by q) table c)) inner_is))

-- two inner entries, of which the left one has none of its own
abbrev pub is_or : Connective → Bool
is_or And = false
is_or Or = true

pub or_told : (j : Connective) → sameb Rattle.tables.specs.contracts.Connective.the_type j Or ≡ is_or j
or_told And = refl
or_told Or = refl

by_or : (j : Connective) → j ≡ connective_by (is_or j)
by_or And = refl
by_or Or = refl

module _ {run : Run} {w : List ℕ} {s e depth : ℕ} (h : Runnable run w s e depth) {j : Connective} (k : head_at run.entries.now s ≡ some (PairHead j)) where
  pub head_by_or : head_at run.entries.now s ≡ some (PairHead (connective_by (is_or j)))
  head_by_or = k ∙ ap (λ (j : Connective). some (PairHead j)) (by_or j)

  pub middle_here : (s + 1 < next_end_in run.entries.now s) × (next_end_in run.entries.now s < e)
  middle_here = middle h (is_or j) head_by_or

  abbrev pub right_here : Runnable run w (next_end_in run.entries.now s) e depth
  right_here = right_run h (is_or j) head_by_or

  module _ {leaf : Leaf} (inside : head_at run.entries.now (s + 1) ≡ some (LeafHead leaf)) where
    abbrev pub test_ready : LeafReady run w leaf
    test_ready = leaf_ready (left_run h (is_or j) head_by_or) inside

    module _ {a : Bool} (says : LeafAnswers run w leaf a) {o : Bool} (or : o ≡ is_or j) where
      left_says : a ≡ answer (tables_of run.file.now) h.env (pair_here h (is_or j) head_by_or).left
      left_says = leaf_answer (left_run h (is_or j) head_by_or) inside (says test_ready)

      pub test_decides : beq a o ≡ true → a ≡ answer (tables_of run.file.now) h.env h.card
      test_decides p = left_decides h (is_or j) head_by_or left_says (rw or at p)

      pub test_passes : beq a o ≡ false → {r : Bool} → r ≡ answer (tables_of run.file.now) h.env (pair_here h (is_or j) head_by_or).right
          → r ≡ answer (tables_of run.file.now) h.env h.card
      test_passes p right = right_decides h (is_or j) head_by_or left_says (rw or at p) right

-- ---- the rows, with an entry inside

abbrev pub InnerPassed : (run : Run) (w : List ℕ) (s e depth table : ℕ) (q : Bool) (v : List ℕ) (row : ℕ) → Type 0
InnerPassed run w s e depth table q v row =
    RowsPassed run w depth table (RowsRunnable run w s e depth table q) (λ h. table_ready h.whole q h.head) (λ h. (row_here h.whole q h.head).inner) q v row

module _ {run : Run} {w : List ℕ} {s e depth table : ℕ} {q : Bool} {place : Place} (is : place ≡ place_in run.layout.now table)
    {v : List ℕ} {row : ℕ} (passed : InnerPassed run w s e depth table q v row) (h : RowsRunnable run w s e depth table q) (below : row < place.rows) where
  abbrev pub inner_run : Runnable run (set v depth (place.first + row * place.columns)) (s + 1) e (depth + 1)
  inner_run =
      record {
        levels = h.whole.levels ++ (table ∷ []);
        env = env_by (table_ready h.whole q h.head) row;
        card = (row_here h.whole q h.head).inner;
        readable = inner_readable is passed h below;
        coded = (row_here h.whole q h.head).inner_coded;
        started = coded_less (row_here h.whole q h.head).inner_coded;
        deep = row_deep h.whole.readable table (table_there (table_ready h.whole q h.head)) h.whole.deep;
        room = h.whole.room;
        fits = (rows_fit h.whole q h.head).1;
      }
