-- What the functions of src/ promise one another and their callers, in the terms of the code. The contract of a public call cites
-- nothing of this file.
use Rattle.std.specs.Prelude.{◌≡◌, Bool, true, false, List, [], ◌∷◌, ◌++◌, ℕ, ◌+◌, ◌<◌, ◌≤◌, T, length}
use Rattle.std.proofs.Math.Option.{Option as MathOption, none, some}
use Rattle.tables.specs.Tables.{most_tables, columns_of, tables_of}
use Rattle.tables.specs.Values.{most_levels, Env}
use Rattle.tables.specs.declared.Connective.{Connective}
use Rattle.tables.specs.declared.Connective.TheVariants.{And, Or}
use Rattle.tables.specs.declared.Quantifier.{Quantifier}
use Rattle.tables.specs.declared.Quantifier.TheVariants.{Some as SomeRow, All as EveryRow}
use Rattle.tables.specs.declared.MarkTest.{MarkTest}
use Rattle.tables.specs.declared.MarkTest.TheVariants.{Null, NotNull, IsDeclined, NotDeclined}
use Rattle.values.specs.Code.{Readable}
use Rattle.card.specs.Card.{Card, LeafEntry, RowEntry, leaf_fits, row_entry_fits, card_fits, leaf_says, answer}
use Rattle.card.specs.declared.Leaf.{Leaf}
use Rattle.card.specs.declared.Head.{Head}
use Rattle.card.specs.declared.Head.TheVariants.{LeafHead, PairHead, RowHead}
use Rattle.decoder.specs.Code.{next_end_in, head_at, Coded}
use Rattle.runner.specs.declared.Run.{Run}

-- whether an entry that says this has no inner ones
abbrev pub is_leaf : MathOption Head → Bool
is_leaf none = false
is_leaf (some (LeafHead x)) = true
is_leaf (some (PairHead j)) = false
is_leaf (some (RowHead q t)) = false

-- of a test by the mark: the lowest mark that it is about, and whether it asks for cells with such a mark or for the others
abbrev pub lowest_mark : MarkTest → ℕ
lowest_mark Null = 1
lowest_mark NotNull = 1
lowest_mark IsDeclined = 2
lowest_mark NotDeclined = 2

abbrev pub asks_marked : MarkTest → Bool
asks_marked Null = true
asks_marked NotNull = false
asks_marked IsDeclined = true
asks_marked NotDeclined = false

-- ---- what running asks, and answers: for whatever levels, rows and card the numbers stand for

pub record LeafReady (run : Run) (w : List ℕ) (leaf : Leaf) : Type 0 where
  pub levels : List ℕ
  pub env : Env
  pub readable : Readable run.layout.now run.file.now w levels env
  pub fits : T (leaf_fits (columns_of run.file.now) levels leaf)

abbrev pub LeafAnswers : (run : Run) (w : List ℕ) (leaf : Leaf) → Bool → Type 0
LeafAnswers run w leaf r = (h : LeafReady run w leaf) → r ≡ leaf_says h.env leaf

-- some row, or every row, by the answer where no row decides
abbrev pub quantifier_by : Bool → Quantifier
quantifier_by false = SomeRow
quantifier_by true = EveryRow

-- the rows of a table can be gone through, one level deeper; with what that says of its numbers
pub record TableReady (run : Run) (w : List ℕ) (depth table : ℕ) : Type 0 where
  pub levels : List ℕ
  pub env : Env
  pub readable : Readable run.layout.now run.file.now w levels env
  pub deep : depth ≡ length levels
  pub fits : T (row_entry_fits (columns_of run.file.now) levels table)
  pub table_high : table ≤ most_tables
  pub shallow : depth < most_levels

pub record LeafRowsReady (run : Run) (w : List ℕ) (leaf : Leaf) (depth table : ℕ) : Type 0 where
  pub rows : TableReady run w depth table
  pub fits : T (leaf_fits (columns_of run.file.now) (rows.levels ++ (table ∷ [])) leaf)

abbrev pub LeafRowsAnswer : (run : Run) (w : List ℕ) (leaf : Leaf) (depth table : ℕ) (q r : Bool) → Type 0
LeafRowsAnswer run w leaf depth table q r =
    (h : LeafRowsReady run w leaf depth table) → r ≡ answer (tables_of run.file.now) h.rows.env (RowEntry (quantifier_by q) table (LeafEntry leaf))

pub record Runnable (run : Run) (w : List ℕ) (s e depth : ℕ) : Type 0 where
  pub levels : List ℕ
  pub env : Env
  pub card : Card
  pub readable : Readable run.layout.now run.file.now w levels env
  pub coded : Coded run.entries.now s e card
  pub started : s < e
  pub deep : depth ≡ length levels
  pub room : e ≤ length run.entries.now
  pub fits : T (card_fits (columns_of run.file.now) levels card)

abbrev pub Answers : (run : Run) (w : List ℕ) (s e depth : ℕ) → Bool → Type 0
Answers run w s e depth r = (h : Runnable run w s e depth) → r ≡ answer (tables_of run.file.now) h.env h.card

-- and, or or, by the answer of the first inner entry that decides
abbrev pub connective_by : Bool → Connective
connective_by false = And
connective_by true = Or

-- an entry with two inner ones can be run; with what the card says of the end of the first
pub record PairRunnable (run : Run) (w : List ℕ) (s e depth : ℕ) (decides : Bool) : Type 0 where
  pub whole : Runnable run w s e depth
  pub head : head_at run.entries.now s ≡ some (PairHead (connective_by decides))
  pub middle_low : s + 1 < next_end_in run.entries.now s
  pub middle_high : next_end_in run.entries.now s < e

-- an entry that asks for some row of a table, or for every row, can be run; with what the card says of its numbers
pub record RowsRunnable (run : Run) (w : List ℕ) (s e depth table : ℕ) (q : Bool) : Type 0 where
  pub whole : Runnable run w s e depth
  pub head : head_at run.entries.now s ≡ some (RowHead (quantifier_by q) table)
  pub table_high : table ≤ most_tables
  pub shallow : depth < most_levels
  pub inner : s + 1 < e
