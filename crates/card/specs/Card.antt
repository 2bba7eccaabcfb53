-- Document 01, Card: a card's entries as a tree, and what they answer: yes or no, never unknown.
use Rattle.std.specs.Prelude.{Bool, true, false, ◌&&◌, ◌||◌, List, [], ◌∷◌, ◌++◌, ℕ, ◌+◌, leb, length}
use Rattle.tables.specs.Lists.{any, all}
use Rattle.tables.specs.Bytes.{between}
use Rattle.tables.specs.Tables.{Cell, Tables, rows_of}
use Rattle.card.specs.declared.Leaf.{Leaf}
use Rattle.card.specs.declared.Leaf.TheVariants.{CompareLeaf, MarkLeaf}
use Rattle.card.specs.declared.Interpretation.{Interpretation}
use Rattle.card.specs.declared.Interpretation.TheVariants.{AsNo, AsYes}
use Rattle.tables.specs.Values.{holds, Env, ◌▸◌, cell_of, by_numbers, mark_passes, value_fits}
use Rattle.tables.specs.declared.Comparison.{Comparison}
use Rattle.tables.specs.declared.Connective.{Connective}
use Rattle.tables.specs.declared.Connective.TheVariants.{And, Or}
use Rattle.tables.specs.declared.Quantifier.{Quantifier}
use Rattle.tables.specs.declared.Quantifier.TheVariants.{Some, All}

-- how many row entries a sound card may have around one another
abbrev pub most_row_entries : ℕ
most_row_entries = 3

-- what unknown counts as: no (false-interpreted), or yes (true-interpreted)

abbrev pub unknown_says : Interpretation → Bool
unknown_says AsNo = false
unknown_says AsYes = true

-- an entry without inner ones. CompareLeaf AsNo and AsYes: the comparisons of kinds 5 and 6. MarkLeaf Null and NotNull: blank and not blank, kinds 7
-- and 8. MarkLeaf IsDeclined and NotDeclined: declined and not declined, kinds 9 and 10 (document 02, Point 4).

-- an entry with its inner ones. PairEntry And and Or: kinds 1 and 2. RowEntry Some and All: kinds 3 and 4, over the rows of a table.
pub data Card : Type 0 where
  LeafEntry : Leaf → Card
  PairEntry : Connective → Card → Card → Card
  RowEntry : Quantifier → ℕ → Card → Card

-- ---- the answer

-- a comparison of two cells; one that is blank or declined makes it unknown
abbrev pub compares : Interpretation → Comparison → Cell → Cell → Bool
compares u op x y = by_numbers (unknown_says u) (holds op) x y

abbrev pub leaf_says : Env → Leaf → Bool
leaf_says env (CompareLeaf u op l r) = compares u op (cell_of env l) (cell_of env r)
leaf_says env (MarkLeaf m l) = mark_passes m (cell_of env l)

abbrev pub joined : Connective → Bool → Bool → Bool
joined And a b = a && b
joined Or a b = a || b

abbrev pub over_rows : {A : Type 0} → Quantifier → (A → Bool) → List A → Bool
over_rows Some p rows = any p rows
over_rows All p rows = all p rows

-- an entry with inner ones answers by their answers
unfoldable pub answer : Tables → Env → Card → Bool
answer ts env (LeafEntry x) = leaf_says env x
answer ts env (PairEntry j a b) = joined j (answer ts env a) (answer ts env b)
answer ts env (RowEntry q t c) = over_rows q (λ row. answer ts (env ▸ row) c) (rows_of ts t)

-- ---- its size, and whether it fits the tables' columns

unfoldable pub entries : Card → ℕ
entries (LeafEntry x) = 1
entries (PairEntry j a b) = 1 + entries a + entries b
entries (RowEntry q t c) = 1 + entries c

-- columns has the columns of each table; levels has the table of each level, level 0 first
module _ (columns : List ℕ) where
  -- the values of a sound card exist
  abbrev pub leaf_fits : List ℕ → Leaf → Bool
  leaf_fits levels (CompareLeaf u op l r) = value_fits columns levels l && value_fits columns levels r
  leaf_fits levels (MarkLeaf m l) = value_fits columns levels l

  -- a row entry of a sound card: its table exists, and it is within at most two others (levels has one for the judged row and one for each of
  -- them, so it has at most three)
  abbrev pub row_entry_fits : List ℕ → ℕ → Bool
  row_entry_fits levels t = between 1 (length columns) t && leb (length levels) most_row_entries

  unfoldable pub card_fits : List ℕ → Card → Bool
  card_fits levels (LeafEntry x) = leaf_fits levels x
  card_fits levels (PairEntry j a b) = card_fits levels a && card_fits levels b
  card_fits levels (RowEntry q t c) = row_entry_fits levels t && card_fits (levels ++ (t ∷ [])) c
