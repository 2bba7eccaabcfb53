-- What the functions of src/ promise one another, in the terms of the code: entries in an array, checked. The contract of a public call cites nothing of
-- this file.
use Rattle.std.specs.Prelude.{◌≡◌, Bool, true, List, ℕ, ◌+◌, ◌<◌, ◌≤◌, T, get_or, set, take}
use Rattle.tables.specs.Values.{most_levels}
use Rattle.card.specs.Card.{Card, card_fits}
use Rattle.card.specs.Layout.{entry_count, tables_in}
use Rattle.decoder.specs.Code.{Laid, Decoded, Coded}
use Rattle.decoder.specs.declared.Entry.{Entry}
use Rattle.checker.specs.declared.Levels.{Levels}

-- the entries from number s up to e are a card, and it fits the columns of the tables, at these levels
pub record Fitting (d : List Entry) (columns levels : List ℕ) (s e : ℕ) : Type 0 where
  pub card : Card
  pub coded : Coded d s e card
  pub fits : T (card_fits columns levels card)

-- the answer whether it does
pub record Checks (d : List Entry) (columns levels : List ℕ) (s e : ℕ) (r : Bool) : Type 0 where
  pub yes_fits : r ≡ true → Fitting d columns levels s e
  pub fits_yes : Fitting d columns levels s e → r ≡ true

-- ---- what checking asks

-- the table of each level
abbrev pub tables_of : Levels → List ℕ
tables_of levels = take levels.depth levels.tables

-- one level more, of this table
abbrev pub one_deeper : Levels → ℕ → Levels
one_deeper levels table = record { tables = set levels.tables levels.depth table; depth = levels.depth + 1 }

-- they are levels of the card
pub record LevelsIn (card : List ℕ) (levels : Levels) : Type 0 where
  pub laid_out : Laid card
  pub few : levels.depth ≤ most_levels
  pub table_low : (l : ℕ) → l < levels.depth → 1 ≤ get_or levels.tables l 0
  pub table_high : (l : ℕ) → l < levels.depth → get_or levels.tables l 0 ≤ tables_in card

-- the entries from s up to e
pub record Checkable (card : List ℕ) (d : List Entry) (levels : Levels) (s e : ℕ) : Type 0 where
  pub levels_in : LevelsIn card levels
  pub decoded : Decoded card d
  pub started : s < e
  pub within : e ≤ entry_count card
