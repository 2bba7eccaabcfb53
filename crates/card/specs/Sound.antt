-- Document 01, Card, the paragraph on sound cards: the layout without spare bytes, ends that fit, entry 0 around all others, tables, columns and
-- levels that exist, and a bound on row entries around one another.
use Rattle.std.specs.Prelude.{◌≡◌, Bool, false, ◌&&◌, List, ℕ, T, eqb, length}
use Rattle.std.proofs.Math.Option.{Option, none, some}
use Rattle.tables.specs.Lists.{all}
use Rattle.tables.specs.Bytes.{between}
use Rattle.tables.specs.Tables.{most_tables, most_columns}
use Rattle.tables.specs.Values.{most_entries, judged_levels}
use Rattle.card.specs.Card.{Card, entries, card_fits}
use Rattle.card.specs.Layout.{card_bytes, card_length, entry_count, tables_in, columns_in, card_from}

-- how long the longest card is
abbrev pub most_card_bytes : ℕ
most_card_bytes = card_length most_tables most_entries

-- how many tables, and how many columns each
abbrev pub columns_fit : List ℕ → Bool
columns_fit columns = between 1 most_tables (length columns) && all (between 1 most_columns) columns

-- there is a card, and it fits these columns
abbrev pub holds_fitting : List ℕ → Option Card → Bool
holds_fitting columns none = false
holds_fitting columns (some c) = card_fits columns judged_levels c

-- the layout: the numbers of entries, tables and columns are within the limits, and there are no spare bytes
unfoldable pub laid : List ℕ → Bool
laid bs =
    between 1 most_entries (entry_count bs)
    && (columns_fit (columns_in bs)
    && eqb (length bs) (card_length (tables_in bs) (entry_count bs)))

-- the test that CHECK makes: the layout, and one card that fits
unfoldable pub sound : List ℕ → Bool
sound bs = laid bs && holds_fitting (columns_in bs) (card_from bs)

-- the same, said from the card to its bytes and not back: the bytes of a card whose entries, tables and columns keep to the limits, and which fits its
-- tables (`T` says of a test that it is true)
pub record Sound (bs : List ℕ) : Type 0 where
  pub columns : List ℕ
  pub card : Card
  pub bytes : bs ≡ card_bytes columns card
  pub few : T (between 1 most_entries (entries card))
  pub sized : T (columns_fit columns)
  pub fits : T (card_fits columns judged_levels card)
