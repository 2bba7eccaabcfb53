-- What the functions of src/ promise their callers, in the terms of the code: a card's entries in an array. The contract of a public call cites nothing of
-- this file.
use Rattle.std.specs.Prelude.{◌≡◌, List, ℕ, ◌+◌, ◌<◌, ◌≤◌, length, get_or, None}
use Rattle.std.proofs.Math.Option.{Option as MathOption, some}
use Rattle.tables.specs.Bytes.{byte_at, word16}
use Rattle.tables.specs.Options.{found}
use Rattle.tables.specs.Tables.{most_tables, most_columns}
use Rattle.tables.specs.Values.{most_entries}
use Rattle.tables.specs.declared.Connective.{Connective}
use Rattle.tables.specs.declared.Quantifier.{Quantifier}
use Rattle.card.specs.Card.{Card, LeafEntry, PairEntry, RowEntry}
use Rattle.card.specs.declared.Leaf.{Leaf}
use Rattle.card.specs.Layout.{card_length, entry_count, tables_in, kind_at, record_at, head_from}
use Rattle.card.specs.declared.Head.{Head}
use Rattle.card.specs.declared.Head.TheVariants.{LeafHead, PairHead, RowHead}
use Rattle.decoder.specs.declared.Entry.{Entry}

-- ---- the layout

-- what the layout says
pub record Laid (card : List ℕ) : Type 0 where
  pub entries_low : 1 ≤ entry_count card
  pub entries_high : entry_count card ≤ most_entries
  pub tables_low : 1 ≤ tables_in card
  pub tables_high : tables_in card ≤ most_tables
  pub columns_high : (j : ℕ) → j < tables_in card → byte_at card (3 + j) ≤ most_columns
  pub long : length card ≡ card_length (tables_in card) (entry_count card)

-- ---- an entry, decoded

-- stands where an array has no entry
abbrev pub no_entry : Entry
no_entry = record { end = 0; head = None }

-- an entry is that of a record, by its kind's number
pub record EntryOf (kind : ℕ) (r : List ℕ) (x : Entry) : Type 0 where
  pub end_is : x.end ≡ word16 r 0
  pub head_is : found x.head ≡ head_from kind r

-- if a card is laid out, the array d has room for its entries
abbrev pub Roomy : List ℕ → List Entry → Type 0
Roomy card d = Laid card → entry_count card ≤ length d

-- d has them
pub record Decoded (card : List ℕ) (d : List Entry) : Type 0 where
  pub room : entry_count card ≤ length d
  pub entries : (i : ℕ) → i < entry_count card → EntryOf (kind_at card i) (record_at card i) (get_or d i no_entry)

-- ---- the entries of an array

module _ (d : List Entry) (i : ℕ) where
  abbrev pub end_in : ℕ
  end_in = (get_or d i no_entry).end

  -- the end of the entry after entry i
  abbrev pub next_end_in : ℕ
  next_end_in = (get_or d (i + 1) no_entry).end

  -- what entry i says by itself
  abbrev pub head_at : MathOption Head
  head_at = found (get_or d i no_entry).head

-- the entries from number i up to e are a card: one entry with its inner ones
pub data Coded (d : List Entry) : ℕ → ℕ → Card → Type 0 where
  coded_leaf : {i e : ℕ} {x : Leaf} → head_at d i ≡ some (LeafHead x) → end_in d i ≡ e → e ≡ i + 1 → Coded d i e (LeafEntry x)
  coded_pair : {i m e : ℕ} {j : Connective} {a b : Card} → head_at d i ≡ some (PairHead j) → end_in d i ≡ e → Coded d (i + 1) m a → Coded d m e b
      → Coded d i e (PairEntry j a b)
  coded_row : {i e : ℕ} {q : Quantifier} {t : ℕ} {c : Card} → head_at d i ≡ some (RowHead q t) → end_in d i ≡ e → Coded d (i + 1) e c
      → Coded d i e (RowEntry q t c)
