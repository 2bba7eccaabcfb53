-- Document 01, What demand 3 compares: one claim over all rules, files, rows and lent buffers.
use Rattle.std.specs.Prelude.{◌≡◌, true, ◌↔◌, ℕ, ◌≤◌, ◌<◌, length, drop}
use mathlib.Core.List.{List, ◌++◌, Memᴰ, IsChain}
use Rattle.std.proofs.Math.Option.{none, some}
use Rattle.tables.specs.Tables.{table_count, columns_of, row_count, same_columns}
use Rattle.tables.specs.Refusals.{Refused, Given, first_applying, tables_refusals}
use Rattle.card.specs.Layout.{tables_in, columns_in, card_length}
use Rattle.card.specs.Calls.{check_call, run_call, list_call}
use Rattle.rule.specs.Condition.{Rule}
use Rattle.rule.specs.Sum.{entry_sum}
use Rattle.rule.specs.Calls.{rule_of, true_at, true_rows}
use Rattle.translation.specs.Calls.{rule_bytes, card_call}

-- tables that come later: no refusal 1 or 2, and the columns of the file that the rule was accepted with; rows, values and marks are free
pub record Later (file later : List ℕ) : Type 0 where
  pub no_refusal : first_applying (tables_refusals later) ≡ none
  pub same_columns_lem : same_columns file later ≡ true

-- how many bytes the rule's card takes: 3 + T + 15n, where n is the published sum (PublishedSumClaim of the crate rule)
abbrev pub published_length : List ℕ → Rule → ℕ
published_length file r = card_length (table_count file) (entry_sum r)

-- CARD: refusal 12 exactly when the buffer is shorter than the published length, and no other; else the translation's bytes at its start
pub record CardClaim (text file : List ℕ) (r : Rule) (buffer : List ℕ) : Type 0 where
  pub length_is : length (rule_bytes file r) ≡ published_length file r
  pub short : length buffer < published_length file r → card_call text file buffer ≡ record { result = Refused 12; buffer = buffer }
  pub long : published_length file r ≤ length buffer
      → card_call text file buffer ≡ record { result = Given (published_length file r); buffer = rule_bytes file r ++ drop (published_length file r) buffer }

-- RUN with a later file: every row of table 1 is answered, with yes exactly where the rule is true
abbrev pub RunClaim : List ℕ → List ℕ → Rule → ℕ → Type 0
RunClaim card later r row = row < row_count later 1 → run_call card later row ≡ Given (true_at later r row)

-- LIST with a later file: refusal 12 exactly when the list has fewer elements than the rule has true rows, and no other; else their numbers at
-- its start, and how many they are
pub record ListClaim (card later : List ℕ) (r : Rule) (buffer : List ℕ) : Type 0 where
  pub short : length buffer < length (true_rows later r) → list_call card later buffer ≡ record { result = Refused 12; buffer = buffer }
  pub long : length (true_rows later r) ≤ length buffer
      → list_call card later buffer ≡ record { result = Given (length (true_rows later r)); buffer = true_rows later r ++ drop (length (true_rows later r)) buffer }

-- `true_rows` has exactly the rows of table 1 where the rule is true, each once, rising
pub record RowsExactly (later : List ℕ) (r : Rule) : Type 0 where
  pub exactly : (row : ℕ) → Memᴰ row (true_rows later r) ↔ ((row < row_count later 1) × (true_at later r row ≡ true))
  pub rising : IsChain ◌<◌ (true_rows later r)

-- the bytes are a sound card, made for the tables and columns of the file
pub record SoundFor (card file : List ℕ) : Type 0 where
  pub is_sound : check_call card ≡ Given tt
  pub tables_are : tables_in card ≡ table_count file
  pub columns_are : columns_in card ≡ columns_of file

-- a text that is accepted with a file is a rule, its card is sound for the file's columns, and all three calls keep what they promise of that rule
pub record Demand3For (text file : List ℕ) : Type 0 where
  pub rule : Rule
  pub is_rule : rule_of text (columns_of file) ≡ some rule
  pub sound_for : SoundFor (rule_bytes file rule) file
  pub cards : (buffer : List ℕ) → CardClaim text file rule buffer
  pub runs : (later : List ℕ) → Later file later → (row : ℕ) → RunClaim (rule_bytes file rule) later rule row
  pub rows : (later : List ℕ) → Later file later → RowsExactly later rule
  pub listings : (later : List ℕ) → Later file later → (buffer : List ℕ) → ListClaim (rule_bytes file rule) later rule buffer
