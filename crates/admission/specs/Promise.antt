-- Demand 3 of the code: whatever CARD, RUN and LIST answer within their contracts, as the code's results, and what their contracts say of their buffers.
-- Document 01, What demand 3 compares: RUN and LIST get exactly the bytes that CARD wrote at its buffer's start; what they answer is compared with the
-- rule's value by Meaning on a later file.
use Rattle.std.specs.Prelude.{◌≡◌, Bool, List, ◌++◌, ℕ, ◌≤◌, ◌<◌, length, take, drop, Result, Ok, Err}
use Rattle.std.proofs.Math.Option.{some}
use Rattle.tables.specs.Tables.{columns_of, row_count}
use Rattle.card.specs.Calls.{run_call, list_call}
use Rattle.rule.specs.Condition.{Rule}
use Rattle.rule.specs.Calls.{rule_of, true_at, true_rows}
use Rattle.translation.specs.Calls.{rule_bytes, card_call}
use Rattle.translation.specs.Demand3.{Later, published_length}
use Rattle.cells.specs.Reasons.{answer_of}
use Rattle.cells.specs.declared.Reason.{Reason}
use Rattle.cells.specs.declared.Reason.TheVariants.{Short}

-- CARD with this buffer: the translation's bytes from its start and their published number, where the buffer holds them, else 12
pub record CardKept (text file : List ℕ) (r : Rule) (buffer : List ℕ) (made : Result ℕ Reason) : Type 0 where
  pub fits : published_length file r ≤ length buffer → made ≡ Ok (published_length file r)
  pub bytes : published_length file r ≤ length buffer → (card_call text file buffer).buffer ≡ rule_bytes file r ++ drop (published_length file r) buffer
  pub short : length buffer < published_length file r → made ≡ Err Short
  pub untouched : length buffer < published_length file r → (card_call text file buffer).buffer ≡ buffer

-- LIST with this list: how many rows the rule is true on, where the list holds them, else 12
pub record ListKept (card later : List ℕ) (r : Rule) (list : List ℕ) (listed : Result ℕ Reason) : Type 0 where
  pub fits : length (true_rows later r) ≤ length list → listed ≡ Ok (length (true_rows later r))
  pub rows : length (true_rows later r) ≤ length list → (list_call card later list).buffer ≡ true_rows later r ++ drop (length (true_rows later r)) list
  pub short : length list < length (true_rows later r) → listed ≡ Err Short
  pub untouched : length list < length (true_rows later r) → (list_call card later list).buffer ≡ list

-- an accepted text is a rule, and of it the three calls keep their promise
pub record Promised (text file : List ℕ) : Type 0 where
  pub rule : Rule
  pub is_rule : rule_of text (columns_of file) ≡ some rule
  pub makes : (buffer : List ℕ) (made : Result ℕ Reason) → answer_of made ≡ (card_call text file buffer).result → CardKept text file rule buffer made
  -- n bytes of a card, as CARD gives them
  pub runs : (buffer : List ℕ) (n : ℕ) → answer_of (Ok n) ≡ (card_call text file buffer).result → (later : List ℕ) → Later file later
      → (row : ℕ) → row < row_count later 1 → (ran : Result Bool Reason) → answer_of ran ≡ run_call (take n (card_call text file buffer).buffer) later row
      → ran ≡ Ok (true_at later rule row)
  pub lists : (buffer : List ℕ) (n : ℕ) → answer_of (Ok n) ≡ (card_call text file buffer).result → (later : List ℕ) → Later file later
      → (list : List ℕ) (listed : Result ℕ Reason) → answer_of listed ≡ (list_call (take n (card_call text file buffer).buffer) later list).result
      → ListKept (take n (card_call text file buffer).buffer) later rule list listed
