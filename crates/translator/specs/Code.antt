-- What the functions of src/ promise one another. The contract of a public call cites nothing of this file.
use Rattle.std.specs.Prelude.{◌≡◌, List, ℕ, ◌≤◌, length, take}
use Rattle.tables.specs.Lists.{placed}
use Rattle.tables.specs.Tables.{table_count, columns_of}
use Rattle.tables.specs.Values.{most_entries}
use Rattle.cells.specs.Code.{Sized}
use Rattle.card.specs.Card.{entries}
use Rattle.card.specs.Layout.{card_bytes, card_length}
use Rattle.rule.specs.Condition.{Rule, parts}
use Rattle.rule.specs.Names.{most_parts}
use Rattle.translation.specs.Translation.{rule_card}
use Rattle.names.specs.Code.{placed_of}
use Rattle.names.specs.declared.RulePart.{RulePart}

-- the parts are those of a rule, and there is room for its card
pub record CardReady (p : List RulePart) (file : List ℕ) (n : ℕ) (out : List ℕ) : Type 0 where
  pub sized : Sized file
  pub rule : Rule
  pub few : parts rule ≤ most_parts
  pub written : take (parts rule) p ≡ placed_of rule
  pub count : n ≡ entries (rule_card rule)
  pub most : n ≤ most_entries
  pub room : card_length (table_count file) n ≤ length out

abbrev pub CardWritten : (p : List RulePart) (file : List ℕ) (n : ℕ) (out out' : List ℕ) → Type 0
CardWritten p file n out out' = (h : CardReady p file n out) → out' ≡ placed out 0 (card_bytes (columns_of file) (rule_card h.rule))
