-- CARD (document 01, What the product holds): which refusal, or which card bytes, for any text, tables and room.
use Rattle.std.specs.Prelude.{List, [], ◌∷◌, ◌++◌, ℕ}
use Rattle.tables.specs.Tables.{columns_of}
use Rattle.tables.specs.Refusals.{Lent, lend}
use Rattle.card.specs.Layout.{card_bytes}
use Rattle.rule.specs.Condition.{Rule}
use Rattle.rule.specs.Calls.{rule_of, reading_refusals, reading_order, with_rule}
use Rattle.translation.specs.Translation.{rule_card}

-- the card bytes of a rule, for the columns of a tables file
unfoldable pub rule_bytes : List ℕ → Rule → List ℕ
rule_bytes file r = card_bytes (columns_of file) (rule_card r)

-- CARD writes the rule's card into a lent buffer, and answers how many bytes it has
unfoldable pub card_call : List ℕ → List ℕ → List ℕ → Lent ℕ
card_call text file buffer = lend (reading_refusals text file) (with_rule (rule_of text (columns_of file)) [] (rule_bytes file)) buffer

-- the order of CARD's refusals, by their numbers: where several apply, the first in this list is given. Those of reading come first
abbrev pub card_order : List ℕ
card_order = reading_order ++ (12 ∷ [])
