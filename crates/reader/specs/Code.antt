-- What the functions of src/ promise one another. The contract of READ cites nothing of this file.
use Rattle.std.specs.Prelude.{◌≡◌, List, ◌++◌, ℕ, ◌≤◌, length, drop, Result, Ok, Err}
use Rattle.tables.specs.Refusals.{Given, refused_with}
use Rattle.cells.specs.Reasons.{reason_number}
use Rattle.cells.specs.declared.Reason.{Reason}
use Rattle.rule.specs.Names.{most_parts}
use Rattle.rule.specs.declared.Part.{Part}
use Rattle.rule.specs.Calls.{read_call}
use Rattle.names.specs.declared.RulePart.{RulePart}
use Rattle.parts.specs.Parts.{parts_in, SmallParts}

-- the parts of a rule, n of them, for every list with room for so many: it is to hold the parts in new, and past them what it held
pub record PartsRead (text file : List ℕ) (room : ℕ) (new : List RulePart) (n : ℕ) : Type 0 where
  pub few : n ≤ most_parts
  pub fits : n ≤ room
  pub small : SmallParts new n
  pub answered : (old : List Part) → length old ≡ room → read_call text file old ≡ record { result = Given n; buffer = parts_in new n ++ drop n old }

-- or a refusal of every such list, which stays as it is
abbrev pub ReadTo : (text file : List ℕ) (room : ℕ) (new : List RulePart) → Result ℕ Reason → Type 0
ReadTo text file room new (Ok n) = PartsRead text file room new n
ReadTo text file room new (Err x) = (old : List Part) → length old ≡ room → read_call text file old ≡ refused_with (reason_number x) old
