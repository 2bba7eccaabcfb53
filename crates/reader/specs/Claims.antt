-- What proofs/ shows of these definitions.
use Rattle.std.specs.Prelude.{◌≡◌, Bool, true, List, ◌↔◌, ℕ, ◌≤◌, eqb, length, Result, Ok, Err}
use Rattle.cells.specs.Reasons.{reason_number, answer_of}
use Rattle.cells.specs.declared.Reason.{Reason}
use Rattle.rule.specs.declared.Part.{Part}
use Rattle.rule.specs.Condition.{parts}
use Rattle.rule.specs.Calls.{read_call}
use Rattle.rule.specs.Claims.{Allowed}

-- what the answer of READ stands for tells its cases apart
abbrev pub ReadClaim : Type 0
ReadClaim = (x y : Result ℕ Reason) → answer_of x ≡ answer_of y → x ≡ y

-- READ accepts the text: the parts are given, or 12 alone stands against it
abbrev pub accepts : Result ℕ Reason → Bool
accepts (Ok n) = true
accepts (Err x) = eqb (reason_number x) 12

-- demand 2, first half, of whatever answer READ's contract allows. `Allowed` says what documents 01 and 02 ask of tables, length, tokens, brackets, grammar,
-- limits, names and the sum: READ accepts just what is allowed; and where there is room for the parts of the rule that is allowed, their number is the answer
pub record AcceptanceClaim : Type 0 where
  pub accepted : (text file : List ℕ) (list : List Part) (r : Result ℕ Reason) → answer_of r ≡ (read_call text file list).result
      → (accepts r ≡ true) ↔ Allowed text file
  pub given : (text file : List ℕ) (list : List Part) (r : Result ℕ Reason) → answer_of r ≡ (read_call text file list).result
      → (w : Allowed text file) → parts w.up_to_names.rule ≤ length list → r ≡ Ok (parts w.up_to_names.rule)
