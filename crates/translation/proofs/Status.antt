-- A status of 0 means that there is an answer.
use mathlib.Core.List.{List, [], ◌∷◌, ◌++◌}
use Prim.Native.Nat.{ℕ}
use native.Mathlib.Omega.{arith}
use Rattle.tables.specs.Refusals.{Refusal, first_applying, lend, tables_refusals, row_refusal}
use Rattle.tables.proofs.Status.{Above, nothing_found, also_above, looked, lent, room_above}
use Rattle.card.specs.Calls.{check_refusals, gate_refusals, run_refusals, check_call, run_call, list_call}
use Rattle.rule.specs.Calls.{reading_refusals, judge_refusals, read_call, judge_call}
use Rattle.translation.specs.Calls.{card_call}
use Rattle.translation.specs.Claims.{StatusClaim}

-- a list of refusals, numbered from 1 on, before others
module _ (rs : List Refusal) (above : Above (first_applying rs)) where
  reading_above : (text file : List ℕ) → Above (first_applying (reading_refusals text file ++ rs))
  unfolding reading_refusals tables_refusals
  reading_above text file =
      also_above 1 _ _ (omega arith) (also_above 2 _ _ (omega arith) (also_above 3 _ _ (omega arith) (also_above 4 _ _ (omega arith)
      (also_above 5 _ _ (omega arith) (also_above 6 _ _ (omega arith) (also_above 7 _ _ (omega arith) (also_above 8 _ _ (omega arith)
      (also_above 13 _ _ (omega arith) above))))))))

  gate_above : (card file : List ℕ) → Above (first_applying (gate_refusals card file ++ rs))
  unfolding gate_refusals tables_refusals check_refusals
  gate_above card file = also_above 1 _ _ (omega arith) (also_above 2 _ _ (omega arith) (also_above 9 _ _ (omega arith) (also_above 10 _ _ (omega arith) above)))

row_above : (file : List ℕ) (row : ℕ) → Above (first_applying (row_refusal file row ∷ []))
unfolding row_refusal
row_above file row = also_above 11 _ [] (omega arith) nothing_found

pub status_claim : StatusClaim
unfolding read_call judge_call card_call check_call run_call list_call lend judge_refusals check_refusals run_refusals
status_claim = record {
  reading = λ text file parts. lent _ _ parts (reading_above _ (room_above _) text file);
  judging = λ text file row. looked _ _ (reading_above _ (row_above file row) text file);
  making = λ text file card. lent _ _ card (reading_above _ (room_above _) text file);
  checking = λ card. looked _ _ (also_above 9 _ [] (omega arith) nothing_found);
  running = λ card file row. looked _ _ (gate_above _ (row_above file row) card file);
  listing = λ card file rows. lent _ _ rows (gate_above _ (room_above _) card file);
}
