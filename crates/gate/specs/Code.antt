-- What the functions of src/ promise one another. The contract of a public call cites nothing of this file.
use Rattle.std.specs.Prelude.{◌≡◌, true, List, ℕ}
use Rattle.tables.specs.Refusals.{passes, Answer}
use Rattle.cells.specs.Code.{Sized}
use Rattle.card.specs.Sound.{sound}
use Rattle.card.specs.Calls.{fits_tables, gate_refusals}
use Rattle.decoder.specs.Code.{Decoded}
use Rattle.decoder.specs.declared.Entry.{Entry}

-- a card and tables that RUN and LIST do not refuse for 1, 2, 9 or 10; d has what they need of the card
pub record Opened (card file : List ℕ) (d : List Entry) : Type 0 where
  pub sized : Sized file
  pub sound_is : sound card ≡ true
  pub fits : fits_tables card file ≡ true
  pub decoded : Decoded card d

-- whether they refuse
unfoldable pub prepare_call : List ℕ → List ℕ → Answer (Unit {0})
prepare_call card file = passes (gate_refusals card file)
