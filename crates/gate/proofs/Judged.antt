-- A card at a row of table 1: what running it asks, and that it says what the card says of the row.
use mathlib.Core.Path.{◌≡◌, refl, sym, ap, subst, ◌∙◌}
use mathlib.Core.Bool.{Bool, true}
use mathlib.Core.List.{List, [], ◌∷◌}
use Prim.Native.Nat.{ℕ, ◌+◌, ◌*◌, ◌≤◌, ◌<◌}
use lib.Dec.{T}
use Rattle.tables.specs.Tables.{most_rows, most_cells, columns_of, row_count, tables_of}
use Rattle.tables.specs.Values.{judged_levels, judged_row}
use Rattle.tables.proofs.Sizes.{same_is}
use Rattle.cells.specs.Code.{Sized, Places, place_in}
use Rattle.cells.specs.declared.Layout.{Layout}
use Rattle.cells.specs.declared.Place.{Place}
use Rattle.card.specs.Card.{card_fits}
use Rattle.card.specs.Layout.{entry_count, columns_in}
use Rattle.card.specs.Sound.{sound}
use Rattle.card.specs.Calls.{card_says, says_yes, fits_tables}
use Rattle.decoder.specs.Code.{Laid, Coded}
use Rattle.decoder.specs.declared.Entry.{Entry}
use Rattle.card.proofs.Exact.{Passed, sound_passed}
use Rattle.decoder.proofs.Decoding.{laid_is, sound_laid}
use Rattle.decoder.proofs.Coded.{coded_less, card_coded}
use Rattle.runner.specs.Code.{Runnable, Answers}
use Rattle.runner.specs.declared.Run.{Run}
use Rattle.gate.specs.Code.{Opened}
use Rattle.values.proofs.Judged.{one_rows as rows-of-one, few_rows as few-of-one, row_room as room-of-one, row_readable}

pub laid_out : (card : List ℕ) → sound card ≡ true → Laid card
laid_out card e = laid_is card (sound_laid card e)

-- table 1
module _ {file : List ℕ} {g : Layout} (sized : Sized file) (places : Places file g) {place : Place} (is : place ≡ place_in g 1) where
  pub one_rows : place.rows ≡ row_count file 1
  one_rows = rw is (rows-of-one file g sized places)

  pub few_rows : place.rows ≤ most_rows
  few_rows = rw is (few-of-one file g sized places)

  pub row_room : {row : ℕ} → row < row_count file 1 → row * place.columns + place.columns ≤ most_cells
  row_room {row} below = rw is (room-of-one file g sized places row _ (rw (rows-of-one file g sized places) below) refl)

-- the card
module _ {card file : List ℕ} {d : List Entry} (o : Opened card file d) where
  pub passed : Passed card
  passed = sound_passed card (rw o.sound_is tt)

  whole_card : Coded d 0 (entry_count card) passed.card
  whole_card = card_coded o.decoded passed.held

  fits_file : T (card_fits (columns_of file) judged_levels passed.card)
  unfolding fits_tables
  fits_file =
      let f = o.fits in
      subst (λ (c : List ℕ). T (card_fits c judged_levels passed.card)) (same_is (columns_in card) (columns_of file) (rw f tt)) passed.fits

-- at a row of table 1
module _ {card : List ℕ} {run : Run} (o : Opened card run.file.now run.entries.now) (places : Places run.file.now run.layout.now) {place : Place} (is : place ≡ place_in run.layout.now 1)
    {row : ℕ} (below : row < row_count run.file.now 1) {n : ℕ} (whole : n ≡ entry_count card) where
  pub judged : Runnable run (row * place.columns ∷ 0 ∷ 0 ∷ 0 ∷ []) 0 n 1
  judged = record {
    levels = judged_levels;
    env = judged_row (tables_of run.file.now) row;
    card = (passed o).card;
    readable = row_readable run.file.now run.layout.now o.sized places row _ (rw (rows-of-one run.file.now run.layout.now o.sized places) below) refl _ refl (rw is refl);
    coded = rw whole (whole_card o);
    started = rw whole (coded_less (whole_card o));
    deep = refl;
    room = rw whole o.decoded.room;
    fits = fits_file o;
  }

  pub judged_says : {r : Bool} → Answers run (row * place.columns ∷ 0 ∷ 0 ∷ 0 ∷ []) 0 n 1 r → r ≡ says_yes card run.file.now row
  unfolding judged says_yes
  judged_says a = a judged ∙ sym (ap (card_says run.file.now row) (passed o).held)
