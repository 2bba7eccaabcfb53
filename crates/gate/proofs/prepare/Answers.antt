use mathlib.Core.Path.{refl, sym}
use Rattle.std.specs.Prelude.{Ok}
use Rattle.std.proofs.lemmas.Result.{err_from_is_err_and}
use Rattle.cells.proofs.Valid.{checked_sized}
use Rattle.gate.proofs.Judged.{laid_out}
use Rattle.gate.proofs.Calls.{prepare_tables, prepare_unsound, prepare_columns, prepare_ready}
use Rattle.gate.proofs.prepare.Goals as goal

pub returns-in_err-check_tables-clause-answer : goal.returns-in_err-check_tables-clause-answer
returns-in_err-check_tables-clause-answer c =
    let p = err_from_is_err_and c.from_residual.result c.from_residual.ensures.1 in
    rw (p.1, p.2) (prepare_tables _ _ _ c.in_err-check_tables.ensures)

pub returns-then-not-is_sound-clause-answer : goal.returns-then-not-is_sound-clause-answer
returns-then-not-is_sound-clause-answer c = prepare_unsound _ _ c.in_ok-check_tables.ensures c.if-not-is_sound.ensures.is

pub fits_tables-requires-clause-fact_1 : goal.fits_tables-requires-clause-fact_1
fits_tables-requires-clause-fact_1 c = laid_out _ (sym c.if-not-is_sound.ensures.is)

pub fits_tables-requires-clause-fact_2 : goal.fits_tables-requires-clause-fact_2
fits_tables-requires-clause-fact_2 c = checked_sized _ (Ok tt) refl c.in_ok-check_tables.ensures

pub returns-then-not-fits_tables-clause-answer : goal.returns-then-not-fits_tables-clause-answer
returns-then-not-fits_tables-clause-answer c = prepare_columns _ _ c.in_ok-check_tables.ensures c.if-not-is_sound.ensures.is c.if-not-fits_tables.ensures

pub returns-clause-answer : goal.returns-clause-answer
returns-clause-answer c = prepare_ready _ _ c.in_ok-check_tables.ensures c.if-not-is_sound.ensures.is c.if-not-fits_tables.ensures

pub returns-clause-opened : goal.returns-clause-opened
returns-clause-opened c = λ _. record {
  sized = checked_sized _ (Ok tt) refl c.in_ok-check_tables.ensures;
  sound_is = sym c.if-not-is_sound.ensures.is;
  fits = sym c.if-not-fits_tables.ensures;
  decoded = c.if-not-is_sound.ensures.decoded refl;
}
