-- A card that is laid out is sound, if its entries are one card that fits.
use native.Mathlib.Omega.{arith}
use Rattle.std.proofs.Common.{sym, ◌∙◌}
use Rattle.decoder.proofs.Decoding.{laid_is, sound_not_laid}
use Rattle.checker.proofs.Checking.{first_level, sound_checks}
use Rattle.checker.proofs.is_sound.Goals as goal

pub returns-then-not-laid_out-clause-is : goal.returns-then-not-laid_out-clause-is
returns-then-not-laid_out-clause-is c = sym (sound_not_laid _ (sym c.laid_out.ensures ∙ c.if-not-laid_out.true))

pub decode-requires-clause-fact_1 : goal.decode-requires-clause-fact_1
decode-requires-clause-fact_1 c = laid_is _ (sym c.laid_out.ensures ∙ c.if-not-laid_out.false)

pub read16-requires : goal.read16-requires
read16-requires c = let h = laid_is _ (sym c.laid_out.ensures ∙ c.if-not-laid_out.false) in omega (arith, h.long)

pub check_entry-requires : goal.check_entry-requires
check_entry-requires c =
    let h = laid_is _ (sym c.laid_out.ensures ∙ c.if-not-laid_out.false) in
    record { levels_in = first_level h; decoded = c.decode.ensures; started = omega arith; within = omega arith }

pub returns-clause-is : goal.returns-clause-is
returns-clause-is c = sound_checks c.decode.ensures (sym c.laid_out.ensures ∙ c.if-not-laid_out.false) c.read16.ensures.is c.check_entry.ensures
