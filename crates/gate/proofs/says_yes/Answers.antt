use native.Mathlib.Omega.{arith}
use Rattle.gate.proofs.Judged.{laid_out, row_room, judged, judged_says}
use Rattle.gate.proofs.says_yes.Goals as goal

pub overflow_mul-w : goal.overflow_mul-w
overflow_mul-w c = omega (arith, row_room c.requires.opened.sized c.requires.places c.table_place-table.ensures c.requires.below)

pub read16-requires : goal.read16-requires
read16-requires c = let laid = laid_out _ c.requires.opened.sound_is in omega arith

pub run_entry-requires : goal.run_entry-requires
run_entry-requires c = judged c.requires.opened c.requires.places c.table_place-table.ensures c.requires.below c.read16.ensures.is

pub returns : goal.returns
returns c = judged_says c.requires.opened c.requires.places c.table_place-table.ensures c.requires.below c.read16.ensures.is c.run_entry.ensures
