-- `translator::write_card` meets its contract: the card in three writes.
use mathlib.Core.Path.{refl}
use Rattle.translator.proofs.Writing.{writable, card_written}
use Rattle.translator.proofs.write_card.Goals as goal

pub write_part-requires : goal.write_part-requires
write_part-requires c =
    writable c.requires c.byte-kinds_at.ensures.is c.write_sizes.ensures

pub returns : goal.returns
returns c h =
    card_written h c.byte-kinds_at.ensures.is c.write_sizes.ensures refl c.write_part.ensures _ c.put_bytes.ensures
