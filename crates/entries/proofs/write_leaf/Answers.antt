-- One entry, at its number.
use Rattle.std.proofs.Common.{refl}
use Rattle.card.specs.Card.{entries}
use Rattle.card.specs.Layout.{kind_bytes, records_from}
use Rattle.entries.proofs.write_leaf.Goals as goal

pub returns : goal.returns
unfolding entries kind_bytes records_from
returns c = record { next = refl; kinds_are = c.put_entry.ensures.kinds; records_are = c.put_entry.ensures.records }
