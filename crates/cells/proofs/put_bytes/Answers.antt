use Rattle.std.proofs.Common.{arith}
use Rattle.tables.proofs.Placed.{placed_lent}
use Rattle.cells.proofs.put_bytes.Goals as goal

pub returns : goal.returns
returns c = rw (c.copy_from_slice.ensures.after) (placed_lent c.args.bytes.now c.args.i _ c.args.from.now (omega arith))
