-- The first byte tells whether there is a minus.
use Rattle.std.proofs.Common.{arith}
use Rattle.digits.proofs.Numbers.{nothing_at, minus_here, unsigned_here}
use Rattle.digits.proofs.number_at.Goals as goal

pub returns-then-text-i : goal.returns-then-text-i
returns-then-text-i c = nothing_at _ _ c.if-text-i.true

pub returns-then-byte-eq45 : goal.returns-then-byte-eq45
returns-then-byte-eq45 c = minus_here _ _ _ (omega arith) c.byte.ensures.is c.negative_at.result c.if-byte-eq45.true c.negative_at.ensures

pub returns : goal.returns
returns c = unsigned_here c.args.text.now c.args.i _ (omega arith) c.byte.ensures.is _ c.if-byte-eq45.false c.unsigned_at.ensures
