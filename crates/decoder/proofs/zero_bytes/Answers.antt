use Rattle.std.proofs.Common.{refl}
use Rattle.decoder.proofs.Decoding.{zeros_next, zeros_end}
use Rattle.decoder.proofs.zero_bytes.Goals as goal

pub loop-byte-init : goal.loop-byte-init
loop-byte-init c = refl

pub loop-byte-preserved : goal.loop-byte-preserved
loop-byte-preserved c = zeros_next c.args.bytes.now c.loop-byte.highest c.loop-byte.byte-index _ c.loop-byte.invariant c.loop-byte-test.true c.max-highest.ensures

pub returns : goal.returns
returns c = zeros_end c.args.bytes.now c.loop-byte.highest c.loop-byte.byte-index c.loop-byte.invariant c.loop-byte-test.false
