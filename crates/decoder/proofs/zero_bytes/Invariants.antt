use Rattle.std.proofs.Common.{◌≡◌, eqb, take}
use Rattle.tables.specs.Lists.{all}
use Rattle.decoder.proofs.zero_bytes.Given as goal

-- The highest of the bytes so far is 0 just if all of them are.
abbrev pub invariant-loop-byte : goal.invariant-loop-byte
invariant-loop-byte l = eqb l.highest 0 ≡ all (λ x. eqb x 0) (take l.byte-index l.bytes)
