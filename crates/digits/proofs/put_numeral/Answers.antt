-- The minus, then the digits.
use Rattle.std.proofs.Common.{rules, arith, ap, length, pos}
use Rattle.std.specs.Prelude.{◌<ℤ◌}
use Rattle.digits.proofs.Written.{minus_written, numeral_below}
use Rattle.digits.proofs.put_numeral.Goals as goal

pub returns-then-n-lt0-clause-written : goal.returns-then-n-lt0-clause-written
returns-then-n-lt0-clause-written c =
    let low : c.args.n <ℤ pos 0 = search rules in
    minus_written c.args.out.now c.args.i c.args.n _ (omega (arith, c.requires, ap length (numeral_below c.args.n low))) low (search rules)
