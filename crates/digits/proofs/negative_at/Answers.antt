-- The same with the minus before the run.
use Rattle.std.proofs.Common.{◌-◌, arith, rules}
use Rattle.numerals.specs.Numerals.{negative}
use Rattle.digits.proofs.Numbers.{number_no, number_found, range_out, range_below}
use Rattle.digits.proofs.negative_at.Goals as goal

pub returns-in_err-run : goal.returns-in_err-run
returns-in_err-run c = rw (c.from_residual.ensures) (number_no negative 1 c.args.text.now c.args.i 2147483648 range_out c.in_err-run.ensures)

pub returns : goal.returns
returns c =
    let run = c.in_ok-run.run' in
    number_found negative 1 c.args.text.now c.args.i 2147483648 run range_below c.in_ok-run.ensures _ (c.args.i - 1) (search rules) (omega arith)
