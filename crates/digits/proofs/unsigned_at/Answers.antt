-- The number of a run of digits, or the reason why there is none.
use Rattle.std.proofs.Common.{pos, arith, rules}
use Rattle.digits.proofs.Numbers.{number_no, number_found, above_out, above_in}
use Rattle.digits.proofs.unsigned_at.Goals as goal

pub returns-in_err-run : goal.returns-in_err-run
returns-in_err-run c = rw (c.from_residual.ensures) (number_no pos 0 c.args.text.now c.args.i 2147483647 above_out c.in_err-run.ensures)

pub returns : goal.returns
returns c =
    let run = c.in_ok-run.run' in
    number_found pos 0 c.args.text.now c.args.i 2147483647 run above_in c.in_ok-run.ensures _ c.args.i (search rules) (omega arith)
