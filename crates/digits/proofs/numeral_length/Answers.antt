-- The digits, and the minus before them.
use Rattle.std.proofs.Common.{arith}
use Rattle.numerals.specs.Numerals.{most_digits}
use Rattle.numerals.proofs.Digits.{digits_few}
use Rattle.digits.proofs.numeral_length.Goals as goal

pub overflow_add-result : goal.overflow_add-result
overflow_add-result c = omega (arith, c.digit_count-digits.ensures, digits_few most_digits c.unsigned_abs.result)
