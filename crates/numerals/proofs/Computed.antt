-- The cases, as computed facts.
use mathlib.Core.Path.{refl}
use Rattle.numerals.specs.Cases.{plain_cases, spare_cases, no_numerals}
use Rattle.numerals.specs.Claims.{NumeralCasesClaim}
use Rattle.numerals.proofs.Opened.{opened}

pub numeral_cases_claim : NumeralCasesClaim
unfolding opened plain_cases spare_cases no_numerals
numeral_cases_claim = record { plain_read = refl; plain_written = refl; plain_plain = refl; spare_read = refl; spare_plain = refl; none_read = refl }
