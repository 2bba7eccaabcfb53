-- What is printed on some files, as a computed fact.
use mathlib.Core.Path.{refl}
use Rattle.rule.proofs.Opened.{opened as rule-opened}
use Rattle.rule.specs.Cases.{unknown_of}
use Rattle.admission.specs.Output.{row_lines, rows_text, refusal_text, output}
use Rattle.admission.specs.Cases.{output_cases}
use Rattle.admission.specs.Claims.{OutputCasesClaim}

pub output_cases_claim : OutputCasesClaim
unfolding rule-opened unknown_of row_lines rows_text refusal_text output output_cases
output_cases_claim = refl
