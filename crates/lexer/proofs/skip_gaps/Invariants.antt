use Rattle.rule.specs.Tokens.{is_gap}
use Rattle.numerals.proofs.Runs.{Passed}
use Rattle.lexer.proofs.skip_gaps.Given as goal

abbrev pub invariant-loop-end : goal.invariant-loop-end
invariant-loop-end l = Passed is_gap l.text l.i l.end
