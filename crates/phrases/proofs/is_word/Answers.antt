-- Another word stands there.
use mathlib.Core.Path.{◌≡◌}
use Rattle.std.proofs.Common.{rules}
use Rattle.phrases.proofs.Tokens.{expect_other}
use Rattle.phrases.proofs.is_word.Goals as goal

pub returns-in-Some-clause-absent : goal.returns-in-Some-clause-absent
returns-in-Some-clause-absent c = λ e.
    let differ : c.in-Some.found ≡ c.args.word → ⊥ = search rules in
    expect_other c.args.s.now c.args.at c.args.word c.in-Some.found c.in-Some.ensures differ
