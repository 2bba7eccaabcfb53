-- A letter or a number, by its first byte.
use native.Mathlib.Omega.{arith}
use mathlib.Core.Path.{refl}
use Rattle.lexer.proofs.Firsts.{digit_at, small_at}
use Rattle.lexer.proofs.first_token.Goals as goal

pub returns-then-b-gt64 : goal.returns-then-b-gt64
returns-then-b-gt64 c = small_at c.args.text.now _ _ c.requires refl _ c.token_to.ensures (omega arith) (omega arith)

pub returns-then-b-lt58 : goal.returns-then-b-lt58
returns-then-b-lt58 c =
    digit_at _ _ _ c.requires refl c.number_token-then-b-lt58.result c.unsigned_at.result (omega arith) (omega arith) c.number_token-then-b-lt58.ensures
    c.unsigned_at.ensures
