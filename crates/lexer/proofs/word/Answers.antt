-- A word that was found.
use Rattle.lexer.proofs.Words.{word_found}
use Rattle.lexer.proofs.word.Goals as goal

pub returns : goal.returns
returns c =
    word_found c.args.text.now c.args.i _ c.spell_run-run.ensures c.spelled_word.result c.if-run-i-gt-MOST_CAPITALS.false c.spelled_word.ensures _ _ c.in_ok-word.was c.token_to.ensures
