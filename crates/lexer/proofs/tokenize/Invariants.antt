use Prim.Native.Nat.{◌-◌, ◌≤◌}
use lib.ListN.{length, take}
use Rattle.lexer.proofs.Counting.{BracketsCounted}
use Rattle.lexer.proofs.Lexing.{LexedTo}
use Rattle.lexer.proofs.tokenize.Given as goal

abbrev pub invariant-loop-i : goal.invariant-loop-i
invariant-loop-i l = record {
  lexed : LexedTo l.text l.tokens (length l.initial.tokens) l.count l.i;
  few_opened : l.opened ≤ l.count;
  few_closed : l.closed ≤ l.count;
  brackets : BracketsCounted (take l.count l.tokens) l.opened l.closed l.fit;
}

abbrev pub decreases-loop-i : goal.decreases-loop-i
decreases-loop-i l = length l.text - l.i
