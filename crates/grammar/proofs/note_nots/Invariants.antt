use Prim.Native.Nat.{◌+◌}
use Rattle.grammar.specs.Code.{not_notes}
use Rattle.grammar.proofs.Noting.{Noted}
use Rattle.grammar.proofs.note_nots.Given as goal

abbrev pub invariant-loop-j : goal.invariant-loop-j
invariant-loop-j l = Noted l.initial.out l.out l.w (l.w + l.j) (not_notes l.j)
