use Rattle.std.proofs.Common.{List, set, ap₂, ◌∙◌, arith}
use Rattle.rule.specs.declared.Part.{Part}
use Rattle.reader.proofs.Storing.{stored_next}
use Rattle.reader.proofs.write_parts.Goals as goal

pub loop-i-preserved : goal.loop-i-preserved
loop-i-preserved c =
    ap₂ (λ (l : List Part) (x : Part). set l c.loop-i.i x) c.loop-i.invariant c.publish.ensures
    ∙ stored_next c.args.parts.now c.args.list.now c.loop-i.i (omega arith) (omega arith) _
