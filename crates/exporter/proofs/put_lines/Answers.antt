use Rattle.std.proofs.Common.{arith}
use Rattle.exporter.proofs.Lines.{put_line}
use Rattle.exporter.proofs.put_lines.Goals as goal

pub loop-row-preserved : goal.loop-row-preserved
loop-row-preserved c =
    (c.loop-row.invariant.0, put_line c.loop-row.invariant.1 (omega arith) _ _ c.put_row-next.ensures.written c.put_row-next.ensures.next)
