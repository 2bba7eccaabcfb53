use Rattle.cells.proofs.Cells.{marks_next, marks_end}
use Rattle.cells.proofs.marks_fit.Goals as goal

pub loop-mark-preserved : goal.loop-mark-preserved
loop-mark-preserved c =
    rw c.max-highest.ensures (marks_next c.args.file.now c.cell_count-cells.result c.loop-mark.highest c.loop-mark.mark-index c.requires c.cell_count-cells.ensures.is c.loop-mark.invariant c.loop-mark-test.true)

pub returns : goal.returns
returns c =
    marks_end c.args.file.now c.cell_count-cells.result c.loop-mark.highest c.loop-mark.mark-index c.requires c.cell_count-cells.ensures.is c.loop-mark.invariant
    c.loop-mark.auto.mark-index-end c.loop-mark-test.false
