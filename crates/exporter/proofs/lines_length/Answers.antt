use Rattle.exporter.proofs.Cells.{rows_long}
use Rattle.exporter.proofs.Lines.{lines_most, measured_none}
use Rattle.exporter.proofs.lines_length.Goals as goal

pub loop-row-init : goal.loop-row-init
loop-row-init c = (rows_long _ _ c.requires, measured_none _ (lines_most _ _ c.requires))
