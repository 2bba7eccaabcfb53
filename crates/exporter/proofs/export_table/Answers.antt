use Rattle.exporter.proofs.Exported.{export_sized}
use Rattle.exporter.proofs.export_table.Goals as goal

pub layout_of-requires : goal.layout_of-requires
layout_of-requires c = export_sized _ c.requires
