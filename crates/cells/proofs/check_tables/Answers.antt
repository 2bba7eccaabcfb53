use Rattle.std.proofs.Common.{sym, ◌∙◌}
use Rattle.cells.proofs.Cells.{sized_is}
use Rattle.cells.proofs.check_tables.Goals as goal

pub marks_fit-requires : goal.marks_fit-requires
marks_fit-requires c = sized_is _ (sym c.sizes_fit.ensures ∙ c.if-not-sizes_fit.false)
