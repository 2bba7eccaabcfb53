-- What was seen of a cell: its mark tells whether it is blank, and whether it is declined.
use Rattle.std.proofs.lemmas.Grind.{common_steps}
use mathlib.Core.Path.{◌≡◌}
use mathlib.Core.Bool.{not}
use native.Mathlib.Omega.{arith}
use lib.Dec.{leb, eqb}
use Rattle.tables.specs.Values.{is_blank, is_declined}
use Rattle.cells.specs.Code.{seen_cell}
use Rattle.cells.specs.declared.Seen.{Seen}

pub seen_blank : (x : Seen) → not (eqb x.mark 0) ≡ is_blank (seen_cell x)
seen_blank x = grind (arith, common_steps)

pub seen_marked : (x : Seen) → leb 1 x.mark ≡ is_blank (seen_cell x)
seen_marked x = grind (arith, common_steps)

pub seen_declined : (x : Seen) → leb 2 x.mark ≡ is_declined (seen_cell x)
seen_declined x = grind (arith, common_steps)
