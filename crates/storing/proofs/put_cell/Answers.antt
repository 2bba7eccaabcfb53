use Rattle.std.proofs.Common.{rules}
use mathlib.Core.List.{flat_map}
use Rattle.storing.proofs.put_cell.Goals as goal

pub returns : goal.returns
unfolding flat_map
returns c = search rules
