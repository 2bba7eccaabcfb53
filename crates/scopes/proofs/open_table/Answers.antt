-- The number has to be one of the tables', and the letter is bound to that table.
use Rattle.std.proofs.lemmas.Int.{to_z-of_z}
use Rattle.scopes.proofs.Looking.{table_unknown, table_known}
use Rattle.scopes.proofs.Scopes.{room_for}
use Rattle.scopes.proofs.open_table.Goals as goal

pub returns-in_err-table-clause-is : goal.returns-in_err-table-clause-is
returns-in_err-table-clause-is c =
    rw c.from_residual.ensures (table_unknown _ _ _ _ (to_z-of_z _ _ c.ranges.number) c.in_err-table.ensures.is)

pub returns-clause-is : goal.returns-clause-is
returns-clause-is c =
    table_known _ _ _ _ (to_z-of_z _ _ c.ranges.number) c.in_ok-table.ensures.is c.bind.ensures (room_for c.requires.fact_2 0 0 c.requires.fact_3)
