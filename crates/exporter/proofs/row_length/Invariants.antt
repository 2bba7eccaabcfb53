-- The bytes of a line, added up field by field.
use mathlib.Core.Path.{◌≡◌}
use Prim.Native.Nat.{◌*◌, ◌≤◌}
use lib.ListN.{length, take}
use Rattle.tables.specs.Tables.{most_columns}
use Rattle.lines.specs.Claims.{line_room}
use Rattle.exporter.specs.Code.{first_row}
use Rattle.exporter.proofs.row_length.Given as goal

abbrev pub invariant-loop-column : goal.invariant-loop-column
invariant-loop-column l =
    (length (first_row l.file l.row) ≡ l.at.columns) × (l.at.columns ≤ most_columns) × (l.column ≤ l.at.columns) × (l.n ≤ 12 * l.column) × (l.n ≡ line_room (take l.column (first_row l.file l.row)))
