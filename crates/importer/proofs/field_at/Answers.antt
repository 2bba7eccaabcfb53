-- A number that is found is the field.
use Rattle.std.proofs.Common.{rules}
use Rattle.importer.proofs.Fields.{field_number}
use Rattle.importer.proofs.field_at.Goals as goal

pub returns-in-Some : goal.returns-in-Some
returns-in-Some c = field_number _ _ c.in-Some.found.number _ _ (search rules) c.in-Some.ensures
