-- What a value behind a pointer becomes, whatever its type is. The contracts of the exported functions cite nothing of this file.
use Rattle.tables.specs.Refusals.{Answer, Refused, Given}

-- what a call gives, or what was there before
abbrev pub value_after : {A : Type 0} → Answer A → A → A
value_after (Given x) before = x
value_after (Refused n) before = before
