-- What an option of the code stands for in the definitions, which have an option type of their own.
use Rattle.std.specs.Prelude.{Option, Some, None}
use Rattle.std.proofs.Math.Option.{Option as Found, none, some}

abbrev pub found : {A : Type 0} → Option A → Found A
found (Some a) = some a
found None = none
