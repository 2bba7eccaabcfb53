-- Something that may be missing, and a property that it has where it is there.
use mathlib.Core.Option.{Option, none, some}
use Rattle.tables.specs.Lists.{◌>>=◌}

-- something found has the property P
pub data Every {A : Type 0} (P : A → Type 0) : Option A → Type 0 where
  missing : Every P none
  there : {x : A} → P x → Every P (some x)

pub found : {A : Type 0} {P : A → Type 0} {x : A} → Every P (some x) → P x
found (there p) = p

pub every_bind : {A B : Type 0} (P : A → Type 0) (Q : B → Type 0) {o : Option A} (f : A → Option B) → Every P o → ((x : A) → P x → Every Q (f x)) → Every Q (o >>= f)
every_bind P Q f missing h = missing
every_bind P Q f (there {x = x} p) h = h x p
