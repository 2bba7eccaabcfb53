-- Laws of the three truth values over rows.
use mathlib.Core.Path.{◌≡◌, refl}
use mathlib.Core.Bool.{Bool, true, false, cond}
use mathlib.Core.List.{List, ◌∷◌}
use Rattle.tables.specs.Lists.{any}
use Rattle.tables.specs.declared.Quantifier.TheVariants.{Some, All}
use Rattle.rule.specs.Truth.{is_true, is_false, is_unknown, and3, or3}
use Rattle.rule.specs.declared.Truth.{Truth}
use Rattle.rule.specs.declared.Truth.TheVariants.{False, Unknown, True}
use Rattle.rule.specs.Meaning.{over3}

-- SOME is OR over its rows, ALL is AND
or_unknown : (a b : Bool) → cond a True Unknown ≡ or3 Unknown (cond a True (cond b Unknown False))
or_unknown true b = refl
or_unknown false true = refl
or_unknown false false = refl

pub some_cons : (v : Truth) (vs : List Truth) → over3 Some (v ∷ vs) ≡ or3 v (over3 Some vs)
some_cons False vs = refl
some_cons Unknown vs = or_unknown (any is_true vs) (any is_unknown vs)
some_cons True vs = refl

and_unknown : (a b : Bool) → cond a False Unknown ≡ and3 Unknown (cond a False (cond b Unknown True))
and_unknown true b = refl
and_unknown false true = refl
and_unknown false false = refl

pub all_cons : (v : Truth) (vs : List Truth) → over3 All (v ∷ vs) ≡ and3 v (over3 All vs)
all_cons False vs = refl
all_cons Unknown vs = and_unknown (any is_false vs) (any is_unknown vs)
all_cons True vs = refl
