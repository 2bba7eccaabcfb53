-- Document 01, Meaning: true, false and unknown, and what AND, OR and NOT make of them. Document 02, Point 1: which of them a truth test asks for; Point 3: their
-- numbers.
use Rattle.std.specs.Prelude.{Bool, true, false, ℕ}
use Rattle.tables.specs.declared.Connective.{Connective}
use Rattle.tables.specs.declared.Connective.TheVariants.{And, Or}
use Rattle.rule.specs.declared.Truth.{Truth}
use Rattle.rule.specs.declared.Truth.TheVariants.{False, Unknown, True}

abbrev pub truth : Bool → Truth
truth true = True
truth false = False

-- Point 3: 'false, unknown, true as 0, 1, 2'; JUDGE gives these numbers to C
abbrev pub truth_number : Truth → ℕ
truth_number False = 0
truth_number Unknown = 1
truth_number True = 2

abbrev pub is_true : Truth → Bool
is_true False = false
is_true Unknown = false
is_true True = true

abbrev pub is_unknown : Truth → Bool
is_unknown False = false
is_unknown Unknown = true
is_unknown True = false

abbrev pub is_false : Truth → Bool
is_false False = true
is_false Unknown = false
is_false True = false

-- a value is the one that a truth test asks for: TRUE, FALSE or UNKNOWN
abbrev pub is_that : Truth → Truth → Bool
is_that True a = is_true a
is_that False a = is_false a
is_that Unknown a = is_unknown a

-- 'NOT keeps unknown', and exchanges true and false
abbrev pub not3 : Truth → Truth
not3 False = True
not3 Unknown = Unknown
not3 True = False

-- 'AND is false if one side is false, else unknown if one is unknown', and else true
abbrev pub and3 : Truth → Truth → Truth
and3 False b = False
and3 Unknown False = False
and3 Unknown Unknown = Unknown
and3 Unknown True = Unknown
and3 True b = b

-- 'OR is its mirror': true if one side is true, else unknown if one is unknown, and else false
abbrev pub or3 : Truth → Truth → Truth
or3 True b = True
or3 Unknown False = Unknown
or3 Unknown Unknown = Unknown
or3 Unknown True = True
or3 False b = b

abbrev pub join3 : Connective → Truth → Truth → Truth
join3 And a b = and3 a b
join3 Or a b = or3 a b

-- the value of one side that decides for both: 'AND is false if one side is false', and 'OR is its mirror'
abbrev pub deciding : Connective → Truth
deciding And = False
deciding Or = True
