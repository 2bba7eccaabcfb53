-- The kinds of parts by groups, for what functions require of the number of a kind. The contract of a public call cites nothing of this file.
use Rattle.std.specs.Prelude.{◌≡◌, ◌⊎◌, ℕ}
use Rattle.tables.specs.declared.Connective.{Connective}
use Rattle.tables.specs.declared.Quantifier.{Quantifier}
use Rattle.tables.specs.declared.MarkTest.{MarkTest}
use Rattle.tables.specs.declared.MarkTest.TheVariants.{NotDeclined}
use Rattle.rule.specs.declared.Truth.TheVariants.{Unknown}
use Rattle.rule.specs.declared.Unary.{Unary}
use Rattle.rule.specs.declared.Unary.TheVariants.{Is, IsNot}
use Rattle.rule.specs.Parts.{Kind, kind_number, join_kind, unary_kind, compare_kind, mark_kind, exists_kind, list_kind}

-- the number of a kind
abbrev pub KindNumber : ℕ → Type 0
KindNumber n = (k : Kind) × (n ≡ kind_number k)

-- the last of these numbers
abbrev pub last_kind : ℕ
last_kind = mark_kind NotDeclined

-- the number of AND or of OR
abbrev pub JoinNumber : ℕ → Type 0
JoinNumber n = (j : Connective) × (n ≡ join_kind j)

-- of a part with one condition in it and no FROM
abbrev pub UnaryNumber : ℕ → Type 0
UnaryNumber n = (u : Unary) × (n ≡ unary_kind u)

-- of IS UNKNOWN or IS NOT UNKNOWN
abbrev pub UnknownNumber : ℕ → Type 0
UnknownNumber n = (n ≡ unary_kind (Is Unknown)) ⊎ (n ≡ unary_kind (IsNot Unknown))

-- of a test by the mark: 5 and 6, and since Point 4 of document 02 also 16 and 17
abbrev pub MarkNumber : ℕ → Type 0
MarkNumber n = (m : MarkTest) × (n ≡ mark_kind m)

-- of a test without inner parts
abbrev pub TestNumber : ℕ → Type 0
TestNumber n = (n ≡ compare_kind) ⊎ MarkNumber n

-- of a list
abbrev pub ListNumber : ℕ → Type 0
ListNumber n = (q : Quantifier) × (n ≡ list_kind q)

-- of a part with a FROM
abbrev pub FromNumber : ℕ → Type 0
FromNumber n = (n ≡ exists_kind) ⊎ ListNumber n
