-- The kinds of entries by groups, for what functions require of the number of a kind. The contract of a public call cites nothing of this file.
use Rattle.std.specs.Prelude.{◌≡◌, ◌⊎◌, ℕ}
use Rattle.tables.specs.declared.Connective.{Connective}
use Rattle.tables.specs.declared.Quantifier.{Quantifier}
use Rattle.tables.specs.declared.MarkTest.{MarkTest}
use Rattle.card.specs.declared.Interpretation.{Interpretation}
use Rattle.card.specs.Layout.{pair_kind, row_kind, comparison_kind, mark_kind}

-- the number of an entry with two inner ones
abbrev pub PairNumber : ℕ → Type 0
PairNumber n = (j : Connective) × (n ≡ pair_kind j)

-- of an entry that asks for rows of a table
abbrev pub RowNumber : ℕ → Type 0
RowNumber n = (q : Quantifier) × (n ≡ row_kind q)

-- of a comparison
abbrev pub ComparisonNumber : ℕ → Type 0
ComparisonNumber n = (i : Interpretation) × (n ≡ comparison_kind i)

-- of a test by the mark
abbrev pub MarkNumber : ℕ → Type 0
MarkNumber n = (m : MarkTest) × (n ≡ mark_kind m)

-- of an entry with inner ones, and of one without
abbrev pub InnerNumber : ℕ → Type 0
InnerNumber n = PairNumber n ⊎ RowNumber n

abbrev pub LeafNumber : ℕ → Type 0
LeafNumber n = ComparisonNumber n ⊎ MarkNumber n
