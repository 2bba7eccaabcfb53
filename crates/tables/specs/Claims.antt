-- What proofs/ shows of these definitions.
use Rattle.std.specs.Prelude.{◌≡◌, Bool, true, not, ◌↔◌, ◌⊎◌, ℕ, ◌<◌, ◌≤◌, eqb, length}
use mathlib.Core.List.{List, ◌∷◌, ◌++◌, map, Memᴰ, IsChain}
use Rattle.std.proofs.Math.Option.{none, some}
use Rattle.tables.specs.Tables.{sizes, columns_of, row_count, cell_count, value_bits, mark_of, sizes_fit, marks_fit, Cell, Blank, Declined, Present, cell_at, Tables, tables_of, rows_where}
use Rattle.tables.specs.Values.{is_blank, is_declined}
use Rattle.tables.specs.Refusals.{Refusal, ◌if◌, numbers, first_applying, tables_refusals}
use Rattle.tables.specs.Cases.{sample_file, sample_tables, edges, size_edges, refusal_at, comparisons, compared_says, mark_cases, marked_says, turned_file, value_cases, value_case_fits}

-- the sample file holds the sample tables
abbrev pub SampleClaim : Type 0
SampleClaim = tables_of sample_file ≡ sample_tables

-- the six comparisons, by their numbers, of less, equal and greater numbers of either sign
abbrev pub ComparisonsClaim : Type 0
ComparisonsClaim = map compared_says comparisons ≡ map (λ c. c.says) comparisons

-- the four tests by the mark, of cells with each of the three marks
abbrev pub MarksClaim : Type 0
MarksClaim = map marked_says mark_cases ≡ map (λ c. c.says) mark_cases

-- 'true or false by the mark', of each cell of any file to which refusal 2 does not apply: it is declined exactly where its mark is 2, and blank exactly where it is not 0
pub record MarkedCellsClaim : Type 0 where
  pub declined : (file : List ℕ) (k : ℕ) → marks_fit file ≡ true → k < cell_count file → is_declined (cell_at file k) ≡ eqb (mark_of file k) 2
  pub blank : (file : List ℕ) (k : ℕ) → marks_fit file ≡ true → k < cell_count file → is_blank (cell_at file k) ≡ not (eqb (mark_of file k) 0)

-- which levels, columns and constants exist, from both sides of each limit
abbrev pub ValuesClaim : Type 0
ValuesClaim = map value_case_fits value_cases ≡ map (λ c. c.exists) value_cases

-- long files at the edges of refusal 1, together
abbrev pub SizesClaim : Type 0
SizesClaim = map (λ e. sizes_fit e.sized) size_edges ≡ map (λ e. e.fits) size_edges

-- the files at the edges of the refusals, together
abbrev pub EdgesClaim : Type 0
EdgesClaim = map refusal_at edges ≡ map (λ e. e.refusal) edges

-- the rows that a test picks: exactly those of which it holds, each once, rising
pub record RowsClaim : Type 0 where
  pub exactly : (file : List ℕ) (p : ℕ → Bool) (row : ℕ) → Memᴰ row (rows_where file p) ↔ ((row < row_count file 1) × (p row ≡ true))
  pub rising : (file : List ℕ) (p : ℕ → Bool) → IsChain ◌<◌ (rows_where file p)

-- 'the value bytes of a blank cell may be anything and affect no answer', and so those of a declined one, which 'is blank in every respect'. Two files that differ in
-- such bytes alone: they are equally long, and have the same sizes, the same marks, and the same values where the mark is 0
pub record BlanksDiffer (file other : List ℕ) : Type 0 where
  pub same_length : length file ≡ length other
  pub same_sizes : sizes file ≡ sizes other
  pub same_marks : (k : ℕ) → k < cell_count file → mark_of file k ≡ mark_of other k
  pub same_values : (k : ℕ) → k < cell_count file → mark_of file k ≡ 0 → value_bits file k ≡ value_bits other k

-- all that an answer is made from; that the answers of the calls are the same is BlanksClaim of the crate translation, and of EXPORT in ExportClaim of lines
pub record SameTables (file other : List ℕ) : Type 0 where
  pub refusals : tables_refusals file ≡ tables_refusals other
  pub columns : columns_of file ≡ columns_of other
  pub rows : (t : ℕ) → row_count file t ≡ row_count other t
  pub tables : tables_of file ≡ tables_of other

abbrev pub BlankCellsClaim : Type 0
BlankCellsClaim = (file other : List ℕ) → BlanksDiffer file other → SameTables file other

-- ---- document 02, Point 4: declined 'is blank in every respect'

-- two marks that are equal, or of which one is blank and the other declined
abbrev pub MarksAlike : ℕ → ℕ → Type 0
MarksAlike m n = (m ≡ n) ⊎ (((m ≡ 1) × (n ≡ 2)) ⊎ ((m ≡ 2) × (n ≡ 1)))

-- two files with the same sizes and length: at each cell the marks are equal, or one is 1 and the other 2, and the value bytes are equal where the mark is 0. So any marks 2 of a file may be
-- turned into 1, or back
pub record DeclinedDiffer (file other : List ℕ) : Type 0 where
  pub same_length : length file ≡ length other
  pub same_sizes : sizes file ≡ sizes other
  pub alike_marks : (k : ℕ) → k < cell_count file → MarksAlike (mark_of file k) (mark_of other k)
  pub same_values : (k : ℕ) → k < cell_count file → mark_of file k ≡ 0 → value_bits file k ≡ value_bits other k

-- a declined cell taken for a blank one; and so all cells of some tables
abbrev pub as_blank : Cell → Cell
as_blank Blank = Blank
as_blank Declined = Blank
as_blank (Present k) = Present k

abbrev pub tables_as_blank : Tables → Tables
tables_as_blank ts = map (map (map as_blank)) ts

-- their refusals and sizes are the same, and so are their tables once each declined cell is taken for a blank one; that the answers are the same, where nothing asks whether cells are declined,
-- is DeclinedClaim of the crate translation
pub record AlikeTables (file other : List ℕ) : Type 0 where
  pub refusals : tables_refusals file ≡ tables_refusals other
  pub columns : columns_of file ≡ columns_of other
  pub rows : (t : ℕ) → row_count file t ≡ row_count other t
  pub tables : tables_as_blank (tables_of file) ≡ tables_as_blank (tables_of other)

abbrev pub DeclinedCellsClaim : Type 0
DeclinedCellsClaim = (file other : List ℕ) → DeclinedDiffer file other → AlikeTables file other

-- two such files: one has a blank cell and a declined one where the other has them the other way round
abbrev pub TurnedCaseClaim : Type 0
TurnedCaseClaim = DeclinedDiffer sample_file turned_file

-- ---- which refusal is given

-- a refusal of a list has this number and applies
abbrev pub AppliesIn : ℕ → List Refusal → Type 0
AppliesIn n rs = Memᴰ (n if true) rs

-- it is the first of the list that applies: none before it does
pub record FirstIn (n : ℕ) (rs : List Refusal) : Type 0 where
  pub before : List Refusal
  pub after : List Refusal
  pub stands : rs ≡ before ++ ((n if true) ∷ after)
  pub none_before : (m : ℕ) → ¬ AppliesIn m before

-- a number is given exactly where it is that of the first refusal of the list that applies; none is given exactly where none applies
pub record FirstClaim : Type 0 where
  pub given : (rs : List Refusal) (n : ℕ) → (first_applying rs ≡ some n) ↔ FirstIn n rs
  pub none_given : (rs : List Refusal) → (first_applying rs ≡ none) ↔ ((n : ℕ) → ¬ AppliesIn n rs)

-- 'the lowest applying number is given', of a list whose numbers rise: a number is given exactly where it applies and no lower one does
abbrev pub LowestClaim : Type 0
LowestClaim = (rs : List Refusal) (n : ℕ) → IsChain ◌<◌ (numbers rs) → (first_applying rs ≡ some n) ↔ (AppliesIn n rs × ((m : ℕ) → AppliesIn m rs → n ≤ m))
