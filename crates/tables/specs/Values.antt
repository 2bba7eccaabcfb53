-- What rules and cards share: values (document 01, Rule text: a constant, or a level and a column), comparisons, connectives, quantifiers, tests by the mark,
-- which fields a kind uses, the rows at which the levels stand, and how many levels and entries there may be.
use Rattle.std.specs.Prelude.{Bool, true, false, not, ◌&&◌, List, [], ◌∷◌, ◌++◌, ℕ, eqb, ltb, ℤ, pos, negsuc, length, get_or}
use Rattle.std.specs.Int.Signed.{lt_z, le_z}
use Rattle.tables.specs.Lists.{numbered}
use Rattle.tables.specs.Bytes.{between, in_range}
use Rattle.tables.specs.Tables.{Cell, Blank, Declined, Present, Row, Tables, rows_of, cell_in}
use Rattle.tables.specs.declared.Value.{Value}
use Rattle.tables.specs.declared.Value.TheVariants.{Constant, Column}
use Rattle.tables.specs.declared.Comparison.{Comparison}
use Rattle.tables.specs.declared.Comparison.TheVariants.{Eq, Ne, Lt, Le, Gt, Ge}
use Rattle.tables.specs.declared.MarkTest.{MarkTest}
use Rattle.tables.specs.declared.MarkTest.TheVariants.{Null, NotNull, IsDeclined, NotDeclined}

-- Constant k: the number k. Column l c: column c of the row at which level l stands.

-- a value's tag in a record: this for a constant, else the level
abbrev pub constant_tag : ℕ
constant_tag = 255

-- 'else level 0 to 3': so many levels there may be
abbrev pub most_levels : ℕ
most_levels = 4

-- 'entries n, 1 to 192' (Card): so many a card may have
abbrev pub most_entries : ℕ
most_entries = 192

-- the six comparisons, and their numbers in a record

abbrev pub comparison_number : Comparison → ℕ
comparison_number Eq = 1
comparison_number Ne = 2
comparison_number Lt = 3
comparison_number Le = 4
comparison_number Gt = 5
comparison_number Ge = 6

-- the comparison with a number from 1 to 6; any other number is taken for =
abbrev pub comparison_of : ℕ → Comparison
comparison_of n = get_or (Eq ∷ Eq ∷ Ne ∷ Lt ∷ Le ∷ Gt ∷ Ge ∷ []) n Eq

-- what joins two conditions, or two entries

-- what is asked of a table's rows

-- what is asked of a cell's mark, in a rule and in a card: IS NULL and blank, IS NOT NULL and not blank; and of document 02, Point 4: IS DECLINED and declined, IS NOT DECLINED and not
-- declined

-- which fields a kind uses, of those that a part and an entry both have besides kind and end; what it does not use is 0
pub record Uses : Type 0 where
  pub table : Bool
  pub comparison : Bool
  pub left : Bool
  pub right : Bool

-- a value that a kind does not use has the tag 0 and the number 0
abbrev pub unused_value : Value
unused_value = Column 0 0

-- what stands for such a value where a record is made; it is not written
abbrev pub any_value : Value
any_value = Constant (pos 0)

-- ---- comparing two numbers

abbrev pub eq_z : ℤ → ℤ → Bool
eq_z (pos a) (pos b) = eqb a b
eq_z (pos a) (negsuc b) = false
eq_z (negsuc a) (pos b) = false
eq_z (negsuc a) (negsuc b) = eqb a b

-- a comparison by its sign: = <> < <= > >=
abbrev pub holds : Comparison → ℤ → ℤ → Bool
holds Eq x y = eq_z x y
holds Ne x y = not (eq_z x y)
holds Lt x y = lt_z x y
holds Le x y = le_z x y
holds Gt x y = lt_z y x
holds Ge x y = le_z y x

-- ---- the cell that a value names

-- the rows at which the levels stand, level 0 first
abbrev pub Env : Type 0
Env = List Row

-- the table of each level around a whole rule: level 0 has table 1
abbrev pub judged_levels : List ℕ
judged_levels = 1 ∷ []

-- the row of each level there: the judged row
abbrev pub judged_row : Tables → ℕ → Env
judged_row ts row = get_or (rows_of ts 1) row [] ∷ []

-- one level deeper, at this row
infixl 60 ◌▸◌
abbrev pub ◌▸◌ : Env → Row → Env
env ▸ row = env ++ (row ∷ [])

-- a constant is a cell that is never blank and, since 'a number is never declined', never declined
abbrev pub cell_of : Env → Value → Cell
cell_of env (Constant k) = Present k
cell_of env (Column level c) = cell_in (get_or env level []) c

-- a comparison of two cells: by their numbers, unless one of them is blank, or both; Point 4: 'Wherever document 01 speaks of a blank in a comparison, a declined cell is
-- covered too'
abbrev pub by_numbers : {A : Type 0} → A → (ℤ → ℤ → A) → Cell → Cell → A
by_numbers missing compare Blank y = missing
by_numbers missing compare Declined y = missing
by_numbers missing compare (Present x) Blank = missing
by_numbers missing compare (Present x) Declined = missing
by_numbers missing compare (Present x) (Present y) = compare x y

-- declined 'is blank in every respect, IS NULL included'
abbrev pub is_blank : Cell → Bool
is_blank Blank = true
is_blank Declined = true
is_blank (Present x) = false

-- 'a number is never declined', and a plain blank is not either: IS DECLINED goes 'by the mark'
abbrev pub is_declined : Cell → Bool
is_declined Blank = false
is_declined Declined = true
is_declined (Present x) = false

-- whether a cell's mark is as it is asked for
abbrev pub mark_passes : MarkTest → Cell → Bool
mark_passes Null x = is_blank x
mark_passes NotNull x = not (is_blank x)
mark_passes IsDeclined x = is_declined x
mark_passes NotDeclined x = not (is_declined x)

-- ---- what a value names exists

-- its level and its column exist, or its number has 32 bits; columns has the columns of each table, levels the table of each level, level 0 first
abbrev pub value_fits : List ℕ → List ℕ → Value → Bool
value_fits columns levels (Constant k) = in_range k
value_fits columns levels (Column l c) = ltb l (length levels) && between 1 (numbered columns (get_or levels l 0) 0) c
