-- A tables file and what it holds, files at the edges of refusals 1 and 2, and numbers that are compared.
use Rattle.std.specs.Prelude.{Bool, true, false, List, [], ◌∷◌, ◌++◌, map, ℕ, zero, suc, ℤ, pos, negsuc, replicate}
use Rattle.std.proofs.Math.Option.{Option, none, some}
use Rattle.tables.specs.Tables.{Blank, Declined, Present, Tables, cell_from}
use Rattle.tables.specs.Values.{comparison_of, holds, mark_passes, value_fits}
use Rattle.tables.specs.declared.Value.{Value}
use Rattle.tables.specs.declared.Value.TheVariants.{Constant, Column}
use Rattle.tables.specs.declared.MarkTest.{MarkTest}
use Rattle.tables.specs.declared.MarkTest.TheVariants.{Null, NotNull, IsDeclined, NotDeclined}
use Rattle.tables.specs.Refusals.{first_applying, tables_refusals}

-- table 1 of two columns and two rows, table 2 of one column and no rows, table 3 of one column and two rows
abbrev pub sample_file : List ℕ
sample_file =
    (3 ∷ 2 ∷ 2 ∷ 0 ∷ 1 ∷ 0 ∷ 0 ∷ 1 ∷ 2 ∷ 0 ∷ [])
    ++ (1 ∷ 2 ∷ 3 ∷ 4 ∷ 255 ∷ 255 ∷ 255 ∷ 255 ∷ 0 ∷ 0 ∷ 0 ∷ 128 ∷ 255 ∷ 255 ∷ 255 ∷ 127 ∷ 9 ∷ 9 ∷ 9 ∷ 9 ∷ 8 ∷ 8 ∷ 8 ∷ 8 ∷ [])
    ++ (0 ∷ 0 ∷ 0 ∷ 0 ∷ 1 ∷ 2 ∷ [])

-- 0x04030201, −1, and the lowest and the highest number; then a blank and a declined one
abbrev pub sample_tables : Tables
sample_tables =
    ((Present (pos 67305985) ∷ Present (negsuc 0) ∷ []) ∷ (Present (negsuc 2147483647) ∷ Present (pos 2147483647) ∷ []) ∷ [])
    ∷ []
    ∷ ((Blank ∷ []) ∷ (Declined ∷ []) ∷ [])
    ∷ []

-- some bytes, and the refusal that they get
pub record Edge : Type 0 where
  pub input : List ℕ
  pub refusal : Option ℕ

infix 10 ◌refused◌
abbrev pub ◌refused◌ : List ℕ → ℕ → Edge
bs refused n = record { input = bs; refusal = some n }

abbrev pub accepted : List ℕ → Edge
accepted bs = record { input = bs; refusal = none }

-- t tables of one column and no rows
abbrev empties : ℕ → List ℕ
empties zero = []
empties (suc t) = 1 ∷ 0 ∷ 0 ∷ empties t

-- the number of tables and of columns, the length, and the marks; with a wrong size and a wrong mark, 1 comes first
unfoldable pub edges : List Edge
edges =
    ([] refused 1) ∷ ((0 ∷ []) refused 1) ∷ accepted (8 ∷ empties 8) ∷ ((9 ∷ empties 9) refused 1)
    ∷ ((1 ∷ 0 ∷ 0 ∷ 0 ∷ []) refused 1) ∷ accepted (1 ∷ 16 ∷ 0 ∷ 0 ∷ []) ∷ ((1 ∷ 17 ∷ 0 ∷ 0 ∷ []) refused 1)
    ∷ ((1 ∷ 1 ∷ 1 ∷ 0 ∷ replicate 4 0) refused 1) ∷ accepted (1 ∷ 1 ∷ 1 ∷ 0 ∷ replicate 5 0) ∷ ((1 ∷ 1 ∷ 1 ∷ 0 ∷ replicate 6 0) refused 1)
    ∷ accepted (1 ∷ 1 ∷ 1 ∷ 0 ∷ replicate 5 1) ∷ accepted (1 ∷ 1 ∷ 1 ∷ 0 ∷ replicate 5 2) ∷ ((1 ∷ 1 ∷ 1 ∷ 0 ∷ replicate 5 3) refused 2) ∷ ((1 ∷ 1 ∷ 1 ∷ 0 ∷ replicate 6 3) refused 1)
    ∷ accepted ((1 ∷ 2 ∷ 1 ∷ 0 ∷ replicate 8 9) ++ (0 ∷ 2 ∷ [])) ∷ (((1 ∷ 2 ∷ 1 ∷ 0 ∷ replicate 8 9) ++ (0 ∷ 3 ∷ [])) refused 2)
    ∷ (((1 ∷ 2 ∷ 1 ∷ 0 ∷ replicate 8 9) ++ (255 ∷ 2 ∷ [])) refused 2) ∷ []

-- ---- sizes alone, on files that are long: whether refusal 1 applies

pub record SizeEdge : Type 0 where
  pub sized : List ℕ
  pub fits : Bool

-- 1,000 rows and 1,001, in table 1 and in table 2; 8,192 cells and 8,193: a table of 1,000 rows and 8 columns and one of a column and 192 or 193 rows
unfoldable pub size_edges : List SizeEdge
size_edges =
    record { sized = (1 ∷ 1 ∷ 232 ∷ 3 ∷ []) ++ replicate 5000 0; fits = true }
    ∷ record { sized = (1 ∷ 1 ∷ 233 ∷ 3 ∷ []) ++ replicate 5005 0; fits = false }
    ∷ record { sized = (2 ∷ 1 ∷ 0 ∷ 0 ∷ 1 ∷ 233 ∷ 3 ∷ []) ++ replicate 5005 0; fits = false }
    ∷ record { sized = (2 ∷ 8 ∷ 232 ∷ 3 ∷ 1 ∷ 192 ∷ 0 ∷ []) ++ replicate 40960 0; fits = true }
    ∷ record { sized = (2 ∷ 8 ∷ 232 ∷ 3 ∷ 1 ∷ 193 ∷ 0 ∷ []) ++ replicate 40965 0; fits = false }
    ∷ []

abbrev pub refusal_at : Edge → Option ℕ
refusal_at e = first_applying (tables_refusals e.input)

-- the sample file with 2 for the mark 1 and 1 for the mark 2, and other bytes below them
abbrev pub turned_file : List ℕ
turned_file =
    (3 ∷ 2 ∷ 2 ∷ 0 ∷ 1 ∷ 0 ∷ 0 ∷ 1 ∷ 2 ∷ 0 ∷ [])
    ++ (1 ∷ 2 ∷ 3 ∷ 4 ∷ 255 ∷ 255 ∷ 255 ∷ 255 ∷ 0 ∷ 0 ∷ 0 ∷ 128 ∷ 255 ∷ 255 ∷ 255 ∷ 127 ∷ 7 ∷ 0 ∷ 0 ∷ 0 ∷ 0 ∷ 7 ∷ 0 ∷ 0 ∷ [])
    ++ (0 ∷ 0 ∷ 0 ∷ 0 ∷ 2 ∷ 1 ∷ [])

-- ---- two numbers, and what = <> < <= > >= say of them

pub record Compared : Type 0 where
  pub left : ℤ
  pub right : ℤ
  pub says : List Bool

abbrev than : ℤ → ℤ → List Bool → Compared
than x y bs = record { left = x; right = y; says = bs }

abbrev equal : List Bool
equal = true ∷ false ∷ false ∷ true ∷ false ∷ true ∷ []

abbrev less : List Bool
less = false ∷ true ∷ true ∷ true ∷ false ∷ false ∷ []

abbrev greater : List Bool
greater = false ∷ true ∷ false ∷ false ∷ true ∷ true ∷ []

abbrev pub comparisons : List Compared
comparisons =
    than (pos 3) (pos 3) equal ∷ than (pos 2) (pos 3) less ∷ than (pos 3) (pos 2) greater
    ∷ than (negsuc 2) (negsuc 2) equal ∷ than (negsuc 3) (negsuc 2) less ∷ than (negsuc 2) (negsuc 3) greater
    ∷ than (negsuc 2) (pos 2) less ∷ than (pos 2) (negsuc 2) greater ∷ than (negsuc 0) (pos 0) less ∷ than (pos 0) (negsuc 0) greater
    ∷ than (negsuc 2147483647) (pos 2147483647) less ∷ []

abbrev pub compared_says : Compared → List Bool
compared_says c = map (λ n. holds (comparison_of n) c.left c.right) (1 ∷ 2 ∷ 3 ∷ 4 ∷ 5 ∷ 6 ∷ [])

-- ---- the four tests by the mark, and what they say of a cell with the mark 0, 1 and 2

pub record Marked : Type 0 where
  pub test : MarkTest
  pub says : List Bool

abbrev marked : MarkTest → List Bool → Marked
marked m bs = record { test = m; says = bs }

abbrev pub mark_cases : List Marked
mark_cases =
    marked Null (false ∷ true ∷ true ∷ []) ∷ marked NotNull (true ∷ false ∷ false ∷ [])
    ∷ marked IsDeclined (false ∷ false ∷ true ∷ []) ∷ marked NotDeclined (true ∷ true ∷ false ∷ []) ∷ []

-- the value bytes are those of the number 7
abbrev pub marked_says : Marked → List Bool
marked_says c = map (λ mark. mark_passes c.test (cell_from mark 7)) (0 ∷ 1 ∷ 2 ∷ [])

-- ---- values, with two tables of two columns and one: level 0 at table 1, level 1 at table 2

pub record ValueCase : Type 0 where
  pub value : Value
  pub exists : Bool

abbrev value_case : Value → Bool → ValueCase
value_case v e = record { value = v; exists = e }

abbrev pub value_cases : List ValueCase
value_cases =
    value_case (Column 0 0) false ∷ value_case (Column 0 1) true ∷ value_case (Column 0 2) true ∷ value_case (Column 0 3) false
    ∷ value_case (Column 1 1) true ∷ value_case (Column 1 2) false ∷ value_case (Column 2 1) false
    ∷ value_case (Constant (negsuc 2147483647)) true ∷ value_case (Constant (negsuc 2147483648)) false
    ∷ value_case (Constant (pos 2147483647)) true ∷ value_case (Constant (pos 2147483648)) false ∷ []

abbrev pub value_case_fits : ValueCase → Bool
value_case_fits p = value_fits (2 ∷ 1 ∷ []) (1 ∷ 2 ∷ []) p.value
