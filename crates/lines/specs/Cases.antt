-- Comma files and what becomes of them, and tables files and their lines.
use mathlib.Core.List.{List, [], ◌∷◌, ◌++◌, flat_map}
use Rattle.std.proofs.Math.Option.{Option, none, some}
use Rattle.std.specs.Prelude.{ℕ, take, replicate}
use Prim.Native.String.{String}
use Rattle.tables.specs.Refusals.{Answer, Refused, Given, Lent, first_applying}
use Rattle.tables.specs.Cases.{sample_file}
use Rattle.numerals.specs.Texts.{bytes}
use Rattle.lines.specs.Calls.{import_refusals, import_call, export_call}

-- a call's answer and what it wrote
abbrev answer_of : Lent ℕ → Answer (List ℕ)
answer_of l = elim l.result [ Refused n ↦ Refused n | Given n ↦ Given (take n l.buffer) ]

-- room enough for each of the small cases
abbrev room : List ℕ
room = replicate 64 7

-- ---- IMPORT

-- a text, the number of columns, and the answer
pub record ImportCase : Type 0 where
  pub text : String
  pub columns : ℕ
  pub answer : Answer (List ℕ)

infix 10 ◌by◌gives◌
abbrev ◌by◌gives◌ : String → ℕ → Answer (List ℕ) → ImportCase
t by c gives a = record { text = t; columns = c; answer = a }

-- table 1 alone, of so many columns and rows (below 256), its values and its marks
abbrev file : ℕ → ℕ → List ℕ → List ℕ → Answer (List ℕ)
file columns rows values marks = Given ((1 ∷ columns ∷ rows ∷ 0 ∷ []) ++ (values ++ marks))

abbrev present : ℕ → List ℕ
present n = n ∷ 0 ∷ 0 ∷ 0 ∷ []

-- no line, and lines that are empty; a line without an end; both ends; spare zeros, −0 and the ends of the range; declined cells, alone, before each end,
-- beside others, and last
unfoldable pub import_given : List ImportCase
import_given =
    ("" by 1 gives file 1 0 [] [])
    ∷ ("" by 16 gives file 16 0 [] [])
    ∷ ("\n" by 1 gives file 1 1 (present 0) (1 ∷ []))
    ∷ ("\r\n" by 1 gives file 1 1 (present 0) (1 ∷ []))
    ∷ ("1" by 1 gives file 1 1 (present 1) (0 ∷ []))
    ∷ ("1\n" by 1 gives file 1 1 (present 1) (0 ∷ []))
    ∷ ("1\r\n" by 1 gives file 1 1 (present 1) (0 ∷ []))
    ∷ ("1\n\n" by 1 gives file 1 2 (present 1 ++ present 0) (0 ∷ 1 ∷ []))
    ∷ ("," by 2 gives file 2 1 (present 0 ++ present 0) (1 ∷ 1 ∷ []))
    ∷ ("-0,007\r\n," by 2 gives file 2 2 (present 0 ++ present 7 ++ present 0 ++ present 0) (0 ∷ 0 ∷ 1 ∷ 1 ∷ []))
    ∷ ("2147483647,-2147483648\n" by 2 gives file 2 1 (255 ∷ 255 ∷ 255 ∷ 127 ∷ 0 ∷ 0 ∷ 0 ∷ 128 ∷ []) (0 ∷ 0 ∷ []))
    ∷ ("0000000001,-1\n,256" by 2 gives file 2 2 (present 1 ++ (255 ∷ 255 ∷ 255 ∷ 255 ∷ []) ++ present 0 ++ (0 ∷ 1 ∷ 0 ∷ 0 ∷ [])) (0 ∷ 0 ∷ 1 ∷ 0 ∷ []))
    ∷ ("!" by 1 gives file 1 1 (present 0) (2 ∷ []))
    ∷ ("!\n" by 1 gives file 1 1 (present 0) (2 ∷ []))
    ∷ ("!\r\n!" by 1 gives file 1 2 (present 0 ++ present 0) (2 ∷ 2 ∷ []))
    ∷ ("!,!,!\n" by 3 gives file 3 1 (present 0 ++ present 0 ++ present 0) (2 ∷ 2 ∷ 2 ∷ []))
    ∷ ("1,!,\r\n,5,!" by 3 gives file 3 2 (present 1 ++ present 0 ++ present 0 ++ present 0 ++ present 5 ++ present 0) (0 ∷ 2 ∷ 1 ∷ 1 ∷ 0 ∷ 2 ∷ []))
    ∷ []

-- columns; too few and too many fields; a CR that ends no line; what is no number; a `!` that is not alone, and one field too many behind it
unfoldable pub import_refused : List ImportCase
import_refused =
    ("" by 0 gives Refused 14)
    ∷ ("" by 17 gives Refused 14)
    ∷ ("1" by 0 gives Refused 14)
    ∷ ("\n" by 2 gives Refused 14)
    ∷ ("1,2\n1" by 2 gives Refused 14)
    ∷ ("1,2\n1,2,3" by 2 gives Refused 14)
    ∷ ("1," by 1 gives Refused 14)
    ∷ ("1\r" by 1 gives Refused 14)
    ∷ ("\r" by 1 gives Refused 14)
    ∷ ("1\r\r\n" by 1 gives Refused 14)
    ∷ ("1\r2\n" by 1 gives Refused 14)
    ∷ ("1\r,2\n" by 2 gives Refused 14)
    ∷ ("+1" by 1 gives Refused 14)
    ∷ ("1 " by 1 gives Refused 14)
    ∷ (" 1" by 1 gives Refused 14)
    ∷ (" " by 1 gives Refused 14)
    ∷ ("1.0" by 1 gives Refused 14)
    ∷ ("\"1\"" by 1 gives Refused 14)
    ∷ ("-" by 1 gives Refused 14)
    ∷ ("1-2" by 1 gives Refused 14)
    ∷ ("00000000001" by 1 gives Refused 14)
    ∷ ("2147483648" by 1 gives Refused 14)
    ∷ ("-2147483649" by 1 gives Refused 14)
    ∷ ("1;2" by 2 gives Refused 14)
    ∷ ("!1" by 1 gives Refused 14)
    ∷ ("1!" by 1 gives Refused 14)
    ∷ ("! " by 1 gives Refused 14)
    ∷ (" !" by 1 gives Refused 14)
    ∷ ("!!" by 1 gives Refused 14)
    ∷ ("-!" by 1 gives Refused 14)
    ∷ ("!\r" by 1 gives Refused 14)
    ∷ ("!," by 1 gives Refused 14)
    ∷ []

abbrev pub import_case_answer : ImportCase → Answer (List ℕ)
import_case_answer c = answer_of (import_call (bytes c.text) c.columns room)

-- ---- IMPORT at the limits

-- so many lines, the number of columns, what stands behind them, and the refusal
pub record ImportEdge : Type 0 where
  pub line : String
  pub lines : ℕ
  pub columns : ℕ
  pub behind : String
  pub refusal : Option ℕ

abbrev edge : String → ℕ → ℕ → String → Option ℕ → ImportEdge
edge l n c b r = record { line = l; lines = n; columns = c; behind = b; refusal = r }

abbrev nine : String
nine = ",,,,,,,,\n"

abbrev sixteen : String
sixteen = ",,,,,,,,,,,,,,,\n"

-- 1,000 rows and one more, with and without a line end; then a bad field, a wrong field count and no columns with too many rows; 8,192 cells and more
unfoldable pub import_edges : List ImportEdge
import_edges =
    edge "\n" 1000 1 "" none
    ∷ edge "1\n" 999 1 "1" none
    ∷ edge "\n" 1001 1 "" (some 15)
    ∷ edge "1\n" 1000 1 "1" (some 15)
    ∷ edge "1\n" 1001 1 "x" (some 14)
    ∷ edge "\n" 1001 1 "1,2" (some 14)
    ∷ edge "\n" 1001 0 "" (some 14)
    ∷ edge nine 910 9 "" none
    ∷ edge nine 911 9 "" (some 15)
    ∷ edge nine 911 9 "x" (some 14)
    ∷ edge sixteen 512 16 "" none
    ∷ edge sixteen 513 16 "" (some 15)
    ∷ []

abbrev pub edge_text : ImportEdge → List ℕ
edge_text e = flat_map bytes (replicate e.lines e.line) ++ bytes e.behind

abbrev pub edge_refusal : ImportEdge → Option ℕ
edge_refusal e = first_applying (import_refusals (edge_text e) e.columns)

-- ---- EXPORT

-- a tables file, and the answer
pub record ExportCase : Type 0 where
  pub tables : List ℕ
  pub answer : Answer (List ℕ)

infix 10 ◌lines◌
abbrev ◌lines◌ : List ℕ → String → ExportCase
bs lines t = record { tables = bs; answer = Given (bytes t) }

abbrev refused : List ℕ → ℕ → ExportCase
refused bs n = record { tables = bs; answer = Refused n }

-- table 1 of the sample file alone; the lowest number, 0 and a blank; a blank with other bytes below it, and 10; marks 0, 1 and 2, over 0 and over other
-- bytes; no rows; and refusals 1 and 2
unfoldable pub export_cases : List ExportCase
export_cases =
    (sample_file lines "67305985,-1\n-2147483648,2147483647\n")
    ∷ ((1 ∷ 3 ∷ 1 ∷ 0 ∷ 0 ∷ 0 ∷ 0 ∷ 128 ∷ 0 ∷ 0 ∷ 0 ∷ 0 ∷ 0 ∷ 0 ∷ 0 ∷ 0 ∷ 0 ∷ 0 ∷ 1 ∷ []) lines "-2147483648,0,\n")
    ∷ ((1 ∷ 1 ∷ 2 ∷ 0 ∷ 9 ∷ 9 ∷ 9 ∷ 9 ∷ 10 ∷ 0 ∷ 0 ∷ 0 ∷ 1 ∷ 0 ∷ []) lines "\n10\n")
    ∷ ((1 ∷ 3 ∷ 1 ∷ 0 ∷ 7 ∷ 0 ∷ 0 ∷ 0 ∷ 0 ∷ 0 ∷ 0 ∷ 0 ∷ 0 ∷ 0 ∷ 0 ∷ 0 ∷ 0 ∷ 1 ∷ 2 ∷ []) lines "7,,!\n")
    ∷ ((1 ∷ 1 ∷ 2 ∷ 0 ∷ 9 ∷ 9 ∷ 9 ∷ 9 ∷ 0 ∷ 0 ∷ 0 ∷ 0 ∷ 2 ∷ 0 ∷ []) lines "!\n0\n")
    ∷ ((1 ∷ 16 ∷ 0 ∷ 0 ∷ []) lines "")
    ∷ refused [] 1
    ∷ refused (1 ∷ 1 ∷ 1 ∷ 0 ∷ 0 ∷ 0 ∷ 0 ∷ 0 ∷ []) 1
    ∷ refused (1 ∷ 1 ∷ 1 ∷ 0 ∷ 0 ∷ 0 ∷ 0 ∷ 0 ∷ 3 ∷ []) 2
    ∷ []

abbrev pub export_case_answer : ExportCase → Answer (List ℕ)
export_case_answer c = answer_of (export_call c.tables room)
