-- What the program prints on some files: document 01's example, an empty list, no files, refusals beside one another; a truth test, and refusal 13; declined cells, and a mark above 2.
use Rattle.std.specs.Prelude.{List, [], ◌∷◌, ◌++◌, ℕ}
use Prim.Native.String.{String}
use Rattle.numerals.specs.Texts.{bytes}
use Rattle.rule.specs.Cases.{case_tables, declined_tables, unknown_of}
use Rattle.admission.specs.Output.{line_feed, output}

pub record OutputCase : Type 0 where
  pub text : List ℕ
  pub file : List ℕ
  pub printed : List ℕ

-- so many lines, each behind the other
abbrev lines_of : List String → List ℕ
lines_of [] = []
lines_of (l ∷ ls) = (bytes l ++ line_feed) ++ lines_of ls

abbrev on : List ℕ → List ℕ → List String → OutputCase
on text file ls = record { text = text; file = file; printed = lines_of ls }

unfoldable pub output_cases : List OutputCase
output_cases =
    on (bytes "m.2 > 0 OR NOT m.2 > 0") case_tables ("rows 2 of 3" ∷ "0" ∷ "2" ∷ [])
    ∷ on (bytes "EXISTS (FROM 2 v WHERE v.1 > 1)") case_tables ("rows 0 of 3" ∷ [])
    ∷ on (bytes "1 = 1") (1 ∷ 1 ∷ 0 ∷ 0 ∷ []) ("rows 0 of 0" ∷ [])
    ∷ on [] [] ("refused 1" ∷ [])
    ∷ on [] case_tables ("refused 6" ∷ [])
    ∷ on (bytes "k.1 = 1") case_tables ("refused 8" ∷ [])
    ∷ on (bytes "(m.2 > 0) IS UNKNOWN") case_tables ("rows 1 of 3" ∷ "1" ∷ [])
    ∷ on (unknown_of 7 (bytes "1 = 1")) case_tables ("refused 13" ∷ [])
    ∷ on (bytes "m.2 IS DECLINED") declined_tables ("rows 1 of 3" ∷ "2" ∷ [])
    ∷ on (bytes "m.2 IS NOT DECLINED") declined_tables ("rows 2 of 3" ∷ "0" ∷ "1" ∷ [])
    ∷ on (bytes "m.2 IS DECLINED") (1 ∷ 1 ∷ 1 ∷ 0 ∷ 0 ∷ 0 ∷ 0 ∷ 0 ∷ 3 ∷ []) ("refused 2" ∷ [])
    ∷ []

abbrev pub printed_of : OutputCase → List ℕ
printed_of c = output c.text c.file
