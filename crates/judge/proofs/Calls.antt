-- JUDGE by cases: a refusal of reading, a row that is missing, and the rule's value on the row.
use mathlib.Core.Path.{◌≡◌, refl, sym, ap, subst, ◌∙◌}
use mathlib.Core.List.{List, ◌∷◌, []}
use Prim.Native.Nat.{ℕ, ◌*◌, ◌≤◌, ◌<◌}
use native.Mathlib.Omega.{arith}
use lib.ListN.{take}
use Rattle.tables.specs.Tables.{most_cells, tables_of}
use Rattle.tables.specs.Values.{judged_levels, judged_row}
use Rattle.tables.specs.Refusals.{Refused, Given}
use Rattle.cells.specs.Code.{Sized, Places, place_in}
use Rattle.cells.specs.declared.Place.{Place}
use Rattle.cells.specs.declared.Layout.{Layout}
use Rattle.cells.specs.Reasons.{reason_number}
use Rattle.cells.specs.declared.Reason.{Reason}
use Rattle.values.proofs.Ranging.{columns_at, rows_at}
use Rattle.values.proofs.Judged.{one_rows, row_room, row_readable}
use Rattle.rule.specs.declared.Truth.{Truth}
use Rattle.rule.specs.Meaning.{meaning, judged}
use Rattle.rule.specs.Calls.{judge_call}
use Rattle.rule.proofs.Calls.{calls_claim}
use Rattle.names.specs.declared.RulePart.{RulePart}
use Rattle.parser.specs.Code.{parsed_answer, parse_call, Parsing, ParsedTo, refusal_in}
use Rattle.parser.specs.declared.Parsed.{Parsed}
use Rattle.parser.proofs.Known.{Known, known, parse_refused, parse_given}
use Rattle.parts.proofs.Parts.{rule_stands}
use Rattle.evaluator.specs.Code.{Evaluable, Evaluates}
use Rattle.evaluator.specs.declared.Evaluation.{Evaluation}

-- ---- the call

module _ (text file : List ℕ) (row : ℕ) (r : Parsed) where
  pub judge_refused : (x y : Reason) → parsed_answer r ≡ parse_call text file → r ≡ Parsed.Refused x → y ≡ refusal_in r
      → Refused (reason_number y) ≡ judge_call text file row
  judge_refused x y p e u = sym (calls_claim.judge_refused text file row _ (parse_refused text file r x y p e u))

  module _ (new : List RulePart) (n m : ℕ) (told : ParsedTo text file new r) (e : r ≡ Parsed.Rule n m) where
    parsing : Parsing text file new n m
    parsing = parse_given text file r new n m told e

    rule_known : Known file parsing.rule
    rule_known = let q = parsing in known text file q.rule q.accepted q.is_rule

    pub file_sized : Sized file
    file_sized = rule_known.sized

    -- at is where table 1 stands
    module _ (g : Layout) (places : Places file g) {at : Place} (there : at ≡ place_in g 1) where
      pub judge_no_row : at.rows ≤ row → Refused 11 ≡ judge_call text file row
      judge_no_row h =
          let z : at.rows ≡ rows_at g 1 = ap (λ o. o.rows) there in
          sym (calls_claim.judge_no_row text file row parsing.accepted (omega (arith, one_rows file g file_sized places)))

      module _ (below : row < at.rows) where
        below_here : row < rows_at g 1
        below_here = subst (λ o. row < o.rows) there below

        starts : row * at.columns ≡ row * columns_at g 1
        starts = ap (λ o. row * o.columns) there

        pub judge_room : row * at.columns ≤ most_cells
        judge_room = omega (arith, row_room file g file_sized places row (row * at.columns) below_here starts)

        abbrev firsts : List ℕ
        firsts = row * at.columns ∷ 0 ∷ 0 ∷ 0 ∷ []

        -- the rule's parts, with these tables
        module _ (here : Evaluation) (parts_are : here.parts.now ≡ new) (layout_is : here.layout.now ≡ g) (file_is : here.file.now ≡ file) where
          pub whole_rule : Evaluable here firsts 0 1
          whole_rule =
              let q = parsing in
              let k = rule_known in
              record {
                levels = judged_levels;
                env = judged_row (tables_of file) row;
                rule = q.rule;
                readable = rw (layout_is, file_is) (row_readable file g file_sized places row (row * at.columns) below_here starts firsts refl refl);
                few = omega (arith, k.few_parts);
                stands = rw parts_are (rule_stands new q.rule (sym (ap (λ (m : ℕ). take m new) q.count) ∙ q.written));
                deep = refl;
                room = omega (arith, k.few_froms);
                fits = rw file_is k.fits;
              }

          pub judge_given : (v : Truth) → Evaluates here firsts 0 1 v → Given v ≡ judge_call text file row
          unfolding whole_rule judged
          judge_given v evaluates =
              let q = parsing in
              ap Given (evaluates whole_rule ∙ ap (λ (f : List ℕ). meaning (tables_of f) (judged_row (tables_of file) row) q.rule) file_is)
              ∙ sym (calls_claim.judge_given text file row q.accepted q.rule q.is_rule (omega (arith, below_here, one_rows file g file_sized places)))
