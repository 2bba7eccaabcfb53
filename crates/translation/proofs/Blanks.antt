-- The value bytes of a blank or declined cell affect no answer; and a declined cell is blank to all that does not ask whether cells are declined.
use mathlib.Core.Path.{◌≡◌, refl, sym, ap, fun_ext, ◌∙◌}
use mathlib.Core.Bool.{Bool, false}
use mathlib.Core.List.{List, [], ◌∷◌, map}
use mathlib.Core.Option.{Option, none, some}
use Prim.Native.Nat.{ℕ}
use lib.ListN.{get_or}
use Rattle.tables.specs.Tables.{Row, Table, Tables, columns_of, row_count, tables_of, rows_of, rows_where}
use Rattle.tables.specs.Values.{Env, judged_row}
use Rattle.tables.specs.Refusals.{tables_refusals, row_refusal}
use Rattle.tables.specs.Claims.{SameTables, AlikeTables, as_blank, tables_as_blank}
use Rattle.tables.proofs.Blanks.{blank_cells_claim, declined_cells_claim}
use Rattle.tables.proofs.AsBlank.{row_blank, table_blank}
use Rattle.card.specs.Card.{Card, answer}
use Rattle.card.specs.Layout.{asks_declined, card_bytes, card_from}
use Rattle.card.specs.Calls.{card_says, says_yes, fits_tables, gate_refusals, run_refusals, run_call, list_call}
use Rattle.card.proofs.Declined.{declined_blank_claim as card-declined-blank}
use Rattle.rule.specs.Condition.{Rule}
use Rattle.rule.specs.declared.Part.{Part}
use Rattle.rule.specs.Parts.{asks_declined as parts_ask_declined}
use Rattle.rule.specs.Calls.{rule_of, reading_refusals, with_rule, read_call, judge_refusals, judge_call, true_at, true_rows, admit_call}
use Rattle.rule.specs.Truth.{is_true}
use Rattle.rule.specs.declared.Truth.TheVariants.{Unknown}
use Rattle.rule.specs.Meaning.{meaning, judged}
use Rattle.rule.proofs.Marks.{declined_blank_claim as rule-declined-blank}
use Rattle.translation.specs.Translation.{rule_card}
use Rattle.translation.specs.Calls.{rule_bytes, card_call}
use Rattle.translation.specs.Claims.{SameAnswers, BlanksClaim, text_asks_declined, held_asks_declined, bytes_ask_declined, SameUnlessAsked, DeclinedClaim}

-- ---- two files with the same refusals, columns and numbers of rows

module _ (file other : List ℕ) (refusals : tables_refusals file ≡ tables_refusals other) (columns : columns_of file ≡ columns_of other) (rows : (t : ℕ) → row_count file t ≡ row_count other t) where
  pub same_reading : (text : List ℕ) → reading_refusals text file ≡ reading_refusals text other
  unfolding reading_refusals
  same_reading text = rw (refusals, columns)

  same_row : (row : ℕ) → row_refusal file row ≡ row_refusal other row
  unfolding row_refusal
  same_row row = rw (rows 1)

  same_where : (p : ℕ → Bool) → rows_where file p ≡ rows_where other p
  unfolding rows_where
  same_where p = rw (rows 1)

  same_gate : (card : List ℕ) → gate_refusals card file ≡ gate_refusals card other
  unfolding gate_refusals fits_tables
  same_gate card = rw (refusals, columns)

  same_bytes : rule_bytes file ≡ rule_bytes other
  unfolding rule_bytes
  same_bytes = ap {B = Rule → List ℕ} (λ (columns : List ℕ). λ r. card_bytes columns (rule_card r)) columns

  same_read : (text : List ℕ) (buffer : List Part) → read_call text file buffer ≡ read_call text other buffer
  unfolding read_call
  same_read text buffer = rw (same_reading text, columns)

  same_made : (text buffer : List ℕ) → card_call text file buffer ≡ card_call text other buffer
  unfolding card_call
  same_made text buffer = rw (same_reading text, columns, same_bytes)

  -- what is true of each row, by a text or by a card
  module _ (text : List ℕ) (values : (row : ℕ) → with_rule (rule_of text (columns_of other)) Unknown (judged (tables_of file) row) ≡ with_rule (rule_of text (columns_of other)) Unknown (judged (tables_of other) row)) where
    same_judge : (row : ℕ) → judge_call text file row ≡ judge_call text other row
    unfolding judge_call judge_refusals
    same_judge row = rw (same_reading text, same_row row, columns, values row)

  module _ (text : List ℕ) (admitted : with_rule (rule_of text (columns_of other)) [] (true_rows file) ≡ with_rule (rule_of text (columns_of other)) [] (true_rows other)) where
    same_admit : (buffer : List ℕ) → admit_call text file buffer ≡ admit_call text other buffer
    unfolding admit_call
    same_admit buffer = rw (same_reading text, columns, admitted)

  module _ (card : List ℕ) (says : says_yes card file ≡ says_yes card other) where
    same_run : (row : ℕ) → run_call card file row ≡ run_call card other row
    unfolding run_call run_refusals
    same_run row = rw (same_gate card, same_row row, says)

    same_list : (buffer : List ℕ) → list_call card file buffer ≡ list_call card other buffer
    unfolding list_call
    same_list buffer = rw (same_gate card, says, same_where (says_yes card other))

-- ---- the value bytes of blank and declined cells

module _ (file other : List ℕ) (same : SameTables file other) where
  same_card : (c : Option Card) (row : ℕ) → card_says file row c ≡ card_says other row c
  same_card none row = refl
  same_card (some c) row = rw same.tables

  same_says : (card : List ℕ) → says_yes card file ≡ says_yes card other
  unfolding says_yes
  same_says card = fun_ext (same_card (card_from card))

  same_true : (r : Rule) → true_at file r ≡ true_at other r
  same_true r = ap {B = ℕ → Bool} (λ (ts : Tables). λ row. is_true (judged ts row r)) same.tables

  pub same_rows : true_rows file ≡ true_rows other
  same_rows = fun_ext (λ r. rw (same_true r) (same_where file other same.refusals same.columns same.rows (true_at other r)))

  same_answers : SameAnswers file other
  same_answers =
      record {
        read = same_read file other same.refusals same.columns same.rows;
        judge = λ text. same_judge file other same.refusals same.columns same.rows text (λ row. rw same.tables);
        card = same_made file other same.refusals same.columns same.rows;
        run = λ card. same_run file other same.refusals same.columns same.rows card (same_says card);
        list = λ card. same_list file other same.refusals same.columns same.rows card (same_says card);
        admit = λ text. same_admit file other same.refusals same.columns same.rows text (rw same_rows);
      }

pub blanks_claim : BlanksClaim
blanks_claim file other alike = same_answers file other (blank_cells_claim file other alike)

-- ---- declined cells

-- the judged row, with its declined cells taken for blank ones
judged_blank : (ts : Tables) (row : ℕ) → map (map as_blank) (judged_row ts row) ≡ judged_row (tables_as_blank ts) row
judged_blank ts row = ap (λ (r : Row). r ∷ []) (sym (row_blank (rows_of ts 1) row) ∙ sym (ap (λ (rows : Table). get_or rows row []) (table_blank ts 1)))

module _ (file other : List ℕ) (alike : AlikeTables file other) where
  rule_blank : (ts : Tables) (row : ℕ) (r : Rule) → parts_ask_declined r ≡ false → judged ts row r ≡ judged (tables_as_blank ts) row r
  unfolding judged
  rule_blank ts row r e = rule-declined-blank ts (judged_row ts row) r e ∙ ap (λ (env : Env). meaning (tables_as_blank ts) env r) (judged_blank ts row)

  value_alike : (r : Rule) → parts_ask_declined r ≡ false → (row : ℕ) → judged (tables_of file) row r ≡ judged (tables_of other) row r
  value_alike r e row = rule_blank (tables_of file) row r e ∙ ap (λ (ts : Tables). judged ts row r) alike.tables ∙ sym (rule_blank (tables_of other) row r e)

  values_alike : (o : Option Rule) → with_rule o false parts_ask_declined ≡ false → (row : ℕ)
      → with_rule o Unknown (judged (tables_of file) row) ≡ with_rule o Unknown (judged (tables_of other) row)
  values_alike none e row = refl
  values_alike (some r) e row = value_alike r e row

  pub rows_alike : (o : Option Rule) → with_rule o false parts_ask_declined ≡ false → with_rule o [] (true_rows file) ≡ with_rule o [] (true_rows other)
  rows_alike none e = refl
  rows_alike (some r) e =
      ap (rows_where file) (fun_ext (λ row. ap is_true (value_alike r e row)))
      ∙ same_where file other alike.refusals alike.columns alike.rows (true_at other r)

  answer_blank : (ts : Tables) (row : ℕ) (c : Card) → asks_declined c ≡ false → answer ts (judged_row ts row) c ≡ answer (tables_as_blank ts) (judged_row (tables_as_blank ts) row) c
  answer_blank ts row c e = card-declined-blank ts (judged_row ts row) c e ∙ ap (λ (env : Env). answer (tables_as_blank ts) env c) (judged_blank ts row)

  card_alike : (c : Option Card) → held_asks_declined c ≡ false → (row : ℕ) → card_says file row c ≡ card_says other row c
  card_alike none e row = refl
  card_alike (some c) e row =
      answer_blank (tables_of file) row c e ∙ ap (λ (ts : Tables). answer ts (judged_row ts row) c) alike.tables ∙ sym (answer_blank (tables_of other) row c e)

  says_alike : (card : List ℕ) → bytes_ask_declined card ≡ false → says_yes card file ≡ says_yes card other
  unfolding says_yes
  says_alike card e = fun_ext (card_alike (card_from card) e)

  -- the rule is the same with the columns of either file
  pub rule_asks : (text : List ℕ) → text_asks_declined text file ≡ false → text_asks_declined text other ≡ false
  rule_asks text e = sym (ap (λ (columns : List ℕ). with_rule (rule_of text columns) false parts_ask_declined) alike.columns) ∙ e

  same_unless_asked : SameUnlessAsked file other
  same_unless_asked =
      record {
        read = same_read file other alike.refusals alike.columns alike.rows;
        card = same_made file other alike.refusals alike.columns alike.rows;
        judge = λ text row e. same_judge file other alike.refusals alike.columns alike.rows text (values_alike (rule_of text (columns_of other)) (rule_asks text e)) row;
        admit = λ text buffer e. same_admit file other alike.refusals alike.columns alike.rows text (rows_alike (rule_of text (columns_of other)) (rule_asks text e)) buffer;
        run = λ card row e. same_run file other alike.refusals alike.columns alike.rows card (says_alike card e) row;
        list = λ card buffer e. same_list file other alike.refusals alike.columns alike.rows card (says_alike card e) buffer;
      }

pub declined_claim : DeclinedClaim
declined_claim file other alike = same_unless_asked file other (declined_cells_claim file other alike)
