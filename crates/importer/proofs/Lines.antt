-- All lines of a text, one after another: rows with as many fields as there are columns.
use mathlib.Core.Path.{◌≡◌, refl, sym, ap, ap₂, subst, ◌∙◌}
use mathlib.Core.Bool.{Bool, true, false}
use mathlib.Core.List.{List, [], ◌∷◌, ◌++◌, map, flat_map, append_assoc, append-nil}
use Rattle.std.proofs.Math.Option.{Option as MathOption, none, some}
use Prim.Native.Nat.{ℕ, zero, suc, ◌+◌, ◌*◌, ◌<◌, ◌≤◌}
use native.Mathlib.Nat.{mul-le-mul, suc-mul}
use native.Mathlib.Numerals.{add-one}
use native.Mathlib.Omega.{arith}
use borrow.Author.Tests.{eq-eqb, eqb-true}
use lib.Dec.{eqb}
use lib.ListN.{length, drop, get_or, length-append, length-map, length-drop, drop_of_length-le}
use lib.Seq.{drop-append_seam, drop-cons, drop-drop}
use Rattle.tables.specs.Lists.{only, ◌>>=◌}
use Rattle.tables.specs.Tables.{most_columns, most_rows, Row, Table}
use Rattle.tables.proofs.Tabulated.{and_yes, and_parts, all_append}
use Rattle.files.proofs.Pieces.{pieces_append}
use Rattle.lines.specs.Lines.{each, line_read, lines_of, table_read}
use Rattle.lines.specs.Grammar.{IsLine, lf, crlf, IsLines, no_line, last_line, ended_line}
use Rattle.lines.specs.Calls.{stored_cell, fields_counted}
use Rattle.lines.proofs.Grammar.{line_exactly, line_grammar_claim, lines_ended, lines_last, lines_none, line_without_feed}
use Rattle.lines.proofs.Rows.{cells_count}
use Rattle.importer.specs.Code.{line_from, line_after, Room, Kept, LineKept, if_counted, rows_in, rows_counted, TableKept}
use Rattle.std.specs.Prelude.{Option, Some, None}
use Rattle.importer.proofs.Keeping.{kept_none}
use Rattle.importer.proofs.Productions.{Closes, by_end, by_nothing, LineAt, line_sound, line_some, line_complete}

-- rows before those that are read
abbrev pub behind : Table → MathOption Table → MathOption Table
behind rows none = none
behind rows (some more) = some (rows ++ more)

behind_twice : (rows more : Table) (o : MathOption Table) → behind rows (behind more o) ≡ behind (rows ++ more) o
behind_twice rows more none = refl
behind_twice rows more (some rest) = ap some (sym (append_assoc rows more rest))

-- ---- what the first line tells of all

-- a row of the right count stays before the others
counted_behind : (columns : ℕ) (row : Row) (o : MathOption Table) → length row ≡ columns → if_counted columns (behind (row ∷ []) o) ≡ behind (row ∷ []) (if_counted columns o)
counted_behind columns row none e = refl
counted_behind columns row (some rows) e = rw (eq-eqb (length row) columns e) (go (fields_counted columns rows))
  where
    go : (t : Bool) → only t (row ∷ rows) ≡ behind (row ∷ []) (only t rows)
    go true = refl
    go false = refl

then_behind : (row : Row) (o : MathOption Table) → (o >>= λ rows. some (row ∷ rows)) ≡ behind (row ∷ []) o
then_behind row none = refl
then_behind row (some rows) = refl

table_behind : (text line : List ℕ) (lines : List (List ℕ)) (row : Row) → lines_of text ≡ line ∷ lines → IsLine line row
    → table_read text ≡ behind (row ∷ []) (each line_read lines)
unfolding table_read each
table_behind text line lines row e l =
    ap (each line_read) e ∙ ap (λ (o : MathOption Row). o >>= λ y. each line_read lines >>= λ ys. some (y ∷ ys)) ((line_exactly line row).1 l)
    ∙ then_behind row (each line_read lines)

-- a line with its end is read: its row, and the rows of the rest
table_step : (b : ℕ) (text line end rest : List ℕ) (row : Row) → b ∷ text ≡ line ++ (end ++ rest) → IsLine line row → Closes end rest
    → table_read (b ∷ text) ≡ behind (row ∷ []) (table_read rest)
unfolding table_read
table_step b text line end rest row is l (by_end e) = ap table_read is ∙ table_behind (line ++ (end ++ rest)) line (lines_of rest) row (lines_ended line end rest row l e) l
table_step b text line end rest row is l by_nothing =
    let whole : b ∷ text ≡ line = is ∙ append-nil line in
    let l' : IsLine (b ∷ text) row = subst (λ (t : List ℕ). IsLine t row) (sym whole) l in
    table_behind (b ∷ text) (b ∷ text) [] row (lines_last b text (line_without_feed (b ∷ text) row l')) l' ∙ ap (λ (ls : List (List ℕ)). behind (row ∷ []) (each line_read ls)) (sym lines_none)

module _ (left b : ℕ) (text : List ℕ) where
  pub rows_step : (row : Row) (n : ℕ) → line_from (suc left) (b ∷ text) ≡ some (row, n) → rows_in (suc left) (b ∷ text) ≡ behind (row ∷ []) (rows_in (suc left) (drop n (b ∷ text)))
  unfolding rows_in
  rows_step row n e =
      let at = line_sound left (b ∷ text) row n e in
      let size : n ≡ length (at.line ++ at.end) = at.size ∙ sym (length-append at.line at.end) in
      let next : drop n (b ∷ text) ≡ at.rest =
      ap₂ drop size (at.is ∙ sym (append_assoc at.line at.end at.rest)) ∙ drop-append_seam (at.line ++ at.end) at.rest in
      ap (if_counted (suc left)) (table_step b text at.line at.end at.rest row at.is at.fields_are at.closes)
      ∙ counted_behind (suc left) row (table_read at.rest) at.count
      ∙ ap (λ (t : List ℕ). behind (row ∷ []) (if_counted (suc left) (table_read t))) (sym next)

  -- a line that cannot be read so leaves none
  pub rows_bad : line_from (suc left) (b ∷ text) ≡ none → rows_in (suc left) (b ∷ text) ≡ none
  unfolding rows_in
  rows_bad e = go (table_read (b ∷ text)) refl
    where
      refute : (t : List ℕ) (row : Row) (n : ℕ) → line_from (suc left) t ≡ none → line_from (suc left) t ≡ some (row, n) → ⊥
      refute t row n e f = let z : ◌≡◌ {A = MathOption (Row × ℕ)} none (some (row, n)) = sym e ∙ f in let y : ◌≡◌ {A = ℕ} 0 1 = cc in absurd (omega arith)

      first : (t : List ℕ) (rows : Table) → IsLines t rows → fields_counted (suc left) rows ≡ true → line_from (suc left) t ≡ none → 1 ≤ length t → ⊥
      first t rows no_line h e l = omega arith
      first t rows (last_line {b = c} {t = u} {row = row} line) h e l =
          let counted = eqb-true (length row) (suc left) (and_parts (eqb (length row) (suc left)) true h).0 in
          refute t row _ e (ap (line_from (suc left)) (sym (append-nil (c ∷ u))) ∙ line_complete left (c ∷ u) [] [] row line counted by_nothing)
      first t rows (ended_line {t = u} {e = end} {u = rest} {row = row} {rows = more} line by r) h e l =
          let counted = eqb-true (length row) (suc left) (and_parts (eqb (length row) (suc left)) (fields_counted (suc left) more) h).0 in
          refute t row _ e (line_complete left u end rest row line counted (by_end by))

      count : (rows : Table) → IsLines (b ∷ text) rows → (t : Bool) → fields_counted (suc left) rows ≡ t → only t rows ≡ none
      count rows l true h = absurd (first (b ∷ text) rows l h e (omega arith))
      count rows l false h = refl

      go : (o : MathOption Table) → table_read (b ∷ text) ≡ o → if_counted (suc left) o ≡ none
      go none f = refl
      go (some rows) f = count rows ((line_grammar_claim.exactly (b ∷ text) rows).0 f) (fields_counted (suc left) rows) refl

pub rows_none : (columns : ℕ) → rows_in columns [] ≡ some []
unfolding rows_in table_read each
rows_none columns = ap (λ (ls : List (List ℕ)). if_counted columns (each line_read ls)) lines_none

-- ---- the loop over the lines

-- so many lines were read, up to the place `at`, and their cells are kept, unless they are too many
pub record TableSoFar (text : List ℕ) (columns : ℕ) (marks₀ : List ℕ) (values : List (List ℕ)) (marks : List ℕ) (at rows : ℕ) : Type 0 where
  pub done : Table
  pub count : length done ≡ rows
  pub counted : fields_counted columns done ≡ true
  pub read : rows_in columns text ≡ behind done (rows_in columns (drop at text))
  pub inside : at ≤ length text
  pub few : rows ≤ at
  pub bound : rows * columns ≤ at + 1
  pub bound_inside : at < length text → rows * columns ≤ at
  pub room : Room values marks
  pub long : length marks ≡ length marks₀
  pub kept : rows ≤ most_rows → rows * columns ≤ length marks₀ → Kept values marks (flat_map (map stored_cell) done)

pub table_begun : (text : List ℕ) (columns : ℕ) (values : List (List ℕ)) (marks : List ℕ) → Room values marks → TableSoFar text columns marks values marks 0 0
unfolding flat_map
table_begun text columns values marks room =
    record {
      done = [];
      count = refl;
      counted = refl;
      read = sym (whole (rows_in columns text));
      inside = omega arith;
      few = omega arith;
      bound = omega arith;
      bound_inside = λ h. omega arith;
      room = room;
      long = refl;
      kept = λ h l. kept_none values marks;
    }
  where
    whole : (o : MathOption Table) → behind [] o ≡ o
    whole none = refl
    whole (some rows) = refl

-- the bytes of a line: no fewer than its fields, but for the last line without an end
end_bytes : (end rest : List ℕ) → Closes end rest → 0 < length rest → 1 ≤ length end
end_bytes end rest (by_end lf) h = omega arith
end_bytes end rest (by_end crlf) h = omega arith
end_bytes end rest by_nothing h = absurd (omega arith)

pub record LineBytes (text : List ℕ) (columns : ℕ) (row : Row) (n : ℕ) : Type 0 where
  pub count : length row ≡ columns
  pub within : n ≤ length text
  pub most : columns ≤ n + 1
  pub most_inside : n < length text → columns ≤ n

line_bytes : (left : ℕ) (text : List ℕ) (row : Row) (n : ℕ) → line_from (suc left) text ≡ some (row, n) → LineBytes text (suc left) row n
line_bytes left text row n e = go (line_sound left text row n e)
  where
    go : LineAt text (suc left) row n → LineBytes text (suc left) row n
    go at =
        let whole = ap length at.is ∙ length-append at.line (at.end ++ at.rest) in
        let tail = length-append at.end at.rest in
        let size = at.size in
        let count = at.count in
        let most = (line_some at.line row at.fields_are).1 in
        record {
          count = count;
          within = omega arith;
          most = omega arith;
          most_inside = λ h. let e = end_bytes at.end at.rest at.closes (omega arith) in omega arith;
        }

-- the line at a place of a text
module _ (text : List ℕ) (at : ℕ) (here : at < length text) where
  begins : drop at text ≡ get_or text at 0 ∷ drop (suc at) text
  begins = drop-cons text at 0 here

  pub line_bytes_at : (columns : ℕ) → 1 ≤ columns → (row : Row) (n : ℕ) → line_from columns (drop at text) ≡ some (row, n) → LineBytes (drop at text) columns row n
  line_bytes_at zero h row n e = absurd (omega arith)
  line_bytes_at (suc left) h row n e = line_bytes left (drop at text) row n e

  rows_step_at : (columns : ℕ) → 1 ≤ columns → (row : Row) (n : ℕ) → line_from columns (drop at text) ≡ some (row, n)
      → rows_in columns (drop at text) ≡ behind (row ∷ []) (rows_in columns (drop (at + n) text))
  rows_step_at zero h row n e = absurd (omega arith)
  rows_step_at (suc left) h row n e =
      ap (rows_in (suc left)) begins
      ∙ rows_step left (get_or text at 0) (drop (suc at) text) row n (sym (ap (line_from (suc left)) begins) ∙ e)
      ∙ ap (λ (t : List ℕ). behind (row ∷ []) (rows_in (suc left) t)) (ap (drop n) (sym begins) ∙ drop-drop n at text)

  rows_bad_at : (columns : ℕ) → 1 ≤ columns → line_from columns (drop at text) ≡ none → rows_in columns (drop at text) ≡ none
  rows_bad_at zero h e = absurd (omega arith)
  rows_bad_at (suc left) h e =
      ap (rows_in (suc left)) begins ∙ rows_bad left (get_or text at 0) (drop (suc at) text) (sym (ap (line_from (suc left)) begins) ∙ e)

-- what the answer of a line tells
after_line_place : (i j : ℕ) (o : MathOption (Row × ℕ)) → Some j ≡ line_after i o → (x : Row × ℕ) × (o ≡ some x) × (j ≡ i + x.1)
after_line_place i j none e = let z : ◌≡◌ {A = ℕ} 0 1 = cc in absurd (omega arith)
after_line_place i j (some x) e = let z : j ≡ i + x.1 = cc in (x, refl, z)

after_line_bad : (i : ℕ) (o : MathOption (Row × ℕ)) → None ≡ line_after i o → o ≡ none
after_line_bad i none e = refl
after_line_bad i (some x) e = let z : ◌≡◌ {A = ℕ} 0 1 = cc in absurd (omega arith)

counted_more : (columns : ℕ) (done : Table) (row : Row) → fields_counted columns done ≡ true → length row ≡ columns → fields_counted columns (done ++ (row ∷ [])) ≡ true
counted_more columns done row e n =
    all_append (λ r. eqb (length r) columns) done (row ∷ []) ∙ and_yes _ _ e (and_yes _ _ (eq-eqb (length row) columns n) refl)

-- a line has a byte, with its end or without
some_byte : (n columns long : ℕ) → (n < long → columns ≤ n) → 1 ≤ columns → 0 < long → 1 ≤ n
some_byte zero columns long f h l = let z = f l in absurd (omega arith)
some_byte (suc n) columns long f h l = omega arith

one_row_more : (rows columns : ℕ) → (rows + 1) * columns ≡ rows * columns + columns
one_row_more rows columns = ap (λ (n : ℕ). n * columns) (add-one rows) ∙ suc-mul rows columns

pub product_small : (rows columns : ℕ) → rows ≤ most_rows → columns ≤ most_columns → rows * columns ≤ 16000
product_small rows columns h l = mul-le-mul h l

module _ {text : List ℕ} {columns : ℕ} {marks₀ : List ℕ} {values : List (List ℕ)} {marks : List ℕ} {at rows : ℕ} (so_far : TableSoFar text columns marks₀ values marks at rows)
    (here : at < length text) (some_column : 1 ≤ columns) where
  module _ {k : ℕ} {values' : List (List ℕ)} {marks' : List ℕ} {r : Option ℕ} (line : LineKept text at columns k values marks r values' marks')
      (place : rows < most_rows → k ≡ rows * columns) (next : ℕ) (goes_on : r ≡ Some next) where
    told : (x : Row × ℕ) × (line_from columns (drop at text) ≡ some x) × (next ≡ at + x.1)
    told = after_line_place at next _ (sym goes_on ∙ line.after)

    pub table_goes_on : (at < next) × TableSoFar text columns marks₀ values' marks' next (rows + 1)
    unfolding flat_map
    table_goes_on =
        let (x, is, ends) = told in
        let row = x.0 in
        let bytes = line_bytes_at text at here columns some_column row x.1 is in
        let within = bytes.within in
        let most = bytes.most in
        let count = so_far.count in
        let few = so_far.few in
        let inside = so_far.bound_inside here in
        let rest = length-drop at text in
        let product : (rows + 1) * columns ≡ rows * columns + columns = one_row_more rows columns in
        let byte = some_byte x.1 columns (length (drop at text)) bytes.most_inside some_column (omega arith) in (
          omega arith,
          record {
            done = so_far.done ++ (row ∷ []);
            count = omega (arith, length-append so_far.done (row ∷ []));
            counted = counted_more columns so_far.done row so_far.counted bytes.count;
            read =
                so_far.read
                ∙ ap (behind so_far.done) (rows_step_at text at here columns some_column row x.1 is)
                ∙ behind_twice so_far.done (row ∷ []) (rows_in columns (drop (at + x.1) text))
                ∙ ap (λ (j : ℕ). behind (so_far.done ++ (row ∷ [])) (rows_in columns (drop j text))) (sym ends);
            inside = omega arith;
            few = omega arith;
            bound = omega arith;
            bound_inside = λ h. let l = bytes.most_inside (omega arith) in omega arith;
            room = line.room;
            long = line.long ∙ so_far.long;
            kept = λ h l.
                let before = flat_map (map stored_cell) so_far.done in
                let size = cells_count stored_cell columns so_far.done so_far.counted in
                let at-k = place (omega arith) in
                let long = so_far.long in
                let wide = bytes.count in
                subst (Kept values' marks') (sym (pieces_append (map stored_cell) so_far.done (row ∷ []) ∙ ap (λ cs. before ++ cs) (append-nil (map stored_cell row))))
                ((line.more x is).kept before (size ∙ ap (λ (n : ℕ). n * columns) count ∙ sym at-k) (omega (arith, length-map row stored_cell)) (so_far.kept (omega arith) (omega arith)));
          },
        )

  -- a line that cannot be read
  module _ {k : ℕ} {values' : List (List ℕ)} {marks' : List ℕ} {r : Option ℕ} (line : LineKept text at columns k values marks r values' marks') (fails : r ≡ None) where
    unread : rows_in columns text ≡ none
    unread = so_far.read ∙ ap (behind so_far.done) (rows_bad_at text at here columns some_column (after_line_bad at _ (sym fails ∙ line.after)))

    pub table_unread : (values₀ : List (List ℕ)) → TableKept text columns values₀ marks₀ None values' marks'
    table_unread values₀ =
        record {
          counted = sym (ap rows_counted unread);
          kept = λ rows e h l. absurd (none_some rows (sym unread ∙ e));
          bound = λ rows e. absurd (none_some rows (sym unread ∙ e));
          room = line.room;
          long = line.long ∙ so_far.long;
        }
      where
        none_some : (rows : Table) → ◌≡◌ {A = MathOption Table} none (some rows) → ⊥
        none_some rows e = let z : ◌≡◌ {A = ℕ} 0 1 = cc in absurd (omega arith)

-- all lines
module _ {text : List ℕ} {columns : ℕ} {marks₀ : List ℕ} {values : List (List ℕ)} {marks : List ℕ} {at rows : ℕ} (so_far : TableSoFar text columns marks₀ values marks at rows)
    (there : length text ≤ at) where
  all_read : rows_in columns text ≡ some so_far.done
  all_read =
      so_far.read ∙ ap (λ (t : List ℕ). behind so_far.done (rows_in columns t)) (drop_of_length-le text there)
      ∙ ap (behind so_far.done) (rows_none columns) ∙ ap some (append-nil so_far.done)

  same_rows : (others : Table) → rows_in columns text ≡ some others → so_far.done ≡ others
  same_rows others e = let z : some so_far.done ≡ some others = sym all_read ∙ e in cc

  pub table_read_lem : (values₀ : List (List ℕ)) → TableKept text columns values₀ marks₀ (Some rows) values marks
  table_read_lem values₀ =
      record {
        counted = sym (ap rows_counted all_read ∙ ap Some so_far.count);
        kept = λ others e h l.
            let count = so_far.count in
            let same = same_rows others e in
            let n : rows ≡ length others = sym count ∙ ap length same in
            subst (λ (t : Table). Kept values marks (flat_map (map stored_cell) t)) same
            (so_far.kept (omega arith) (subst (λ (m : ℕ). m * columns ≤ length marks₀) (sym n) l));
        bound = λ others e.
            let count = so_far.count in
            let same = same_rows others e in
            let n : rows ≡ length others = sym count ∙ ap length same in
            let bound = so_far.bound in
            let inside = so_far.inside in
            subst (λ (m : ℕ). m * columns ≤ length text + 1) n (omega arith);
        room = so_far.room;
        long = so_far.long;
      }
