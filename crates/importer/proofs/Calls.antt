-- IMPORT by cases: which refusal, and the file.
use mathlib.Core.Path.{◌≡◌, refl, sym, ap, ap₂, ◌∙◌}
use mathlib.Core.Bool.{Bool, true, false, not, ◌&&◌}
use mathlib.Core.List.{List, [], ◌∷◌, ◌++◌, map, flat_map}
use Rattle.std.proofs.Math.Option.{Option as MathOption, none, some}
use Prim.Native.Nat.{ℕ, ◌+◌, ◌*◌, ◌<◌, ◌≤◌}
use native.Mathlib.Omega.{arith}
use borrow.Author.Tests.{le-leb, lt-leb}
use lib.Dec.{leb}
use lib.ListN.{length, take}
use Rattle.tables.specs.Lists.{only, placed}
use Rattle.tables.specs.Tables.{most_columns, most_rows, most_cells, Table}
use Rattle.tables.specs.Refusals.{Answer, Refused, Given, Lent, refused_with, filled_with}
use Rattle.tables.proofs.Placed.{placed_start}
use Rattle.tables.proofs.Tests.{between_yes, between_no}
use Rattle.tables.proofs.Tabulated.{and_yes}
use Rattle.tables.proofs.Refusals.{first_one, lend_refused, lend_short}
use Rattle.files.specs.Files.{RawCell, value_bytes, mark_bytes, size_of, sizes_part, file_bytes}
use Rattle.lines.specs.Lines.{table_read}
use Rattle.lines.specs.Calls.{columns_allowed, fields_counted, fields_fit, counts_fit, import_refusals, stored_cell, table_file, imported_file, import_call}
use Rattle.lines.specs.Claims.{TableLines, imported_length}
use Rattle.lines.proofs.Grammar.{line_grammar_claim}
use Rattle.lines.proofs.Rows.{cells_count}
use Rattle.lines.proofs.Importing.{left_refusal, none_left, file_is, file_long, import_claim}
use Rattle.importer.specs.Code.{Kept, if_counted, rows_in, rows_counted, Few, all_cells, short_text}
use Rattle.std.specs.Prelude.{Option, Some, None, Result, Ok, Err, ok_or, flat_map as bytes_of}
use Rattle.cells.specs.declared.Reason.{Reason}

-- the bytes of all values, and all marks
pieces_of : (f : RawCell → List ℕ) (cells : List RawCell) → bytes_of (λ v. v) (map f cells) ≡ flat_map f cells
unfolding flat_map
pieces_of f [] = refl
pieces_of f (c ∷ cells) = ap (λ (l : List ℕ). f c ++ l) (pieces_of f cells)

single_bytes : (cells : List RawCell) → map (λ c. c.mark) cells ≡ flat_map mark_bytes cells
unfolding flat_map
single_bytes [] = refl
single_bytes (c ∷ cells) = ap (λ (l : List ℕ). c.mark ∷ l) (single_bytes cells)

module _ (text : List ℕ) (columns : ℕ) (out : List ℕ) where
  -- an answer, and what the buffer holds then, are the call's
  abbrev pub Imports : Answer ℕ → List ℕ → Type 0
  Imports a after = (a ≡ (import_call text columns out).result) × (after ≡ (import_call text columns out).buffer)

  lent : (l : Lent ℕ) → import_call text columns out ≡ l → Imports l.result l.buffer
  lent l e = (ap (λ (a : Lent ℕ). a.result) (sym e), ap (λ (a : Lent ℕ). a.buffer) (sym e))

  -- 14
  unfit : fields_fit columns (table_read text) ≡ false → Imports (Refused 14) out
  unfolding import_call import_refusals
  unfit e = lent (refused_with 14 out) (lend_refused (import_refusals text columns) (imported_file text columns) out (first_one 14 (not (fields_fit columns (table_read text))) _ (ap not e)))

  pub columns_refused : (1 ≤ columns → columns ≤ most_columns → ⊥) → Imports (Refused 14) out
  unfolding fields_fit
  columns_refused f = unfit (go (table_read text))
    where
      go : (o : MathOption Table) → fields_fit columns o ≡ false
      go none = refl
      go (some rows) = ap (λ (t : Bool). t && fields_counted columns rows) (between_no 1 most_columns columns f)

  module _ (low : 1 ≤ columns) (high : columns ≤ most_columns) where
    allowed : columns_allowed columns ≡ true
    allowed = between_yes 1 most_columns columns low high

    pub fields_refused : rows_in columns text ≡ none → Imports (Refused 14) out
    unfolding rows_in fields_fit
    fields_refused e = unfit (go (table_read text) e)
      where
        test : (t u : Bool) (rows : Table) → only u rows ≡ none → (t && u) ≡ false
        test t true rows f = let z : ◌≡◌ {A = ℕ} 0 1 = cc in absurd (omega arith)
        test true false rows f = refl
        test false false rows f = refl

        go : (o : MathOption Table) → if_counted columns o ≡ none → fields_fit columns o ≡ false
        go none f = refl
        go (some rows) f = test (columns_allowed columns) (fields_counted columns rows) rows f

    module _ (rows : Table) (e : rows_in columns text ≡ some rows) where
      pub lines_told : TableLines text columns rows
      unfolding rows_in
      lines_told = go (table_read text) refl e
        where
          told : (o : MathOption Table) → table_read text ≡ o → (others : Table) (t : Bool) → fields_counted columns others ≡ t → table_read text ≡ some others
              → only t others ≡ some rows → TableLines text columns rows
          told o p others true c q f =
              let same : others ≡ rows = cc in
              record {
                lines = (line_grammar_claim.exactly text rows).0 (q ∙ ap some same);
                allowed = allowed;
                counted = sym (ap (fields_counted columns) same) ∙ c;
              }
          told o p others false c q f = let z : ◌≡◌ {A = ℕ} 0 1 = cc in absurd (omega arith)

          go : (o : MathOption Table) → table_read text ≡ o → if_counted columns o ≡ some rows → TableLines text columns rows
          go none p f = let z : ◌≡◌ {A = ℕ} 0 1 = cc in absurd (omega arith)
          go (some others) p f = told (some others) p others (fields_counted columns others) refl p f

      module _ (n : ℕ) (count : n ≡ length rows) where
        many : (b : Bool) → counts_fit columns n ≡ b → counts_fit columns (length rows) ≡ b
        many b f = ap (counts_fit columns) (sym count) ∙ f

        -- 15
        too_large : counts_fit columns n ≡ false → Imports (Refused 15) out
        unfolding import_call
        too_large f =
            lent (refused_with 15 out)
            (lend_refused (import_refusals text columns) (imported_file text columns) out
            (left_refusal text columns rows lines_told ∙ first_one 15 (not (counts_fit columns (length rows))) [] (ap not (many false f))))

        pub rows_refused : most_rows < n → Imports (Refused 15) out
        rows_refused h = too_large (ap (λ (t : Bool). t && leb (n * columns) most_cells) (lt-leb n most_rows h))

        pub cells_refused : n ≤ most_rows → most_cells < n * columns → Imports (Refused 15) out
        cells_refused l h = too_large (ap₂ ◌&&◌ (le-leb n most_rows l) (lt-leb (n * columns) most_cells h))

        module _ (few : n ≤ most_rows) (small : n * columns ≤ most_cells) where
          fits : counts_fit columns (length rows) ≡ true
          fits = many true (and_yes (leb n most_rows) (leb (n * columns) most_cells) (le-leb n most_rows few) (le-leb (n * columns) most_cells small))

          long : imported_length columns n ≡ imported_length columns (length rows)
          long = ap (imported_length columns) count

          -- 12
          pub room_refused : length out < 4 + 5 * (n * columns) → Imports (Refused 12) out
          unfolding import_call
          room_refused h =
              lent (refused_with 12 out)
              (lend_short (import_refusals text columns) (imported_file text columns) out (none_left text columns rows lines_told fits)
              (omega (arith, file_long text columns rows lines_told, long)))

          -- the file
          pub file_given : (values : List (List ℕ)) (marks after : List ℕ) → 4 + 5 * (n * columns) ≤ length out → Kept values marks (flat_map (map stored_cell) rows)
              → after ≡ placed out 0 (sizes_part (size_of columns n ∷ []) ++ (bytes_of (λ v. v) (take (n * columns) values) ++ take (n * columns) marks))
              → Imports (Given (4 + 5 * (n * columns))) after
          unfolding file_bytes table_file
          file_given values marks after h kept e =
              let cells = cells_count stored_cell columns rows lines_told.counted in
              let size : n * columns ≡ length (flat_map (map stored_cell) rows) = sym (cells ∙ ap (λ (m : ℕ). m * columns) (sym count)) in
              let values_same : bytes_of (λ v. v) (take (n * columns) values) ≡ flat_map value_bytes (flat_map (map stored_cell) rows) =
              ap (λ (m : ℕ). bytes_of (λ v. v) (take m values)) size ∙ ap (bytes_of (λ v. v)) kept.values_kept ∙ pieces_of value_bytes (flat_map (map stored_cell) rows) in
              let marks_same : take (n * columns) marks ≡ flat_map mark_bytes (flat_map (map stored_cell) rows) =
              ap (λ (m : ℕ). take m marks) size ∙ kept.marks_kept ∙ single_bytes (flat_map (map stored_cell) rows) in
              let file : sizes_part (size_of columns n ∷ []) ++ (bytes_of (λ v. v) (take (n * columns) values) ++ take (n * columns) marks) ≡ table_file columns rows =
              ap₂ (λ (m : ℕ) (l : List ℕ). sizes_part (size_of columns m ∷ []) ++ l) count (ap₂ ◌++◌ values_same marks_same) in
              let l : length (table_file columns rows) ≡ 4 + 5 * (n * columns) = sym (ap length (file_is text columns rows lines_told)) ∙ file_long text columns rows lines_told ∙ sym long in
              let (result, buffer) = lent (filled_with (table_file columns rows) out) (import_claim.given text out columns rows lines_told fits (omega (arith, long))) in
              (ap Given (sym l) ∙ result, e ∙ ap (placed out 0) file ∙ placed_start out (table_file columns rows) ∙ buffer)

-- ---- what `read_lines` tells

pub unread_told : (o : MathOption Table) (r : Option ℕ) → r ≡ rows_counted o → r ≡ None → o ≡ none
unread_told none r e f = refl
unread_told (some rows) r e f = let z : Some (length rows) ≡ None = sym e ∙ f in let y : ◌≡◌ {A = ℕ} 0 1 = cc in absurd (omega arith)

pub read_told : (o : MathOption Table) (r : Option ℕ) (x : Reason) (n : ℕ) → r ≡ rows_counted o → Ok n ≡ ok_or r x → (rows : Table) × (o ≡ some rows) × (n ≡ length rows)
read_told none r x n e f = let z : Ok n ≡ Err x = f ∙ ap (λ (p : Option ℕ). ok_or p x) e in let y : ◌≡◌ {A = ℕ} 0 1 = cc in absurd (omega arith)
read_told (some rows) r x n e f =
    let z : ◌≡◌ {A = Result ℕ Reason} (Ok n) (Ok (length rows)) = f ∙ ap (λ (p : Option ℕ). ok_or p x) e in let y : n ≡ length rows = cc in (rows, refl, y)

-- there was room for all cells
pub cells_kept : (text : List ℕ) (room cells : ℕ) → Few text room → cells ≤ length text + 1 → cells ≤ most_cells → cells ≤ room
cells_kept text room cells (all_cells h) l m = omega arith
cells_kept text room cells (short_text h) l m = omega arith

pub ruleset unread_refused = (fields_refused, unread_told)
