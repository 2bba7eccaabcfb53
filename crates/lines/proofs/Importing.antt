-- IMPORT: which refusal it gives, and the tables file that it makes.
use mathlib.Core.Path.{◌≡◌, refl, sym, ap, ◌∙◌}
use mathlib.Core.Bool.{Bool, true, false, not}
use mathlib.Core.List.{List, [], ◌∷◌, map, flat_map, append-nil}
use mathlib.Core.Logic.{◌↔◌, inl, inr}
use mathlib.Core.Option.{Option, none, some}
use Prim.Native.Nat.{ℕ, suc, ◌*◌, ◌<◌, ◌≤◌}
use native.Mathlib.Omega.{arith}
use borrow.Author.Tests.{leb-true, lt-ltb, eqb-true}
use lib.Dec.{leb, ltb, eqb}
use lib.ListN.{length, get_or}
use Rattle.tables.specs.Lists.{all}
use Rattle.tables.specs.Bytes.{between}
use Rattle.tables.specs.Tables.{most_columns, most_rows, most_cells, Size, sizes, size_fits as table_fits, Cell, Blank, Row, Table, tables_of, cell_in}
use Rattle.tables.specs.Refusals.{◌if◌, first_applying, Refused, Lent, filled_with, lend}
use Rattle.tables.proofs.Tests.{is_so, bounds}
use Rattle.tables.proofs.Tabulated.{and_yes, and_parts, all_at}
use Rattle.tables.proofs.Lent.{GivenBy, lend_told, lend_untouched}
use Rattle.tables.proofs.Refusals.{first_nil, skipped, first_one, first_none, lend_short, lend_long, lend_refused}
use Rattle.files.specs.Files.{RawCell, size_of, cells_asked, Storable, raw_cells, rows_cut, tables_cut}
use Rattle.files.proofs.Back.{file_length_claim, sizes_are, cells_back, back_claim}
use Rattle.files.proofs.Valid.{valid_file}
use Rattle.files.proofs.Cut.{tables_held, rows_joined}
use Rattle.numerals.proofs.Numerals.{numerals_claim}
use Rattle.lines.specs.Lines.{field_read, fields_of, line_read, lines_of, table_read}
use Rattle.lines.specs.Grammar.{IsField, number, empty, declined, IsLine, one_field, more_fields, IsLines, no_line, last_line, ended_line}
use Rattle.lines.specs.Calls.{columns_allowed, fields_counted, fields_fit, counts_fit, import_refusals, stored_cell, table_file, rows_read, imported_file, import_call}
use Rattle.lines.specs.Claims.{TableLines, imported_length, ImportClaim, most_imported, Valid, ImportedClaim}
use Rattle.lines.proofs.Split.{each_length, each_at}
use Rattle.lines.proofs.Grammar.{line_grammar_claim}
use Rattle.lines.proofs.Rows.{cell_fits, cells_fit, cells_count, cells_read, cells_small, marks_low}

-- ---- a number that was read is in range

field_fits : (t : List ℕ) (x : Cell) → IsField t x → cell_fits x ≡ true
field_fits t x (number {k = k} n) = numerals_claim.read_in_range t k ((numerals_claim.exactly t k).1 n)
field_fits t x empty = refl
field_fits t x declined = refl

line_fits : (t : List ℕ) (row : Row) → IsLine t row → all cell_fits row ≡ true
line_fits t row (one_field {x = x} f) = and_yes (cell_fits x) true (field_fits t x f) refl
line_fits t row (more_fields {t = f} {u = u} {x = x} {xs = xs} p l) = and_yes (cell_fits x) (all cell_fits xs) (field_fits f x p) (line_fits u xs l)

pub lines_fit : (text : List ℕ) (rows : Table) → IsLines text rows → cells_fit rows ≡ true
lines_fit text rows no_line = refl
lines_fit text rows (last_line {b = b} {t = t} {row = row} l) = and_yes (all cell_fits row) true (line_fits (b ∷ t) row l) refl
lines_fit text rows (ended_line {t = t} {u = u} {row = row} {rows = rest} l e r) =
    and_yes (all cell_fits row) (cells_fit rest) (line_fits t row l) (lines_fit u rest r)

-- ---- the file of a table

-- its length goes by the number of its cells
pub table_long : (columns : ℕ) (rows : Table) → fields_counted columns rows ≡ true → length (table_file columns rows) ≡ imported_length columns (length rows)
unfolding table_file
table_long columns rows e =
    omega (arith, file_length_claim (size_of columns (length rows) ∷ []) (flat_map (map stored_cell) rows), cells_count stored_cell columns rows e)

module _ (columns : ℕ) (rows : Table) (allowed : columns_allowed columns ≡ true) (counted : fields_counted columns rows ≡ true) (fits : cells_fit rows ≡ true)
    (small : counts_fit columns (length rows) ≡ true) where
  abbrev sized : List Size
  sized = size_of columns (length rows) ∷ []

  abbrev cells : List RawCell
  cells = flat_map (map stored_cell) rows

  columns_few : (1 ≤ columns) × (columns ≤ 16)
  columns_few = bounds 1 most_columns columns (is_so _ allowed)

  -- the two halves of the test of the size
  rows_allowed : leb (length rows) most_rows ≡ true
  rows_allowed = (and_parts (leb (length rows) most_rows) (leb (length rows * columns) most_cells) small).0

  cells_allowed : leb (length rows * columns) most_cells ≡ true
  cells_allowed = (and_parts (leb (length rows) most_rows) (leb (length rows * columns) most_cells) small).1

  asked : cells_asked sized ≡ length rows * columns
  unfolding cells_asked
  asked = omega arith

  pub table_storable : Storable sized cells
  table_storable =
      let (low, high) = columns_few in
      let few = leb-true (length rows) most_rows rows_allowed in
      record {
        few = omega arith;
        sizes_small =
            and_yes _ true (and_yes (ltb columns 256) (ltb (length rows) 65536) (lt-ltb columns 256 (omega arith)) (lt-ltb (length rows) 65536 (omega arith))) refl;
        cells_small = cells_small rows fits;
        as_many = cells_count stored_cell columns rows counted ∙ sym asked;
      }

  pub table_most : length (table_file columns rows) ≤ most_imported
  table_most = let few = leb-true (length rows * columns) most_cells cells_allowed in omega (arith, table_long columns rows counted)

  pub table_valid : Valid (table_file columns rows)
  unfolding table_file
  table_valid = record {
    small = (back_claim sized cells table_storable).byte_small;
    accepted =
        valid_file sized cells table_storable
        (and_yes (all table_fits sized) (leb (cells_asked sized) most_cells)
        (and_yes (table_fits (size_of columns (length rows))) true (and_yes (between 1 most_columns columns) (leb (length rows) most_rows) allowed rows_allowed) refl)
        (ap (λ (n : ℕ). leb n most_cells) asked ∙ cells_allowed))
        (marks_low rows fits);
  }

  pub table_size : sizes (table_file columns rows) ≡ sized
  unfolding table_file
  table_size = sizes_are sized cells table_storable.sizes_small

  pub table_cells : raw_cells (table_file columns rows) ≡ cells
  unfolding table_file
  table_cells = cells_back sized cells table_storable

  pub table_held : tables_of (table_file columns rows) ≡ rows ∷ []
  unfolding table_file tables_cut
  table_held =
      tables_held sized cells table_storable
      ∙ ap (λ (t : Table). t ∷ [])
      (ap (rows_cut (length rows) columns) (cells_read rows fits ∙ sym (append-nil (flat_map (λ (row : Row). row) rows))) ∙ rows_joined columns rows [] counted)

-- ---- what is said of a text

module _ (text : List ℕ) (columns : ℕ) where
  -- the rows that the productions give a text are those that are read, and refusal 14 does not apply
  pub read_is : (rows : Table) → TableLines text columns rows → table_read text ≡ some rows
  read_is rows h = (line_grammar_claim.exactly text rows).1 h.lines

  fields_fit_lem : (rows : Table) → TableLines text columns rows → fields_fit columns (table_read text) ≡ true
  unfolding fields_fit
  fields_fit_lem rows h = ap (fields_fit columns) (read_is rows h) ∙ and_yes (columns_allowed columns) (fields_counted columns rows) h.allowed h.counted

  -- where it does not apply there are such rows
  pub fit_told : fields_fit columns (table_read text) ≡ true → (rows : Table) × TableLines text columns rows
  unfolding fields_fit
  fit_told e = go (table_read text) refl e
    where
      go : (o : Option Table) → table_read text ≡ o → fields_fit columns o ≡ true → (rows : Table) × TableLines text columns rows
      go none p f = let z : ◌≡◌ {A = ℕ} 0 1 = cc in absurd (omega arith)
      go (some rows) p f =
          let (a, c) = and_parts (columns_allowed columns) (fields_counted columns rows) f in
          (rows, record { lines = (line_grammar_claim.exactly text rows).0 p; allowed = a; counted = c })

  module _ (rows : Table) (h : TableLines text columns rows) where
    -- 15 alone is left
    pub left_refusal : first_applying (import_refusals text columns) ≡ first_applying ((15 if not (counts_fit columns (length rows))) ∷ [])
    unfolding import_refusals
    left_refusal =
        skipped 14 (not (fields_fit columns (table_read text))) _ (ap not (fields_fit_lem rows h))
        ∙ ap (λ (n : ℕ). first_applying ((15 if not (counts_fit columns n)) ∷ [])) (line_grammar_claim.counted text rows h.lines)

    pub file_is : imported_file text columns ≡ table_file columns rows
    unfolding imported_file
    file_is = ap (λ (o : Option Table). table_file columns (rows_read o)) (read_is rows h)

    pub file_long : length (imported_file text columns) ≡ imported_length columns (length rows)
    file_long = ap length file_is ∙ table_long columns rows h.counted

    pub none_left : counts_fit columns (length rows) ≡ true → first_applying (import_refusals text columns) ≡ none
    none_left e = left_refusal ∙ first_none 15 (not (counts_fit columns (length rows))) [] (ap not e) first_nil

    -- what the first refusal that applies says of the size
    size_told : (n : ℕ) → first_applying (import_refusals text columns) ≡ some n → (n ≡ 15) × (counts_fit columns (length rows) ≡ false)
    size_told n e = go (counts_fit columns (length rows)) refl
      where
        go : (t : Bool) → counts_fit columns (length rows) ≡ t → (n ≡ 15) × (counts_fit columns (length rows) ≡ false)
        go true f = let a = none_left f in let z : ◌≡◌ {A = ℕ} 0 1 = cc in absurd (omega arith)
        go false f =
            let a = left_refusal ∙ first_one 15 (not (counts_fit columns (length rows))) [] (ap not f) in
            let z : n ≡ 15 = cc in
            (z, f)

-- ---- together

-- the refusal that a call gives
module _ (text buffer : List ℕ) (columns : ℕ) where
  abbrev call : Lent ℕ
  call = lend (import_refusals text columns) (imported_file text columns) buffer

  refused_with : (n : ℕ) → first_applying (import_refusals text columns) ≡ some n → call.result ≡ Refused n
  refused_with n e = ap (λ (l : Lent ℕ). l.result) (lend_refused (import_refusals text columns) (imported_file text columns) buffer e)

  fields_refused : (call.result ≡ Refused 14) ↔ ((rows : Table) → ¬ TableLines text columns rows)
  unfolding import_refusals
  fields_refused = (no_rows, λ f. go (fields_fit columns (table_read text)) refl f)
    where
      no_rows : call.result ≡ Refused 14 → (rows : Table) → ¬ TableLines text columns rows
      no_rows e rows h = told (lend_told (import_refusals text columns) (imported_file text columns) buffer 14 e)
        where
          told : GivenBy (import_refusals text columns) (imported_file text columns) buffer 14 → ⊥
          told (inl e) = omega (arith, (size_told text columns rows h 14 e).0)
          told (inr e) = omega (arith, e.0)

      go : (t : Bool) → fields_fit columns (table_read text) ≡ t → ((rows : Table) → ¬ TableLines text columns rows) → call.result ≡ Refused 14
      go true e f = let (rows, h) = fit_told text columns e in absurd (f rows h)
      go false e f = refused_with 14 (first_one 14 (not (fields_fit columns (table_read text))) _ (ap not e))

  module _ (rows : Table) (h : TableLines text columns rows) where
    size_refused : (call.result ≡ Refused 15) ↔ (counts_fit columns (length rows) ≡ false)
    size_refused = (
      λ e. told (lend_told (import_refusals text columns) (imported_file text columns) buffer 15 e),
      λ f. refused_with 15 (left_refusal text columns rows h ∙ first_one 15 (not (counts_fit columns (length rows))) [] (ap not f)),
    )
      where
        told : GivenBy (import_refusals text columns) (imported_file text columns) buffer 15 → counts_fit columns (length rows) ≡ false
        told (inl e) = (size_told text columns rows h 15 e).1
        told (inr e) = absurd (omega (arith, e.0))

    module _ (small : counts_fit columns (length rows) ≡ true) where
      room_refused : (call.result ≡ Refused 12) ↔ (length buffer < imported_length columns (length rows))
      room_refused = (
        λ e. told (lend_told (import_refusals text columns) (imported_file text columns) buffer 12 e),
        λ l. ap (λ (l : Lent ℕ). l.result)
            (lend_short (import_refusals text columns) (imported_file text columns) buffer (none_left text columns rows h small)
            (omega (arith, file_long text columns rows h))),
      )
        where
          told : GivenBy (import_refusals text columns) (imported_file text columns) buffer 12 → length buffer < imported_length columns (length rows)
          told (inl e) = absurd (omega (arith, (size_told text columns rows h 12 e).0))
          told (inr e) = omega (arith, e.2, file_long text columns rows h)

      given : imported_length columns (length rows) ≤ length buffer → call ≡ filled_with (table_file columns rows) buffer
      given l =
          lend_long (import_refusals text columns) (imported_file text columns) buffer (none_left text columns rows h small)
          (omega (arith, file_long text columns rows h))
          ∙ ap (λ (file : List ℕ). filled_with file buffer) (file_is text columns rows h)

pub import_claim : ImportClaim
unfolding import_call
import_claim = record {
  fields = fields_refused;
  size = λ text buffer columns rows h. size_refused text buffer columns rows h;
  room = λ text buffer columns rows h e. room_refused text buffer columns rows h e;
  given = λ text buffer columns rows h e l. given text buffer columns rows h e l;
  untouched = λ text buffer columns n e. lend_untouched (import_refusals text columns) (imported_file text columns) buffer n e;
}

-- what a cell is, its field says
cell_said : (text : List ℕ) (columns : ℕ) (rows : Table) → TableLines text columns rows → (row column : ℕ) → row < length rows → column < columns
    → field_read (get_or (fields_of (get_or (lines_of text) row [])) column []) ≡ some (cell_in (get_or rows row []) (suc column))
unfolding line_read table_read
cell_said text columns rows h row column l m =
    let read = read_is text columns rows h in
    let lines = each_length line_read (lines_of text) rows read in
    let line = each_at line_read (lines_of text) rows read row [] [] (omega arith) in
    let fields = each_length field_read (fields_of (get_or (lines_of text) row [])) (get_or rows row []) line in
    let wide = eqb-true (length (get_or rows row [])) columns (all_at (λ (row : Row). eqb (length row) columns) rows h.counted row [] l) in
    each_at field_read (fields_of (get_or (lines_of text) row [])) (get_or rows row []) line column [] Blank (omega arith)

pub imported_claim : ImportedClaim
imported_claim text columns rows h small =
    let fits = lines_fit text rows h.lines in
    record {
      long = table_long columns rows h.counted;
      most = table_most columns rows h.allowed h.counted fits small;
      valid = table_valid columns rows h.allowed h.counted fits small;
      size = table_size columns rows h.allowed h.counted fits small;
      table = table_held columns rows h.allowed h.counted fits small;
      cells = table_cells columns rows h.allowed h.counted fits small;
      says = cell_said text columns rows h;
    }
