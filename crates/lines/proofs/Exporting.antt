-- EXPORT: the lines that it writes are those of table 1, by the productions; and what IMPORT makes of them.
use mathlib.Core.Path.{◌≡◌, refl, sym, ap, ap₂, ◌∙◌}
use mathlib.Core.Bool.{Bool, true, false, ◌&&◌, ◌||◌}
use mathlib.Core.List.{List, [], ◌∷◌, ◌++◌, map, flat_map, append_assoc}
use Prim.Native.Nat.{ℕ, zero, suc, ◌+◌, ◌*◌, ◌<◌, ◌≤◌}
use native.Mathlib.Nat.{suc-mul}
use native.Mathlib.Omega.{arith}
use borrow.Author.Tests.{leb-true, le-leb, eq-eqb, eqb-true}
use lib.Dec.{leb, eqb}
use lib.ListN.{length, take, drop, length-drop, length-map}
use lib.Seq.{length-take-le, take-add}
use Rattle.tables.specs.Lists.{tabulate, all, is_there_one, same}
use Rattle.tables.specs.Bytes.{between}
use Rattle.tables.specs.Tables.{most_tables, most_columns, most_rows, most_cells, highest_mark, Size, table_count, size_at, sizes, cells_in, size_fits as table_fits, Cell, Blank, Declined, Present, cell_from, Row, Table, Tables, tables_of, rows_of}
use Rattle.tables.specs.Refusals.{Refusal, first_applying, Given, tables_refusals, lend}
use Rattle.tables.proofs.Tests.{is_true, is_so, bounds, between_yes}
use Rattle.tables.proofs.Bytes.{in_range_lem}
use Rattle.tables.proofs.Tabulated.{tabulate_length, and_yes, and_parts, all_parts, all_weaker, all_map}
use Rattle.tables.proofs.Lent.{lend_only, lend_taken, lend_untouched}
use Rattle.tables.proofs.Blanks.{blank_cells_claim}
use Rattle.tables.proofs.Refusals.{lend_refused}
use Rattle.files.specs.Files.{RawCell, raw_cell, size_of, file_bytes, cells_asked, cell_storable, sizes_allowed, marks_allowed, raw_cells, cell_read, rows_cut, tables_cut}
use Rattle.files.specs.Claims.{Remade}
use Rattle.files.proofs.Bytes.{bits_small}
use Rattle.files.proofs.Remade.{remade_claim}
use Rattle.files.proofs.Valid.{validity_claim}
use Rattle.files.proofs.Cut.{cut_claim}
use Rattle.numerals.specs.Numerals.{numeral, is_plain}
use Rattle.numerals.proofs.Numerals.{numerals_claim}
use Rattle.lines.specs.Lines.{comma, line_feed, carriage_return, declined_field, joined, fields_of, lines_of, field_text, line_text, lines_text}
use Rattle.lines.specs.Grammar.{IsField, number, empty, declined, IsLine, one_field, more_fields, lf, IsLines, no_line, ended_line}
use Rattle.lines.specs.Calls.{fields_counted, counts_fit, import_refusals, stored_cell, table_file, imported_file, import_call, exported_lines, export_call}
use Rattle.lines.specs.Claims.{TableLines, Valid, field_plain, blank_cleared, first_table_file, RoundTripClaim, ExportClaim}
use Rattle.lines.proofs.Split.{lacks, lacks_append, split_whole, split_next}
use Rattle.lines.proofs.Grammar.{field_lacks, line_without_return, lines_ended, lines_none}
use Rattle.lines.proofs.Rows.{cell_fits, cells_fit, cells_mapped}
use Rattle.lines.proofs.Written.{rows_count, accepted_fits, exported_long, exported_most, export_room, export_given}
use Rattle.lines.proofs.Importing.{file_is, none_left, table_held}

-- ---- what is written is by the productions

field_written : (x : Cell) → cell_fits x ≡ true → IsField (field_text x) x
unfolding field_text
field_written Blank e = empty
field_written Declined e = declined
field_written (Present k) e = number ((numerals_claim.exactly (numeral k) k).0 (numerals_claim.written_then_read k e))

pub line_written : (x : Cell) (xs : Row) → all cell_fits (x ∷ xs) ≡ true → IsLine (joined comma (map field_text (x ∷ xs))) (x ∷ xs)
unfolding joined
line_written x [] e = one_field (field_written x (and_parts (cell_fits x) true e).0)
line_written x (y ∷ ys) e =
    let (here, rest) = and_parts (cell_fits x) (all cell_fits (y ∷ ys)) e in more_fields (field_written x here) (line_written y ys rest)

-- rows that have a field each, with numbers in range
pub lines_written : (rows : Table) → all is_there_one rows ≡ true → cells_fit rows ≡ true → IsLines (lines_text rows) rows
unfolding lines_text line_text flat_map
lines_written [] e f = no_line
lines_written ([] ∷ rows) e f = let z : ◌≡◌ {A = ℕ} 0 1 = cc in absurd (omega arith)
lines_written ((x ∷ xs) ∷ rows) e f =
    let (here, rest) = and_parts (all cell_fits (x ∷ xs)) (cells_fit rows) f in
    rw (append_assoc (joined comma (map field_text (x ∷ xs))) (line_feed ∷ []) (flat_map line_text rows))
    (ended_line (line_written x xs here) lf (lines_written rows e rest))

-- ---- and without spare zeros

plain_field : (x : Cell) → cell_fits x ≡ true → field_plain (field_text x) ≡ true
unfolding field_text
plain_field Blank e = refl
plain_field Declined e = refl
plain_field (Present k) e = go (numeral k) (numerals_claim.written_plain k e)
  where
    either : (t u : Bool) → u ≡ true → (t || u) ≡ true
    either true u f = refl
    either false u f = f

    go : (t : List ℕ) → is_plain t ≡ true → field_plain t ≡ true
    go [] f = refl
    go (b ∷ bs) f = either (same (b ∷ bs) declined_field) (is_plain (b ∷ bs)) f

-- the fields of a line that was written
fields_back : (x : Cell) (xs : Row) → all cell_fits (x ∷ xs) ≡ true → fields_of (joined comma (map field_text (x ∷ xs))) ≡ map field_text (x ∷ xs)
unfolding fields_of joined
fields_back x [] e = split_whole comma (field_text x) (field_lacks comma (field_text x) x refl (field_written x (and_parts (cell_fits x) true e).0))
fields_back x (y ∷ ys) e =
    let (here, rest) = and_parts (cell_fits x) (all cell_fits (y ∷ ys)) e in
    split_next comma (field_text x) (joined comma (map field_text (y ∷ ys))) (field_lacks comma (field_text x) x refl (field_written x here))
    ∙ ap (λ (fs : List (List ℕ)). field_text x ∷ fs) (fields_back y ys rest)

plain_lines : (rows : Table) → all is_there_one rows ≡ true → cells_fit rows ≡ true → all (all field_plain) (map fields_of (lines_of (lines_text rows))) ≡ true
unfolding lines_text line_text flat_map
plain_lines [] e f = ap (λ (ls : List (List ℕ)). all (all field_plain) (map fields_of ls)) lines_none
plain_lines ([] ∷ rows) e f = let z : ◌≡◌ {A = ℕ} 0 1 = cc in absurd (omega arith)
plain_lines ((x ∷ xs) ∷ rows) e f =
    let (here, rest) = and_parts (all cell_fits (x ∷ xs)) (cells_fit rows) f in
    let line = joined comma (map field_text (x ∷ xs)) in
    ap (λ (t : List ℕ). all (all field_plain) (map fields_of (lines_of t))) (append_assoc line (line_feed ∷ []) (flat_map line_text rows))
    ∙ ap (λ (ls : List (List ℕ)). all (all field_plain) (map fields_of ls)) (lines_ended line (line_feed ∷ []) (flat_map line_text rows) (x ∷ xs) (line_written x xs here) lf)
    ∙ and_yes (all field_plain (fields_of line)) (all (all field_plain) (map fields_of (lines_of (flat_map line_text rows))))
    (ap (all field_plain) (fields_back x xs here) ∙ all_map cell_fits field_plain field_text plain_field (x ∷ xs) here)
    (plain_lines rows e rest)

-- ---- and with LF alone

no_returns : (rows : Table) → all is_there_one rows ≡ true → cells_fit rows ≡ true → lacks carriage_return (lines_text rows) ≡ true
unfolding lines_text line_text flat_map
no_returns [] e f = refl
no_returns ([] ∷ rows) e f = let z : ◌≡◌ {A = ℕ} 0 1 = cc in absurd (omega arith)
no_returns ((x ∷ xs) ∷ rows) e f =
    let (here, rest) = and_parts (all cell_fits (x ∷ xs)) (cells_fit rows) f in
    let line = joined comma (map field_text (x ∷ xs)) in
    lacks_append carriage_return (line ++ (line_feed ∷ [])) (flat_map line_text rows)
    (lacks_append carriage_return line (line_feed ∷ []) (line_without_return line (x ∷ xs) (line_written x xs here)) refl)
    (no_returns rows e rest)

-- ---- table 1 of a file

-- rows of one width, 1 or more, have a field each
pub some_field : (w : ℕ) (rows : Table) → 1 ≤ w → fields_counted w rows ≡ true → all is_there_one rows ≡ true
some_field w rows h e = all_weaker (λ (row : Row). eqb (length row) w) is_there_one there rows e
  where
    there : (row : Row) → eqb (length row) w ≡ true → is_there_one row ≡ true
    there [] e = absurd (omega (arith, eqb-true 0 w e))
    there (x ∷ xs) e = refl

-- ---- rows that are cut from a list of cells

module _ (w : ℕ) where
  pub cut_wide : (r : ℕ) (xs : List Cell) → r * w ≤ length xs → fields_counted w (rows_cut r w xs) ≡ true
  unfolding rows_cut
  cut_wide zero xs h = refl
  cut_wide (suc r) xs h =
      let more = suc-mul r w in
      and_yes (eqb (length (take w xs)) w) (fields_counted w (rows_cut r w (drop w xs))) (eq-eqb (length (take w xs)) w (length-take-le w xs (omega arith)))
      (cut_wide r (drop w xs) (omega (arith, length-drop w xs)))

  pub cut_cells : (r : ℕ) (xs : List Cell) → flat_map (λ (row : Row). row) (rows_cut r w xs) ≡ take (r * w) xs
  unfolding rows_cut flat_map
  cut_cells zero xs = let e : 0 ≡ 0 * w = omega arith in ap (λ (n : ℕ). take n xs) e
  cut_cells (suc r) xs =
      let e : w + r * w ≡ suc r * w = omega (arith, suc-mul r w) in
      ap (λ (l : List Cell). take w xs ++ l) (cut_cells r (drop w xs)) ∙ sym (take-add w (r * w) xs) ∙ ap (λ (n : ℕ). take n xs) e

  pub cut_all : (p : Cell → Bool) (r : ℕ) (xs : List Cell) → all p xs ≡ true → all (all p) (rows_cut r w xs) ≡ true
  unfolding rows_cut
  cut_all p zero xs e = refl
  cut_all p (suc r) xs e =
      let (here, rest) = all_parts p w xs e in and_yes (all p (take w xs)) (all (all p) (rows_cut r w (drop w xs))) here (cut_all p r (drop w xs) rest)

-- ---- the cells of a file

-- 32 bits are those of a number in range
read_fits : (c : RawCell) → cell_storable c ≡ true → cell_fits (cell_read c) ≡ true
read_fits c e = go c.mark c.bits (bits_small c e)
  where
    go : (m b : ℕ) → b < 4294967296 → cell_fits (cell_from m b) ≡ true
    go zero b h = is_true _ (in_range_lem b h).1
    go (suc zero) b h = refl
    go (suc (suc m)) b h = refl

-- a cell that is read and stored again: as it was, with 0 as value if it is blank or declined
stored_cleared : (c : RawCell) → cell_storable c ≡ true → leb c.mark highest_mark ≡ true → stored_cell (cell_read c) ≡ blank_cleared c
stored_cleared c e f = go c.mark c.bits (bits_small c e) f
  where
    go : (m b : ℕ) → b < 4294967296 → leb m highest_mark ≡ true → stored_cell (cell_from m b) ≡ blank_cleared (raw_cell b m)
    go zero b h f = ap (λ (n : ℕ). raw_cell n 0) (in_range_lem b h).0
    go (suc zero) b h f = refl
    go (suc (suc zero)) b h f = refl
    go (suc (suc (suc m))) b h f = absurd (omega (arith, leb-true (suc (suc (suc m))) highest_mark f))

cells_cleared : (cs : List RawCell) → all cell_storable cs ≡ true → marks_allowed cs ≡ true → map stored_cell (map cell_read cs) ≡ map blank_cleared cs
cells_cleared [] e f = refl
cells_cleared (c ∷ cs) e f =
    let (here, rest) = and_parts (cell_storable c) (all cell_storable cs) e in
    let (low, others) = and_parts (leb c.mark highest_mark) (marks_allowed cs) f in
    ap₂ ◌∷◌ (stored_cleared c here low) (cells_cleared cs rest others)

map_take : {A B : Type 0} (f : A → B) (n : ℕ) (xs : List A) → take n (map f xs) ≡ map f (take n xs)
map_take f zero xs = refl
map_take f (suc n) [] = refl
map_take f (suc n) (x ∷ xs) = ap (λ l. f x ∷ l) (map_take f n xs)

-- ---- table 1 of a file that gets neither 1 nor 2

-- the first of some sizes within the limits
first_allowed : (s : Size) (ss : List Size) → sizes_allowed (s ∷ ss) ≡ true
    → (table_fits s ≡ true) × (cells_in s ≤ cells_asked (s ∷ ss)) × (cells_asked (s ∷ ss) ≤ most_cells)
unfolding cells_asked
first_allowed s ss e =
    let few = leb (cells_asked (s ∷ ss)) most_cells in
    let (every, least) = and_parts (all table_fits (s ∷ ss)) few (and_parts (between 1 most_tables (length (s ∷ ss))) (all table_fits (s ∷ ss) && few) e).1 in
    ((and_parts (table_fits s) (all table_fits ss) every).0, omega arith, leb-true (cells_asked (s ∷ ss)) most_cells least)

-- its columns, rows and cells are within the limits, and its cells are there
pub record FirstFits (file : List ℕ) : Type 0 where
  pub some_column : 1 ≤ (size_at file 0).columns
  pub few_columns : (size_at file 0).columns ≤ most_columns
  pub few_rows : (size_at file 0).rows ≤ most_rows
  pub few_cells : cells_in (size_at file 0) ≤ most_cells
  pub cells_there : cells_in (size_at file 0) ≤ length (raw_cells file)

module _ (file : List ℕ) (v : Valid file) where
  abbrev first : Size
  first = size_at file 0

  abbrev held : List Cell
  held = map cell_read (raw_cells file)

  abbrev rows : Table
  rows = rows_of (tables_of file) 1

  made : Remade file
  made = remade_claim.unrefused file v.small (accepted_fits file v.accepted)

  limits : (sizes_allowed (sizes file) ≡ true) × (marks_allowed (raw_cells file) ≡ true)
  limits =
      (validity_claim (sizes file) (raw_cells file) made.storable).valid.0
      (ap (λ (bs : List ℕ). first_applying (tables_refusals bs)) (sym made.is) ∙ v.accepted)

  -- there is a table 1
  first_size : (rest : List Size) × (sizes file ≡ first ∷ rest)
  unfolding sizes
  first_size =
      let n = length (sizes file) in
      let low = (bounds 1 most_tables n (is_so _ (and_parts (between 1 most_tables n) _ limits.0).0)).0 in
      go (table_count file) (omega (arith, tabulate_length (table_count file) (size_at file)))
    where
      go : (n : ℕ) → 1 ≤ n → (rest : List Size) × (tabulate n (size_at file) ≡ first ∷ rest)
      go zero h = absurd (omega arith)
      go (suc n) h = (tabulate n (λ k. size_at file (suc k)), refl)

  pub first_fits : FirstFits file
  first_fits =
      let (rest, is) = first_size in
      let (fit, least, most) = first_allowed first rest (ap sizes_allowed (sym is) ∙ limits.0) in
      let (columns, few) = and_parts (between 1 most_columns first.columns) (leb first.rows most_rows) fit in
      let (low, high) = bounds 1 most_columns first.columns (is_so _ columns) in
      record {
        some_column = low;
        few_columns = high;
        few_rows = leb-true first.rows most_rows few;
        few_cells = omega arith;
        cells_there = omega (arith, made.storable.as_many, ap cells_asked is);
      }

  -- and its rows are cut from the cells
  pub rows_are : rows ≡ rows_cut first.rows first.columns held
  unfolding tables_cut
  rows_are = ap (λ (ts : Tables). rows_of ts 1) (cut_claim file ∙ ap (λ (ss : List Size). tables_cut ss held) first_size.1)

  rows_long : length rows ≡ first.rows
  rows_long = rows_count file (accepted_fits file v.accepted)

  pub rows_wide : fields_counted first.columns rows ≡ true
  rows_wide =
      ap (fields_counted first.columns) rows_are
      ∙ cut_wide first.columns first.rows held (omega (arith, length-map (raw_cells file) cell_read, first_fits.cells_there))

  pub rows_fit : cells_fit rows ≡ true
  rows_fit =
      ap cells_fit rows_are
      ∙ cut_all first.columns cell_fits first.rows held (all_map cell_storable cell_fits cell_read read_fits (raw_cells file) made.storable.cells_small)

  -- so the productions give the lines that are written these rows
  pub exported_lines_lem : IsLines (exported_lines file) rows
  unfolding exported_lines
  exported_lines_lem = lines_written rows (some_field first.columns rows first_fits.some_column rows_wide) rows_fit

  pub exported_plain : all (all field_plain) (map fields_of (lines_of (exported_lines file))) ≡ true
  unfolding exported_lines
  exported_plain = plain_lines rows (some_field first.columns rows first_fits.some_column rows_wide) rows_fit

  pub exported_no_return : lacks carriage_return (exported_lines file) ≡ true
  unfolding exported_lines
  exported_no_return = no_returns rows (some_field first.columns rows first_fits.some_column rows_wide) rows_fit

  -- ---- and IMPORT takes them back

  first_lines : TableLines (exported_lines file) first.columns rows
  first_lines = record {
    lines = exported_lines_lem;
    allowed = between_yes 1 most_columns first.columns first_fits.some_column first_fits.few_columns;
    counted = rows_wide;
  }

  size_fits_lem : counts_fit first.columns (length rows) ≡ true
  size_fits_lem =
      ap (counts_fit first.columns) rows_long
      ∙ and_yes (leb first.rows most_rows) (leb (first.rows * first.columns) most_cells) (le-leb first.rows most_rows first_fits.few_rows)
      (le-leb (first.rows * first.columns) most_cells first_fits.few_cells)

  first_is : first_table_file file ≡ table_file first.columns rows
  unfolding table_file
  first_is =
      let n = first.rows * first.columns in
      ap₂ (λ (s : Size) (cs : List RawCell). file_bytes (s ∷ []) cs) (ap (size_of first.columns) (sym rows_long))
      (sym (cells_cleared (take n (raw_cells file)) (all_parts cell_storable n (raw_cells file) made.storable.cells_small).0
      (all_parts (λ (c : RawCell). leb c.mark highest_mark) n (raw_cells file) limits.1).0)
      ∙ ap (map stored_cell)
      (sym (map_take cell_read n (raw_cells file))
      ∙ sym (cut_cells first.columns first.rows held)
      ∙ ap (flat_map (λ (row : Row). row)) (sym rows_are))
      ∙ sym (cells_mapped stored_cell rows))

  back_again : (lines buffer : List ℕ) (n : ℕ) → (export_call file lines).result ≡ Given n
      → import_call (take n (export_call file lines).buffer) first.columns buffer ≡ lend [] (first_table_file file) buffer
  unfolding export_call import_call
  back_again lines buffer n e =
      ap (λ (text : List ℕ). lend (import_refusals text first.columns) (imported_file text first.columns) buffer)
      (lend_taken (tables_refusals file) (exported_lines file) lines n e)
      ∙ lend_only (import_refusals (exported_lines file) first.columns) (imported_file (exported_lines file) first.columns) buffer
      (none_left (exported_lines file) first.columns rows first_lines size_fits_lem)
      ∙ ap (λ (bs : List ℕ). lend [] bs buffer) (file_is (exported_lines file) first.columns rows first_lines ∙ sym first_is)

  table_back : tables_of (first_table_file file) ≡ rows ∷ []
  table_back = ap tables_of first_is ∙ table_held first.columns rows first_lines.allowed rows_wide rows_fit size_fits_lem

pub round_trip_claim : RoundTripClaim
round_trip_claim = record { again = λ file lines buffer n v. back_again file v lines buffer n; same_table = table_back }

pub export_claim : ExportClaim
unfolding export_call exported_lines
export_claim = record {
  refused = λ file buffer n e. lend_refused (tables_refusals file) (exported_lines file) buffer e;
  exported = λ file v. record {
    long = exported_long file v;
    most = exported_most file v;
    lines = exported_lines_lem file v;
    no_return = exported_no_return file v;
    plain = exported_plain file v;
  };
  room = export_room;
  given = export_given;
  untouched = λ file buffer n e. lend_untouched (tables_refusals file) (exported_lines file) buffer n e;
  blanks = λ file other buffer h.
      let same = blank_cells_claim file other h in
      ap₂ (λ (rs : List Refusal) (ts : Tables). lend rs (lines_text (rows_of ts 1)) buffer) same.refusals same.tables;
}
