-- All lines of table 1, measured and written line by line; how long they are at most.
use mathlib.Core.Path.{◌≡◌, refl, sym, ap, ◌∙◌}
use mathlib.Core.Bool.{true}
use mathlib.Core.List.{List, [], flat_map}
use Prim.Native.Nat.{ℕ, ◌+◌, ◌*◌, ◌<◌, ◌≤◌}
use native.Mathlib.Numerals.{add-one}
use native.Mathlib.Omega.{arith}
use borrow.Author.Tests.{le-leb}
use lib.Dec.{leb}
use lib.ListN.{length, get_or, take, length-append}
use lib.Seq.{take_all}
use Rattle.tables.specs.Lists.{placed}
use Rattle.tables.specs.Tables.{most_cells, Table, size_at}
use Rattle.tables.proofs.Placed.{placed_length, placed_none, placed_next}
use Rattle.lines.specs.Lines.{line_text, lines_text}
use Rattle.lines.specs.Claims.{most_lines}
use Rattle.lines.proofs.Written.{lines_next, lines_front, table_few, table_most, cells_few}
use Rattle.cells.specs.declared.Place.{Place}
use Rattle.exporter.specs.Code.{FirstTableAt, first_rows}
use Rattle.exporter.proofs.Cells.{rows_long}

-- ---- how long they are at most

module _ (file : List ℕ) (at : Place) (table : FirstTableAt file at) where
  cells_same : at.rows * at.columns ≡ (size_at file 0).rows * (size_at file 0).columns
  cells_same = ap (λ (p : Place). p.rows * p.columns) table.place

  pub few_cells : at.rows * at.columns ≤ most_cells
  few_cells = omega (arith, cells_same, cells_few file table.fits)

  lines_few : length (lines_text (first_rows file)) ≤ 12 * (at.rows * at.columns)
  lines_few = omega (arith, cells_same, table_few file table.fits)

  pub lines_most : length (lines_text (first_rows file)) ≤ most_lines
  lines_most = table_most file table.fits

  -- so 12 bytes for each cell are enough
  pub room_enough : (room : ℕ) → 12 * (at.rows * at.columns) ≤ room → true ≡ leb (length (lines_text (first_rows file))) room
  room_enough room h = sym (le-leb _ room (omega (arith, lines_few)))

-- ---- one line more

lines_more : (rows : Table) (k : ℕ) → k < length rows
    → length (lines_text (take (k + 1) rows)) ≡ length (lines_text (take k rows)) + length (line_text (get_or rows k []))
lines_more rows k h = rw (add-one k) (ap length (lines_next rows k h) ∙ length-append (lines_text (take k rows)) (line_text (get_or rows k [])))

-- ---- measured

-- the first k lines take n bytes, and all of them together at most as many as a table can take
pub record Measured (rows : Table) (k n : ℕ) : Type 0 where
  pub most : length (lines_text rows) ≤ most_lines
  pub few : k ≤ length rows
  pub is : n ≡ length (lines_text (take k rows))

pub measured_none : (rows : Table) → length (lines_text rows) ≤ most_lines → Measured rows 0 0
unfolding lines_text flat_map
measured_none rows h = record { most = h; few = omega arith; is = refl }

module _ {rows : Table} {k n : ℕ} (m : Measured rows k n) where
  module _ (h : k < length rows) (l : ℕ) (e : l ≡ length (line_text (get_or rows k []))) where
    pub sum_small : n + l ≤ most_lines
    sum_small = omega (arith, lines_more rows k h, lines_front (k + 1) rows, m.most, m.is)

    pub measured_line : Measured rows (k + 1) (n + l)
    measured_line = record { most = m.most; few = omega arith; is = omega (arith, lines_more rows k h, m.is) }

  pub measured_lines : length rows ≤ k → n ≡ length (lines_text rows)
  measured_lines h = m.is ∙ ap (λ (t : Table). length (lines_text t)) (take_all k rows h)

-- ---- written

-- the first k lines stand at the start of a buffer that has room for all
pub record LinesPut (rows : Table) (out₀ : List ℕ) (k : ℕ) (out : List ℕ) (next : ℕ) : Type 0 where
  pub room : length (lines_text rows) ≤ length out₀
  pub few : k ≤ length rows
  pub ends : next ≡ length (lines_text (take k rows))
  pub is : out ≡ placed out₀ 0 (lines_text (take k rows))
  pub size : length out ≡ length out₀

pub put_none : (rows : Table) (out : List ℕ) → length (lines_text rows) ≤ length out → LinesPut rows out 0 out 0
unfolding lines_text flat_map
put_none rows out h = record { room = h; few = omega arith; ends = refl; is = sym (placed_none out 0); size = refl }

module _ {rows : Table} {out₀ : List ℕ} {k : ℕ} {out : List ℕ} {next : ℕ} (p : LinesPut rows out₀ k out next) where
  module _ (h : k < length rows) where
    pub line_room : next + length (line_text (get_or rows k [])) ≤ length out
    line_room = omega (arith, lines_more rows k h, lines_front (k + 1) rows, p.room, p.ends, p.size)

    pub put_line : (out' : List ℕ) (next' : ℕ) → out' ≡ placed out next (line_text (get_or rows k []))
        → next' ≡ next + length (line_text (get_or rows k [])) → LinesPut rows out₀ (k + 1) out' next'
    put_line out' next' e f =
        let line = line_text (get_or rows k []) in
        let ends = p.ends in
        record {
          room = p.room;
          few = omega arith;
          ends = omega (arith, lines_more rows k h);
          is =
              e
              ∙ ap (λ (o : List ℕ). placed o next line) p.is
              ∙ placed_next out₀ 0 (lines_text (take k rows)) next line (omega arith) (omega arith)
              ∙ ap (placed out₀ 0) (sym (lines_next rows k h) ∙ ap (λ (j : ℕ). lines_text (take j rows)) (sym (add-one k)));
          size = ap length e ∙ placed_length out next line line_room ∙ p.size;
        }

  pub put_all : length rows ≤ k → (out ≡ placed out₀ 0 (lines_text rows)) × (next ≡ length (lines_text rows))
  put_all h =
      let all-rows = ap lines_text (take_all k rows h) in
      (p.is ∙ ap (placed out₀ 0) all-rows, p.ends ∙ ap length all-rows)

-- what the measuring and the writing of all lines rest on
pub ruleset lines_measured = (rows_long, lines_most, measured_none, sum_small, measured_line, measured_lines)

pub ruleset lines_put = (rows_long, put_none, line_room, put_line, put_all)

pub ruleset lines_room = (few_cells, room_enough)
