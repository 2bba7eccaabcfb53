-- A line, measured and written field by field.
use mathlib.Core.Path.{◌≡◌, refl, sym, ap, ◌∙◌}
use mathlib.Core.List.{List, [], ◌∷◌, ◌++◌, append_assoc, append-nil}
use Prim.Native.Nat.{ℕ, suc, ◌+◌, ◌<◌, ◌≤◌}
use native.Mathlib.Numerals.{add-one}
use native.Mathlib.Omega.{arith}
use lib.ListN.{length, get_or, take, set, length-append}
use lib.Seq.{take_all}
use Rattle.tables.specs.Lists.{placed}
use Rattle.tables.specs.Tables.{Cell, Blank, Row}
use Rattle.tables.proofs.Placed.{placed_length, placed_none, placed_next, set_next}
use Rattle.lines.specs.Lines.{comma, line_feed, field_text, line_text}
use Rattle.lines.specs.Claims.{field_room, line_room}
use Rattle.exporter.proofs.Cells.{columns_in, row_long, cell_inside, cell_is}
use Rattle.lines.proofs.Written.{field_short, fields_text, fields_first, fields_next, line_long, room_front, room_next}

-- ---- measured

module _ (row : Row) (n k : ℕ) (is : n ≡ line_room (take k row)) where
  pub measured_more : (x : Cell) (n' : ℕ) → k < length row → x ≡ get_or row k Blank → n' ≡ n + field_room x → n' ≡ line_room (take (k + 1) row)
  measured_more x n' h e f = rw (add-one k) (omega (arith, room_next row k h, ap field_room e))

  pub measured_all : 1 ≤ length row → length row ≤ k → n ≡ length (line_text row)
  measured_all l h = is ∙ ap line_room (take_all k row h) ∙ sym (line_long row l)

-- ---- written from place i on

-- the first k fields: behind the first of them, which ends at next₀, what comes behind it
pub record Begun (row : Row) (i : ℕ) (out₀ : List ℕ) (next₀ k : ℕ) (out : List ℕ) (next : ℕ) : Type 0 where
  pub room : i + line_room row ≤ length out₀
  pub one : 1 ≤ k
  pub few : k ≤ length row
  pub place : next + 1 ≡ i + line_room (take k row)
  pub behind : List ℕ
  pub whole : fields_text (take k row) ≡ field_text (get_or row 0 Blank) ++ behind
  pub ends : next ≡ next₀ + length behind
  pub is : out ≡ placed out₀ next₀ behind
  pub size : length out ≡ length out₀

-- the first field fits, and then a comma or the LF
pub first_room : (row : Row) (x : Cell) → 1 ≤ length row → x ≡ get_or row 0 Blank → field_room x ≤ length (line_text row)
first_room row x l e = omega (arith, ap field_room e, room_next row 0 l, room_front 1 row, line_long row l)

pub begun_first : (row : Row) (i : ℕ) (before out : List ℕ) (next : ℕ) (x : Cell) → 1 ≤ length row → x ≡ get_or row 0 Blank
    → i + length (line_text row) ≤ length before → out ≡ placed before i (field_text x) → next ≡ i + length (field_text x) → Begun row i out next 1 out next
begun_first row i before out next x l e h p q =
    let size = ap length p ∙ placed_length before i (field_text x) (omega (arith, first_room row x l e)) in
    record {
      room = omega (arith, line_long row l);
      one = omega arith;
      few = l;
      place = omega (arith, ap field_room e, room_next row 0 l);
      behind = [];
      whole = fields_first row l ∙ sym (append-nil (field_text (get_or row 0 Blank)));
      ends = omega arith;
      is = sym (placed_none out next);
      size = refl;
    }

module _ {row : Row} {i : ℕ} {out₀ : List ℕ} {next₀ k : ℕ} {out : List ℕ} {next : ℕ} (b : Begun row i out₀ next₀ k out next) where
  -- a comma or the LF fits
  pub begun_within : next < length out
  begun_within = omega (arith, room_front k row, b.place, b.room, b.size)

  -- and a field behind the comma
  pub begun_room : (x : Cell) → k < length row → x ≡ get_or row k Blank → next + 1 + length (field_text x) < length out
  begun_room x h e = omega (arith, ap field_room e, room_next row k h, room_front (suc k) row, b.place, b.room, b.size)

  byte_more : (x : ℕ) → set out next x ≡ placed out₀ next₀ (b.behind ++ (x ∷ []))
  byte_more x =
      ap (λ (o : List ℕ). set o next x) b.is
      ∙ set_next out₀ next₀ b.behind next x (omega (arith, begun_within, b.ends, b.size)) b.ends

  pub begun_more : (x : Cell) (out' : List ℕ) (next' : ℕ) → k < length row → x ≡ get_or row k Blank
      → out' ≡ placed (set out next comma) (next + 1) (field_text x) → next' ≡ next + 1 + length (field_text x) → Begun row i out₀ next₀ (k + 1) out' next'
  begun_more x out' next' h e p q =
      let text = field_text x in
      let first = field_text (get_or row 0 Blank) in
      let behind = (b.behind ++ (comma ∷ [])) ++ text in
      let m = length-append b.behind (comma ∷ []) in
      let n = length-append (b.behind ++ (comma ∷ [])) text in
      let fits = begun_room x h e in
      let ends = b.ends in
      let size = b.size in
      let is : out' ≡ placed out₀ next₀ behind =
      p
      ∙ ap (λ (o : List ℕ). placed o (next + 1) text) (byte_more comma)
      ∙ placed_next out₀ next₀ (b.behind ++ (comma ∷ [])) (next + 1) text (omega arith) (omega arith) in
      record {
        room = b.room;
        one = omega arith;
        few = omega arith;
        place = rw (add-one k) (omega (arith, ap field_room e, room_next row k h, b.place));
        behind = behind;
        whole =
            rw (add-one k)
            (fields_next row k b.one h
            ∙ ap (λ (y : Cell). fields_text (take k row) ++ (comma ∷ field_text y)) (sym e)
            ∙ ap (λ (t : List ℕ). t ++ (comma ∷ text)) b.whole
            ∙ append_assoc first b.behind (comma ∷ text)
            ∙ ap (λ (t : List ℕ). first ++ t) (sym (append_assoc b.behind (comma ∷ []) text)));
        ends = omega arith;
        is = is;
        size = ap length is ∙ placed_length out₀ next₀ behind (omega arith);
      }

  pub begun_all : (before : List ℕ) (x : Cell) → length row ≤ k → x ≡ get_or row 0 Blank → i ≤ length before → out₀ ≡ placed before i (field_text x)
      → next₀ ≡ i + length (field_text x) → (set out next line_feed ≡ placed before i (line_text row)) × (next + 1 ≡ i + length (line_text row))
  unfolding line_text
  begun_all before x h e l p q =
      let all-fields = take_all k row h in
      let first = field_text x in
      let one = b.one in
      let few = b.few in (
        byte_more line_feed
            ∙ ap (λ (o : List ℕ). placed o next₀ (b.behind ++ (line_feed ∷ []))) p
            ∙ placed_next before i first next₀ (b.behind ++ (line_feed ∷ [])) l q
            ∙ ap (placed before i)
            (sym (append_assoc first b.behind (line_feed ∷ []))
            ∙ ap (λ (t : List ℕ). t ++ (line_feed ∷ [])) (ap (λ (y : Cell). field_text y ++ b.behind) e ∙ sym b.whole ∙ ap fields_text all-fields)),
        omega (arith, b.place, ap line_room all-fields, line_long row (omega arith)),
      )

-- what a row's measuring and its writing rest on
pub ruleset row_measured = (columns_in, row_long, cell_inside, cell_is, field_short, measured_more, measured_all)

pub ruleset row_put = (columns_in, row_long, cell_inside, cell_is, first_room, begun_first, begun_within, begun_room, begun_more, begun_all)
