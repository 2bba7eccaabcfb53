-- A line that is read from the left, where the number of its fields is known, is a line of the grammar with its end; and each such line is read so.
use mathlib.Core.Path.{◌≡◌, refl, sym, ap, ap₂, subst, ◌∙◌}
use mathlib.Core.Bool.{Bool, true, false, cond, ◌||◌}
use mathlib.Core.List.{List, [], ◌∷◌, ◌++◌, append_assoc}
use mathlib.Core.Option.{Option, none, some}
use Prim.Native.Nat.{ℕ, zero, suc, ◌+◌, ◌≤◌}
use native.Mathlib.Omega.{arith}
use borrow.Author.Tests.{eqb-true}
use lib.Dec.{eqb}
use lib.IntN.{ℤ, pos}
use lib.ListN.{length, take, drop, get_or, length-append, take-append-drop}
use lib.Seq.{length-take-le, drop-append_seam, drop-append-add, drop-drop}
use Rattle.tables.specs.Lists.{only}
use Rattle.tables.specs.Tables.{Cell, Blank, Declined, Present, Row}
use Rattle.numerals.specs.Numerals.{is_digit, minus, number_of, first_number}
use Rattle.numerals.specs.Claims.{is_numeral_byte}
use Rattle.numerals.proofs.Runs.{run_nil}
use Rattle.numerals.proofs.Reading.{first_other, first_told, first_whole, number_ends_claim, exactly}
use Rattle.lines.specs.Lines.{comma, line_feed, carriage_return, exclamation}
use Rattle.lines.specs.Grammar.{IsField, number, empty, declined, IsLine, one_field, more_fields, IsLineEnd, lf, crlf}
use Rattle.lines.proofs.Grammar.{field_first, is_field_byte, no_field_byte}
use Rattle.importer.specs.Code.{lone_cell, other_cell, number_cell, field_from, feed_from, end_from, comma_from, behind_from, line_from}
use Rattle.importer.proofs.Behind.{end_feed, end_return, feed_there}
use Rattle.importer.proofs.Reading.{continued, line_step, line_bad}

-- ---- what may stand behind a field

-- a text begins with no byte of a field; an empty one does not
abbrev pub Parted : List ℕ → Type 0
Parted text = is_field_byte (get_or text 0 0) ≡ false

-- the end of a line and what stands behind it: nothing behind the last line without an end
pub data Closes : List ℕ → List ℕ → Type 0 where
  by_end : {e u : List ℕ} → IsLineEnd e → Closes e u
  by_nothing : Closes [] []

pub record EndTold (text : List ℕ) (n : ℕ) : Type 0 where
  pub end : List ℕ
  pub rest : List ℕ
  pub is : text ≡ end ++ rest
  pub size : n ≡ length end
  pub closes : Closes end rest
  pub parted : Parted text

feed_told : (text : List ℕ) (n : ℕ) → feed_from text ≡ some n → (rest : List ℕ) × (text ≡ line_feed ∷ rest) × (n ≡ 2)
unfolding feed_from
feed_told [] n e = let z : ◌≡◌ {A = ℕ} 0 1 = cc in absurd (omega arith)
feed_told (b ∷ bs) n e = go (eqb b line_feed) refl e
  where
    go : (t : Bool) → eqb b line_feed ≡ t → only t 2 ≡ some n → (rest : List ℕ) × (b ∷ bs ≡ line_feed ∷ rest) × (n ≡ 2)
    go true h f = let z : n ≡ 2 = cc in (bs, ap (λ (x : ℕ). x ∷ bs) (eqb-true b line_feed h), z)
    go false h f = let z : ◌≡◌ {A = ℕ} 0 1 = cc in absurd (omega arith)

end_told : (text : List ℕ) (n : ℕ) → end_from text ≡ some n → EndTold text n
unfolding end_from
end_told [] n e = let z : n ≡ 0 = cc in record { end = []; rest = []; is = refl; size = z; closes = by_nothing; parted = refl }
end_told (b ∷ bs) n e = go (eqb b line_feed) refl (eqb b carriage_return) refl e
  where
    go : (t : Bool) → eqb b line_feed ≡ t → (u : Bool) → eqb b carriage_return ≡ u → cond t (some 1) (cond u (feed_from bs) none) ≡ some n → EndTold (b ∷ bs) n
    go true h u g f =
        let z : n ≡ 1 = cc in
        let is = eqb-true b line_feed h in
        record { end = line_feed ∷ []; rest = bs; is = ap (λ (x : ℕ). x ∷ bs) is; size = z; closes = by_end lf; parted = ap is_field_byte is }
    go false h true g f =
        let (rest, next, z) = feed_told bs n f in
        let is = eqb-true b carriage_return g in
        record { end = carriage_return ∷ line_feed ∷ []; rest = rest; is = ap₂ ◌∷◌ is next; size = z; closes = by_end crlf; parted = ap is_field_byte is }
    go false h false g f = let z : ◌≡◌ {A = ℕ} 0 1 = cc in absurd (omega arith)

comma_told : (text : List ℕ) (n : ℕ) → comma_from text ≡ some n → (text ≡ comma ∷ drop 1 text) × (n ≡ 1) × Parted text
unfolding comma_from
comma_told [] n e = let z : ◌≡◌ {A = ℕ} 0 1 = cc in absurd (omega arith)
comma_told (b ∷ bs) n e = go (eqb b comma) refl e
  where
    go : (t : Bool) → eqb b comma ≡ t → only t 1 ≡ some n → (b ∷ bs ≡ comma ∷ bs) × (n ≡ 1) × Parted (b ∷ bs)
    go true h f = let z : n ≡ 1 = cc in let is = eqb-true b comma h in (ap (λ (x : ℕ). x ∷ bs) is, z, ap is_field_byte is)
    go false h f = let z : ◌≡◌ {A = ℕ} 0 1 = cc in absurd (omega arith)

-- and the other way round
end_is : (e u : List ℕ) → Closes e u → (end_from (e ++ u) ≡ some (length e)) × Parted (e ++ u)
unfolding end_from
end_is e u (by_end lf) = (end_feed line_feed u refl, refl)
end_is e u (by_end crlf) = (end_return carriage_return (line_feed ∷ u) refl ∙ feed_there line_feed u refl, refl)
end_is e u by_nothing = (refl, refl)

-- ---- a field

no_digit : (b : ℕ) → is_numeral_byte b ≡ false → is_digit b ≡ false
no_digit b e = go (is_digit b) (eqb b minus) e
  where
    go : (t u : Bool) → (t || u) ≡ false → t ≡ false
    go true u f = f
    go false u f = refl

no_minus : (b : ℕ) → is_numeral_byte b ≡ false → b ≡ minus → ⊥
no_minus b e h = let z : true ≡ false = sym (ap is_numeral_byte h) ∙ e in let y : ◌≡◌ {A = ℕ} 0 1 = cc in absurd (omega arith)

-- what stands before a byte that is none of a field's is a field, if a line goes on there
pub field_sound : (text : List ℕ) → Parted (drop (field_from text).1 text) → IsField (take (field_from text).1 text) (field_from text).0
unfolding field_from
field_sound text h = go (first_number text) refl h
  where
    whole : (w rest : List ℕ) (k : ℤ) (n : ℕ) → is_digit (get_or rest 0 0) ≡ false → first_number (w ++ rest) ≡ some (k, n) → n ≡ length w → 1 ≤ n → IsField w (Present k)
    whole [] rest k n d f l s = absurd (omega arith)
    whole (b ∷ bs) rest k n d f l s =
        number ((exactly (b ∷ bs) k).0 (first_whole (b ∷ bs) k (sym (number_ends_claim b bs rest d) ∙ f ∙ ap (λ (m : ℕ). some (k, m)) l)))

    other : (t : List ℕ) → IsField (take (other_cell t).1 t) (other_cell t).0
    other [] = empty
    other (b ∷ bs) = lone (eqb b exclamation) refl
      where
        lone : (u : Bool) → eqb b exclamation ≡ u → IsField (take (lone_cell u).1 (b ∷ bs)) (lone_cell u).0
        lone true f = subst (λ (c : ℕ). IsField (c ∷ []) Declined) (sym (eqb-true b exclamation f)) declined
        lone false f = empty

    go : (o : Option (ℤ × ℕ)) → first_number text ≡ o → Parted (drop (number_cell (other_cell text) o).1 text)
        → IsField (take (number_cell (other_cell text) o).1 text) (number_cell (other_cell text) o).0
    go none e p = other text
    go (some x) e p =
        let told = first_told text x.0 x.1 e in
        whole (take x.1 text) (drop x.1 text) x.0 x.1 (no_digit (get_or (drop x.1 text) 0 0) (no_field_byte (get_or (drop x.1 text) 0 0) p).0) (ap first_number (take-append-drop x.1 text) ∙ e)
        (sym (length-take-le x.1 text told.within)) told.some_byte

first_missing : (text : List ℕ) → is_numeral_byte (get_or text 0 0) ≡ false → first_number text ≡ none
unfolding first_number number_of
first_missing [] p = refl
first_missing (b ∷ bs) p = first_other b bs (no_minus b p) ∙ ap (number_of pos 0) (run_nil is_digit b bs (no_digit b p))

other_missing : (text : List ℕ) → Parted text → other_cell text ≡ (Blank, 0)
other_missing [] p = refl
other_missing (b ∷ bs) p = rw (no_field_byte b p).1

-- and each field before such a byte is found
pub field_complete : (t rest : List ℕ) (x : Cell) → IsField t x → Parted rest → field_from (t ++ rest) ≡ (x, length t)
unfolding field_from
field_complete t rest x empty p = ap₂ number_cell (other_missing rest p) (first_missing rest (no_field_byte (get_or rest 0 0) p).0)
field_complete t rest x declined p = ap (number_cell (other_cell (exclamation ∷ rest))) (first_missing (exclamation ∷ rest) refl)
field_complete t rest x (number {k = k} n) p = ap (number_cell (other_cell (t ++ rest))) (field_first t rest k (number n) (no_digit (get_or rest 0 0) (no_field_byte (get_or rest 0 0) p).0))

-- ---- a line

-- a line of so many fields, and its end, stand at the start of a text
pub record LineAt (text : List ℕ) (fields : ℕ) (row : Row) (n : ℕ) : Type 0 where
  pub line : List ℕ
  pub end : List ℕ
  pub rest : List ℕ
  pub is : text ≡ line ++ (end ++ rest)
  pub size : n ≡ length line + length end
  pub fields_are : IsLine line row
  pub count : length row ≡ fields
  pub closes : Closes end rest

-- the cell and what remains
continued_told : (x : Cell) (m : ℕ) (o : Option (Row × ℕ)) (row : Row) (n : ℕ) → continued (x ∷ []) m o ≡ some (row, n)
    → (r : Row × ℕ) × (o ≡ some r) × (row ≡ x ∷ r.0) × (n ≡ m + r.1)
continued_told x m none row n e = let z : ◌≡◌ {A = ℕ} 0 1 = cc in absurd (omega arith)
continued_told x m (some r) row n e =
    let z : ◌≡◌ {A = Row × ℕ} (x ∷ r.0, m + r.1) (row, n) = cc in (r, refl, ap (λ (y : Row × ℕ). y.0) (sym z), ap (λ (y : Row × ℕ). y.1) (sym z))

some_none : {A : Type 0} (o : Option A) (x : A) → o ≡ none → o ≡ some x → ⊥
some_none o x e f = let z : ◌≡◌ {A = ℕ} 0 1 = absurd_path (sym e ∙ f) in absurd (omega arith)
  where
    absurd_path : none ≡ some x → ◌≡◌ {A = ℕ} 0 1
    absurd_path g = cc

module _ (text : List ℕ) where
  abbrev m : ℕ
  m = (field_from text).1

  field_within : m ≤ length text
  unfolding field_from
  field_within = go (first_number text) refl
    where
      other : (t : List ℕ) → (other_cell t).1 ≤ length t
      other [] = omega arith
      other (b ∷ bs) = lone (eqb b exclamation)
        where
          lone : (u : Bool) → (lone_cell u).1 ≤ length (b ∷ bs)
          lone true = omega arith
          lone false = omega arith

      go : (o : Option (ℤ × ℕ)) → first_number text ≡ o → (number_cell (other_cell text) o).1 ≤ length text
      go none e = other text
      go (some x) e = (first_told text x.0 x.1 e).within

  field_length : length (take m text) ≡ m
  field_length = length-take-le m text field_within

  -- the last field of a line
  last_field : (k : ℕ) (row : Row) (n : ℕ) → end_from (drop m text) ≡ some k → (row ≡ (field_from text).0 ∷ []) → (n ≡ m + k + 0) → LineAt text 1 row n
  last_field k row n e is size =
      let told = end_told (drop m text) k e in
      let long = told.size in
      let front = field_length in
      record {
        line = take m text;
        end = told.end;
        rest = told.rest;
        is = sym (take-append-drop m text) ∙ ap (λ (l : List ℕ). take m text ++ l) told.is;
        size = omega arith;
        fields_are = subst (IsLine (take m text)) (sym is) (one_field (field_sound text told.parted));
        count = ap length is;
        closes = told.closes;
      }

  -- a field, and the others behind a comma
  first_field : (k fields : ℕ) (row : Row) (n : ℕ) → comma_from (drop m text) ≡ some k → (r : Row × ℕ) → row ≡ (field_from text).0 ∷ r.0 → n ≡ m + k + r.1
      → LineAt (drop (m + k) text) fields r.0 r.1 → LineAt text (suc fields) row n
  first_field k fields row n e r is size others =
      let (begins, one, parted) = comma_told (drop m text) k e in
      let next : drop 1 (drop m text) ≡ others.line ++ (others.end ++ others.rest) =
      drop-drop 1 m text ∙ ap (λ (j : ℕ). drop (m + j) text) (sym one) ∙ others.is in
      let long = others.size in
      let front = field_length in
      let count = others.count in
      record {
        line = take m text ++ (comma ∷ others.line);
        end = others.end;
        rest = others.rest;
        is =
            sym (take-append-drop m text)
            ∙ ap (λ (l : List ℕ). take m text ++ l) (begins ∙ ap (λ (l : List ℕ). comma ∷ l) next)
            ∙ sym (append_assoc (take m text) (comma ∷ others.line) (others.end ++ others.rest));
        size = omega (arith, length-append (take m text) (comma ∷ others.line));
        fields_are = subst (IsLine (take m text ++ (comma ∷ others.line))) (sym is) (more_fields (field_sound text parted) others.fields_are);
        count = omega (arith, ap length is);
        closes = others.closes;
      }

nothing_left : (text : List ℕ) (r : Row × ℕ) → line_from 0 text ≡ some r → ◌≡◌ {A = Row × ℕ} ([], 0) r
unfolding line_from
nothing_left text r e = cc

pub line_sound : (left : ℕ) (text : List ℕ) (row : Row) (n : ℕ) → line_from (suc left) text ≡ some (row, n) → LineAt text (suc left) row n
unfolding behind_from
line_sound zero text row n e = go (end_from (drop (m text) text)) refl
  where
    go : (o : Option ℕ) → end_from (drop (m text) text) ≡ o → LineAt text 1 row n
    go none f = absurd (some_none _ _ (line_bad text 0 f) e)
    go (some k) f =
        let (r, p, is, size) = continued_told (field_from text).0 (m text + k) (line_from 0 (drop (m text + k) text)) row n (sym (line_step text 0 k f) ∙ e) in
        let left = nothing_left (drop (m text + k) text) r p in
        last_field text k row n f (is ∙ ap (λ (y : Row × ℕ). (field_from text).0 ∷ y.0) (sym left)) (size ∙ ap (λ (y : Row × ℕ). m text + k + y.1) (sym left))
line_sound (suc left) text row n e = go (λ others r p. line_sound left others r.0 r.1 p) (comma_from (drop (m text) text)) refl
  where
    go : ((others : List ℕ) (r : Row × ℕ) → line_from (suc left) others ≡ some r → LineAt others (suc left) r.0 r.1) → (o : Option ℕ)
        → comma_from (drop (m text) text) ≡ o → LineAt text (suc (suc left)) row n
    go others none f = absurd (some_none _ _ (line_bad text (suc left) f) e)
    go others (some k) f =
        let (r, p, is, size) = continued_told (field_from text).0 (m text + k) (line_from (suc left) (drop (m text + k) text)) row n (sym (line_step text (suc left) k f) ∙ e) in
        first_field text k (suc left) row n f r is size (others (drop (m text + k) text) r p)

-- a line has a field, and no more fields than bytes and one
pub line_some : (t : List ℕ) (row : Row) → IsLine t row → (1 ≤ length row) × (length row ≤ length t + 1)
line_some t row (one_field f) = (omega arith, omega arith)
line_some t row (more_fields {t = f} {u = u} {xs = xs} p l) = let rest = line_some u xs l in (omega arith, omega (arith, length-append f (comma ∷ u)))

comma_is : (rest : List ℕ) → comma_from (comma ∷ rest) ≡ some 1
unfolding comma_from
comma_is rest = refl

-- each line of so many fields is read so
pub line_complete : (left : ℕ) (line end rest : List ℕ) (row : Row) → IsLine line row → length row ≡ suc left → Closes end rest
    → line_from (suc left) (line ++ (end ++ rest)) ≡ some (row, length line + length end)
unfolding behind_from line_from
line_complete zero line end rest row (one_field {x = x} f) n c =
    let (e, p) = end_is end rest c in
    let found = field_complete line (end ++ rest) x f p in
    let behind : drop (field_from (line ++ (end ++ rest))).1 (line ++ (end ++ rest)) ≡ end ++ rest =
    ap (λ (y : Cell × ℕ). drop y.1 (line ++ (end ++ rest))) found ∙ drop-append_seam line (end ++ rest) in
    let z : length line + length end + 0 ≡ length line + length end = omega arith in
    line_step (line ++ (end ++ rest)) 0 (length end) (ap end_from behind ∙ e)
    ∙ ap (λ (y : Cell × ℕ). some (y.0 ∷ [], y.1 + length end + 0)) found
    ∙ ap (λ (j : ℕ). some (x ∷ [], j)) z
line_complete zero line end rest row (more_fields {u = u} {xs = xs} f l) n c = let some = line_some u xs l in absurd (omega arith)
line_complete (suc left) line end rest row (one_field f) n c = absurd (omega arith)
line_complete (suc left) line end rest row (more_fields {t = t} {u = u} {x = x} {xs = xs} f l) n c =
    let others = u ++ (end ++ rest) in
    let is : line ++ (end ++ rest) ≡ t ++ (comma ∷ others) = append_assoc t (comma ∷ u) (end ++ rest) in
    let found = field_complete t (comma ∷ others) x f refl in
    let behind : drop (field_from (t ++ (comma ∷ others))).1 (t ++ (comma ∷ others)) ≡ comma ∷ others =
    ap (λ (y : Cell × ℕ). drop y.1 (t ++ (comma ∷ others))) found ∙ drop-append_seam t (comma ∷ others) in
    let step = line_step (t ++ (comma ∷ others)) (suc left) 1 (ap comma_from behind ∙ comma_is others) in
    let place : drop (length t + 1) (t ++ (comma ∷ others)) ≡ others = drop-append-add t (comma ∷ others) 1 in
    let z : length t + 1 + (length u + length end) ≡ length line + length end = omega (arith, length-append t (comma ∷ u)) in
    ap (line_from (suc (suc left))) is
    ∙ step
    ∙ ap (λ (y : Cell × ℕ). continued (y.0 ∷ []) (y.1 + 1) (line_from (suc left) (drop (y.1 + 1) (t ++ (comma ∷ others))))) found
    ∙ ap (λ (w : List ℕ). continued (x ∷ []) (length t + 1) (line_from (suc left) w)) place
    ∙ ap (continued (x ∷ []) (length t + 1)) (line_complete left u end rest xs l (omega arith) c)
    ∙ ap (λ (j : ℕ). some (x ∷ xs, j)) z
