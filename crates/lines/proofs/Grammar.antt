-- The table that is read of a text is the one that the productions give it: field by field, line by line, and lines.
use mathlib.Core.Path.{◌≡◌, refl, sym, ap, subst, ◌∙◌}
use mathlib.Core.Bool.{Bool, true, false, not, ◌||◌, cond}
use mathlib.Core.List.{List, [], ◌∷◌, ◌++◌, append_assoc}
use mathlib.Core.Logic.{◌↔◌, ◌⊎◌, inl, inr}
use mathlib.Core.Option.{some}
use Prim.Native.Nat.{ℕ}
use native.Mathlib.Omega.{arith}
use borrow.Author.Tests.{eqb-true, ne_eqb}
use lib.Dec.{eqb}
use lib.IntN.{ℤ}
use lib.ListN.{length, get_or}
use Rattle.tables.specs.Lists.{same, ◌>>=◌}
use Rattle.tables.specs.Tables.{Cell, Blank, Declined, Present, Row, Table}
use Rattle.tables.proofs.Tabulated.{all_weaker, and_parts}
use Rattle.numerals.specs.Numerals.{is_digit, first_number, numeral_of}
use Rattle.numerals.specs.Claims.{is_numeral_byte}
use Rattle.numerals.proofs.Reading.{whole_first, number_ends_claim}
use Rattle.numerals.proofs.Numerals.{numerals_claim}
use Rattle.lines.specs.Lines.{comma, line_feed, carriage_return, exclamation, declined_field, split, joined, field_read, each, fields_of, line_read, without_return, ended, lines_of, table_read}
use Rattle.lines.specs.Grammar.{IsField, number, empty, declined, IsLine, one_field, more_fields, IsLineEnd, lf, crlf, IsLines, no_line, last_line, ended_line}
use Rattle.lines.specs.Claims.{LineGrammarClaim}
use Rattle.lines.proofs.Split.{lacks, lacks_cons, lacks_append, lacks_told, split_first, split_whole, split_next, split_joined, next_told, each_cons, each_told, each_nil, each_length}

-- ---- a field

differ : true ≡ false → ⊥
differ e = let z : ◌≡◌ {A = ℕ} 0 1 = cc in absurd (omega arith)

-- a lone `!`
lone_is : (t : List ℕ) → same t declined_field ≡ true → t ≡ declined_field
lone_is [] e = absurd (differ (sym e))
lone_is (b ∷ []) e = ap (λ (n : ℕ). n ∷ []) (eqb-true b exclamation (and_parts (eqb b exclamation) true e).0)
lone_is (b ∷ c ∷ bs) e = absurd (differ (sym (and_parts (eqb b exclamation) false e).1))

-- no number is one: each byte of a number is a digit or the minus
number_not_lone : (t : List ℕ) (k : ℤ) → numeral_of t ≡ some k → same t declined_field ≡ false
number_not_lone t k e = go (same t declined_field) refl
  where
    go : (b : Bool) → same t declined_field ≡ b → same t declined_field ≡ false
    go true f = absurd (differ (sym (numerals_claim.read_bytes declined_field k (ap numeral_of (sym (lone_is t f)) ∙ e))))
    go false f = f

-- what a field that is not empty is read as
field_some : (b : ℕ) (bs : List ℕ) (k : ℤ) → numeral_of (b ∷ bs) ≡ some k → field_read (b ∷ bs) ≡ some (Present k)
unfolding field_read
field_some b bs k e = rw (number_not_lone (b ∷ bs) k e, e)

field_told : (t : List ℕ) (x : Cell) → field_read t ≡ some x → IsField t x
unfolding field_read
field_told [] x e = let is : Blank ≡ x = cc in subst (IsField []) is empty
field_told (b ∷ bs) x e = go (same (b ∷ bs) declined_field) refl e
  where
    go : (t : Bool) → same (b ∷ bs) declined_field ≡ t → cond t (some Declined) (numeral_of (b ∷ bs) >>= λ k. some (Present k)) ≡ some x → IsField (b ∷ bs) x
    go true f g = let is : Declined ≡ x = cc in subst (λ (t : List ℕ). IsField t x) (sym (lone_is (b ∷ bs) f)) (subst (IsField declined_field) is declined)
    go false f g =
        let (k, p, q) = next_told (numeral_of (b ∷ bs)) (λ k. some (Present k)) x g in
        let is : Present k ≡ x = cc in
        subst (IsField (b ∷ bs)) is (number ((numerals_claim.exactly (b ∷ bs) k).0 p))

-- a number has a byte
number_read : (t : List ℕ) (k : ℤ) → numeral_of t ≡ some k → field_read t ≡ some (Present k)
number_read [] k e = let h = (numerals_claim.read_length [] k e).0 in absurd (omega arith)
number_read (b ∷ bs) k e = field_some b bs k e

field_is : (t : List ℕ) (x : Cell) → IsField t x → field_read t ≡ some x
unfolding field_read
field_is t x (number {k = k} n) = number_read t k ((numerals_claim.exactly t k).1 n)
field_is t x empty = refl
field_is t x declined = refl

pub field_exactly : (t : List ℕ) (x : Cell) → (field_read t ≡ some x) ↔ IsField t x
field_exactly t x = (field_told t x, field_is t x)

-- the number of a field takes all bytes of it, and so it does where another byte than a digit follows
pub field_number : (t : List ℕ) (k : ℤ) → IsField t (Present k) → numeral_of t ≡ some k
field_number t k (number n) = (numerals_claim.exactly t k).1 n

pub field_first : (t rest : List ℕ) (k : ℤ) → IsField t (Present k) → is_digit (get_or rest 0 0) ≡ false → first_number (t ++ rest) ≡ some (k, length t)
field_first t rest k f h = go t (field_number t k f)
  where
    go : (t : List ℕ) → numeral_of t ≡ some k → first_number (t ++ rest) ≡ some (k, length t)
    go [] e = let l = (numerals_claim.read_length [] k e).0 in absurd (omega arith)
    go (b ∷ bs) e = number_ends_claim b bs rest h ∙ whole_first (b ∷ bs) k e

-- the bytes of fields: those of numbers, and `!`
abbrev pub is_field_byte : ℕ → Bool
is_field_byte b = is_numeral_byte b || eqb b exclamation

pub no_field_byte : (b : ℕ) → is_field_byte b ≡ false → (is_numeral_byte b ≡ false) × (eqb b exclamation ≡ false)
no_field_byte b e = go (is_numeral_byte b) (eqb b exclamation) e
  where
    go : (t u : Bool) → (t || u) ≡ false → (t ≡ false) × (u ≡ false)
    go true u f = absurd (differ f)
    go false u f = (refl, f)

-- each byte of a field is one of those, and so none of the others
pub field_lacks : (at : ℕ) (t : List ℕ) (x : Cell) → is_field_byte at ≡ false → IsField t x → lacks at t ≡ true
field_lacks at t x h empty = refl
field_lacks at t x h declined = lacks_cons at exclamation [] (λ is. differ (ap is_field_byte is ∙ h)) refl
field_lacks at t x h (number {k = k} n) =
    all_weaker is_numeral_byte (λ b. not (eqb b at)) (λ b e. ap not (ne_eqb b at (λ is. differ (sym e ∙ ap is_numeral_byte is ∙ (no_field_byte at h).0)))) t
    (numerals_claim.read_bytes t k ((numerals_claim.exactly t k).1 n))

-- ---- a line

line_joined : (f : List ℕ) (fs : List (List ℕ)) (row : Row) → each field_read (f ∷ fs) ≡ some row → IsLine (joined comma (f ∷ fs)) row
unfolding joined
line_joined f [] row e =
    let (x, xs, p, q, is) = each_told field_read f [] row e in
    subst (IsLine f) (ap (λ (l : Row). x ∷ l) (sym (each_nil field_read xs q)) ∙ is) (one_field (field_told f x p))
line_joined f (g ∷ gs) row e =
    let (x, xs, p, q, is) = each_told field_read f (g ∷ gs) row e in
    subst (IsLine (f ++ (comma ∷ joined comma (g ∷ gs)))) is (more_fields (field_told f x p) (line_joined g gs xs q))

line_told : (t : List ℕ) (row : Row) → line_read t ≡ some row → IsLine t row
unfolding line_read fields_of
line_told t row e =
    let (f, fs, is) = split_first comma t in
    subst (λ (l : List ℕ). IsLine l row) (ap (joined comma) (sym is) ∙ split_joined comma t) (line_joined f fs row (ap (each field_read) (sym is) ∙ e))

-- no byte of a field is a comma, so the first comma of a line ends its first field
line_is : (t : List ℕ) (row : Row) → IsLine t row → line_read t ≡ some row
unfolding line_read fields_of each
line_is t row (one_field {x = x} f) =
    ap (each field_read) (split_whole comma t (field_lacks comma t x refl f)) ∙ each_cons field_read t [] x [] (field_is t x f) refl
line_is t row (more_fields {t = f} {u = u} {x = x} {xs = xs} p l) =
    ap (each field_read) (split_next comma f u (field_lacks comma f x refl p))
    ∙ each_cons field_read f (split comma u) x xs (field_is f x p) (line_is u xs l)

pub line_exactly : (t : List ℕ) (row : Row) → (line_read t ≡ some row) ↔ IsLine t row
line_exactly t row = (line_told t row, line_is t row)

-- each byte of a line is one of a field or a comma
pub line_lacks : (at : ℕ) (t : List ℕ) (row : Row) → is_field_byte at ≡ false → (comma ≡ at → ⊥) → IsLine t row → lacks at t ≡ true
line_lacks at t row h n (one_field {x = x} f) = field_lacks at t x h f
line_lacks at t row h n (more_fields {t = f} {u = u} {x = x} {xs = xs} p l) =
    lacks_append at f (comma ∷ u) (field_lacks at f x h p) (lacks_cons at comma u n (line_lacks at u xs h n l))

-- so neither end of a line stands in it
pub line_without_feed : (t : List ℕ) (row : Row) → IsLine t row → lacks line_feed t ≡ true
line_without_feed t row l = line_lacks line_feed t row refl (λ e. omega arith) l

pub line_without_return : (t : List ℕ) (row : Row) → IsLine t row → lacks carriage_return t ≡ true
line_without_return t row l = line_lacks carriage_return t row refl (λ e. omega arith) l

-- ---- what stands before an LF

pub return_kept : (t : List ℕ) → lacks carriage_return t ≡ true → without_return t ≡ t
unfolding without_return
return_kept [] e = refl
return_kept (b ∷ []) e = rw (without_return, (lacks_told carriage_return b [] e).0)
return_kept (b ∷ c ∷ bs) e = ap (λ (l : List ℕ). b ∷ l) (return_kept (c ∷ bs) (lacks_told carriage_return b (c ∷ bs) e).1)

pub return_dropped : (t : List ℕ) → without_return (t ++ (carriage_return ∷ [])) ≡ t
unfolding without_return
return_dropped [] = refl
return_dropped (b ∷ []) = refl
return_dropped (b ∷ c ∷ bs) = ap (λ (l : List ℕ). b ∷ l) (return_dropped (c ∷ bs))

-- it is a line, or a line and a CR
return_told : (t : List ℕ) → (t ≡ without_return t) ⊎ (t ≡ without_return t ++ (carriage_return ∷ []))
unfolding without_return
return_told [] = inl refl
return_told (b ∷ []) = go (eqb b carriage_return) refl
  where
    kept : Bool → List ℕ
    kept t = elim t [ true ↦ [] | false ↦ b ∷ [] ]

    go : (t : Bool) → eqb b carriage_return ≡ t → (b ∷ [] ≡ kept t) ⊎ (b ∷ [] ≡ kept t ++ (carriage_return ∷ []))
    go true e = inr (ap (λ (n : ℕ). n ∷ []) (eqb-true b carriage_return e))
    go false e = inl refl
return_told (b ∷ c ∷ bs) = go (return_told (c ∷ bs))
  where
    go : (c ∷ bs ≡ without_return (c ∷ bs)) ⊎ (c ∷ bs ≡ without_return (c ∷ bs) ++ (carriage_return ∷ []))
        → (b ∷ c ∷ bs ≡ b ∷ without_return (c ∷ bs)) ⊎ (b ∷ c ∷ bs ≡ b ∷ (without_return (c ∷ bs) ++ (carriage_return ∷ [])))
    go (inl e) = inl (ap (λ (l : List ℕ). b ∷ l) e)
    go (inr e) = inr (ap (λ (l : List ℕ). b ∷ l) e)

-- ---- lines

-- a piece and the LF behind it are a line and its end
piece_ended : (piece line u : List ℕ) (row : Row) (rows : Table) → (piece ≡ line) ⊎ (piece ≡ line ++ (carriage_return ∷ [])) → IsLine line row → IsLines u rows
    → IsLines (piece ++ (line_feed ∷ u)) (row ∷ rows)
piece_ended piece line u row rows (inl e) l r = subst (λ (p : List ℕ). IsLines (p ++ (line_feed ∷ u)) (row ∷ rows)) (sym e) (ended_line l lf r)
piece_ended piece line u row rows (inr e) l r =
    subst (λ (t : List ℕ). IsLines t (row ∷ rows)) (sym (ap (λ (p : List ℕ). p ++ (line_feed ∷ u)) e ∙ append_assoc line (carriage_return ∷ []) (line_feed ∷ u)))
    (ended_line l crlf r)

lines_joined : (piece : List ℕ) (pieces : List (List ℕ)) (rows : Table) → each line_read (ended (piece ∷ pieces)) ≡ some rows
    → IsLines (joined line_feed (piece ∷ pieces)) rows
unfolding joined ended
lines_joined [] [] rows e = subst (IsLines []) (sym (each_nil line_read rows e)) no_line
lines_joined (b ∷ bs) [] rows e =
    let (row, none', p, q, is) = each_told line_read (b ∷ bs) [] rows e in
    subst (IsLines (b ∷ bs)) (ap (λ (l : Table). row ∷ l) (sym (each_nil line_read none' q)) ∙ is) (last_line (line_told (b ∷ bs) row p))
lines_joined piece (next ∷ pieces) rows e =
    let (row, rest, p, q, is) = each_told line_read (without_return piece) (ended (next ∷ pieces)) rows e in
    subst (IsLines (piece ++ (line_feed ∷ joined line_feed (next ∷ pieces)))) is
    (piece_ended piece (without_return piece) _ row rest (return_told piece) (line_told (without_return piece) row p) (lines_joined next pieces rest q))

lines_told : (text : List ℕ) (rows : Table) → table_read text ≡ some rows → IsLines text rows
unfolding table_read lines_of
lines_told text rows e =
    let (piece, pieces, is) = split_first line_feed text in
    subst (λ (t : List ℕ). IsLines t rows) (ap (joined line_feed) (sym is) ∙ split_joined line_feed text)
    (lines_joined piece pieces rows (ap (λ (l : List (List ℕ)). each line_read (ended l)) (sym is) ∙ e))

-- the lines of a text that begins with a piece and an LF
pub lines_next : (piece u : List ℕ) → lacks line_feed piece ≡ true → lines_of (piece ++ (line_feed ∷ u)) ≡ without_return piece ∷ lines_of u
unfolding lines_of ended
lines_next piece u e =
    let (first, rest, is) = split_first line_feed u in
    ap ended (split_next line_feed piece u e ∙ ap (λ (l : List (List ℕ)). piece ∷ l) is) ∙ ap (λ (l : List (List ℕ)). without_return piece ∷ ended l) (sym is)

-- of a last line without an end, and of nothing
pub lines_last : (b : ℕ) (t : List ℕ) → lacks line_feed (b ∷ t) ≡ true → lines_of (b ∷ t) ≡ (b ∷ t) ∷ []
unfolding lines_of ended
lines_last b t e = ap ended (split_whole line_feed (b ∷ t) e)

pub lines_none : lines_of [] ≡ []
unfolding lines_of ended split
lines_none = refl

-- of a line and its end
pub lines_ended : (t e u : List ℕ) (row : Row) → IsLine t row → IsLineEnd e → lines_of (t ++ (e ++ u)) ≡ t ∷ lines_of u
lines_ended t e u row l lf =
    lines_next t u (line_without_feed t row l) ∙ ap (λ (p : List ℕ). p ∷ lines_of u) (return_kept t (line_without_return t row l))
lines_ended t e u row l crlf =
    ap lines_of (sym (append_assoc t (carriage_return ∷ []) (line_feed ∷ u)))
    ∙ lines_next (t ++ (carriage_return ∷ [])) u
    (lacks_append line_feed t (carriage_return ∷ []) (line_without_feed t row l) refl)
    ∙ ap (λ (p : List ℕ). p ∷ lines_of u) (return_dropped t)

lines_are : (text : List ℕ) (rows : Table) → IsLines text rows → table_read text ≡ some rows
unfolding table_read each
lines_are text rows no_line = ap (each line_read) lines_none
lines_are text rows (last_line {b = b} {t = t} {row = row} l) =
    ap (each line_read) (lines_last b t (line_without_feed (b ∷ t) row l)) ∙ each_cons line_read (b ∷ t) [] row [] (line_is (b ∷ t) row l) refl
lines_are text rows (ended_line {t = t} {e = e} {u = u} {row = row} {rows = rest} l end r) =
    ap (each line_read) (lines_ended t e u row l end) ∙ each_cons line_read t (lines_of u) row rest (line_is t row l) (lines_are u rest r)

pub line_grammar_claim : LineGrammarClaim
unfolding table_read
line_grammar_claim = record {
  exactly = λ text rows. (lines_told text rows, lines_are text rows);
  once = λ text rows others p q. let a = lines_are text rows p in let b = lines_are text others q in cc;
  counted = λ text rows p. sym (each_length line_read (lines_of text) rows (lines_are text rows p));
}
