-- The bytes of a card read back as the card, so what is sound passes the test.
use mathlib.Core.Path.{◌≡◌, refl, sym, ap, ap₂, fun_ext, ◌∙◌}
use mathlib.Core.Bool.{Bool, true, ◌&&◌}
use mathlib.Core.List.{List, [], ◌∷◌, ◌++◌, append-nil}
use mathlib.Core.Option.{some}
use Prim.Native.Nat.{ℕ, zero, suc, ◌+◌, ◌≤◌, ◌<◌}
use native.Mathlib.Nat.{zero-add}
use native.Mathlib.Omega.{arith}
use borrow.Author.Tests.{eq-eqb, ne_eqb}
use lib.Dec.{T, leb, ltb, eqb, leb→le, ltb→lt, eqb_refl}
use lib.Ieee.Fits.{and_i}
use lib.ListN.{length, get_or, drop, length-append}
use Rattle.tables.specs.Lists.{tabulate, numbered, all, only, ◌>>=◌}
use Rattle.tables.specs.Bytes.{between, byte_at, word32, bytes32, bits, in_range}
use Rattle.tables.specs.Tables.{most_tables, most_columns}
use Rattle.tables.specs.Values.{most_entries, constant_tag, judged_levels, unused_value, comparison_number, value_fits}
use Rattle.tables.specs.declared.Value.{Value}
use Rattle.tables.specs.declared.Value.TheVariants.{Constant, Column}
use Rattle.tables.specs.declared.Comparison.{Comparison}
use Rattle.tables.specs.declared.Comparison.TheVariants.{Eq, Ne, Lt, Le, Gt, Ge}
use Rattle.tables.specs.declared.Connective.TheVariants.{And, Or}
use Rattle.tables.specs.declared.Quantifier.TheVariants.{Some, All}
use Rattle.tables.specs.declared.MarkTest.TheVariants.{Null, NotNull, IsDeclined, NotDeclined}
use Rattle.card.specs.Card.{most_row_entries, Card, LeafEntry, PairEntry, RowEntry, entries, leaf_fits, row_entry_fits, card_fits}
use Rattle.card.specs.declared.Leaf.{Leaf}
use Rattle.card.specs.declared.Leaf.TheVariants.{CompareLeaf, MarkLeaf}
use Rattle.card.specs.declared.Interpretation.TheVariants.{AsNo, AsYes}
use Rattle.card.specs.Layout.{record_size, value_size, left_place, right_place, kind_number, kind_with, uses, kind_of, value_bytes, record_bytes, card_bytes, value_of, value_from, zeros, record_fits, head_in, head_from, inside, entry_from, card_from}
use Rattle.card.specs.declared.Kind.{Kind}
use Rattle.card.specs.declared.Kind.TheVariants.{PairKind, RowKind, ComparisonKind, MarkKind}
use Rattle.card.specs.declared.Head.{Head}
use Rattle.card.specs.declared.Head.TheVariants.{LeafHead, PairHead, RowHead}
use Rattle.card.specs.Sound.{columns_fit, laid, sound, Sound}
use Rattle.tables.proofs.Values.{comparison_back}
use Rattle.tables.proofs.Tests.{is_true, both, bounds}
use Rattle.tables.proofs.Bytes.{from16, from32, bits_small, signed_bits}
use Rattle.card.proofs.Places.{at, at0, skip_to}
use Rattle.card.proofs.Walk.{value_length, card_length_lem, head_of, Stands, kind_there, record_there, stands_row, stands_left, stands_right, tables_back, columns_back, count_back, card_stands}

-- ---- one entry

comparison_known : (op : Comparison) → between 1 6 (comparison_number op) ≡ true
comparison_known Eq = refl
comparison_known Ne = refl
comparison_known Lt = refl
comparison_known Le = refl
comparison_known Gt = refl
comparison_known Ge = refl

-- a value that can be written: a level is not the tag of constants, and numbers have 32 bits
abbrev ValueShort : Value → Type 0
ValueShort (Constant k) = T (in_range k)
ValueShort (Column l c) = (l < constant_tag) × (c < 4294967296)

number_back : (bs : List ℕ) (i n : ℕ) (r : List ℕ) → n < 4294967296 → drop i bs ≡ bytes32 n ++ r → word32 bs i ≡ n
number_back bs i n r h d = rw (at0 bs i _ d, at bs i 1 _ d, at bs i 2 _ d, at bs i 3 _ d) (from32 n h)

value_back : (v : Value) (bs : List ℕ) (i : ℕ) (r : List ℕ) → ValueShort v → drop i bs ≡ value_bytes v ++ r → value_from bs i ≡ v
value_back (Constant k) bs i r s d =
    let n = number_back bs (i + 1) (bits k) r (bits_small k s) (skip_to bs i (i + 1) (constant_tag ∷ []) (bytes32 (bits k) ++ r) d refl) in
    ap₂ value_of (at0 bs i _ d) n ∙ ap Constant (signed_bits k s)
value_back (Column l c) bs i r s d =
    let n = number_back bs (i + 1) c r s.1 (skip_to bs i (i + 1) (l ∷ []) (bytes32 c ++ r) d refl) in
    ap₂ value_of (at0 bs i _ d) n ∙ simp (ne_eqb l constant_tag (omega arith))

abbrev HeadShort : Head → Type 0
HeadShort (PairHead j) = Unit {0}
HeadShort (RowHead q t) = Unit {0}
HeadShort (LeafHead (CompareLeaf u op l r)) = ValueShort l × ValueShort r
HeadShort (LeafHead (MarkLeaf m l)) = ValueShort l

only_true : {A : Type 0} {t : Bool} {x y : A} → t ≡ true → x ≡ y → only t x ≡ some y
only_true e p = ap₂ only e p

-- the left value of a record, the right one, and none
module _ (bs : List ℕ) (l : Value) (short : ValueShort l) where
  left_back : (r : List ℕ) → drop left_place bs ≡ value_bytes l ++ r → value_from bs left_place ≡ l
  left_back r d = value_back l bs left_place r short d

  behind : (r : List ℕ) → drop left_place bs ≡ value_bytes l ++ r → drop right_place bs ≡ r
  behind r d = skip_to bs left_place right_place (value_bytes l) r d (omega (arith, value_length l))

  right_back : (r : Value) → ValueShort r → drop left_place bs ≡ value_bytes l ++ value_bytes r → value_from bs right_place ≡ r
  right_back r s d = value_back r bs right_place [] s (behind (value_bytes r) d ∙ sym (append-nil (value_bytes r)))

  -- so that the right value's place has zeros
  no_right : drop left_place bs ≡ value_bytes l ++ value_bytes unused_value → zeros bs right_place record_size ≡ true
  unfolding zeros
  no_right d =
      let none = value_bytes unused_value in
      let f : (k : ℕ) → eqb (byte_at bs (right_place + k)) 0 ≡ eqb (byte_at none k) 0 = λ k. ap (λ (x : ℕ). eqb x 0) (at bs right_place k none (behind none d)) in
      ap (λ (p : ℕ → Bool). all p (tabulate value_size (λ k. k))) (fun_ext f)

-- a kind comes back from its number
pub kind_back : (k : Kind) → kind_with (kind_number k) ≡ some k
kind_back (PairKind And) = refl
kind_back (PairKind Or) = refl
kind_back (RowKind Some) = refl
kind_back (RowKind All) = refl
kind_back (ComparisonKind AsNo) = refl
kind_back (ComparisonKind AsYes) = refl
kind_back (MarkKind Null) = refl
kind_back (MarkKind NotNull) = refl
kind_back (MarkKind IsDeclined) = refl
kind_back (MarkKind NotDeclined) = refl

-- the record of what an entry says is as its kind asks, and says the same
record Back (h : Head) (r : List ℕ) : Type 0 where
  fits : record_fits (uses (kind_of h)) r ≡ true
  says : head_in (kind_of h) r ≡ h

record_back : (h : Head) (e : ℕ) → HeadShort h → Back h (record_bytes e h)
unfolding record_fits zeros
record_back (PairHead j) e s = record { fits = refl; says = refl }
record_back (RowHead q t) e s = record { fits = refl; says = refl }
record_back (LeafHead (CompareLeaf u op l r)) e s =
    let bs = record_bytes e (LeafHead (CompareLeaf u op l r)) in
    let p = left_back bs l s.0 (value_bytes r) refl in
    let q = right_back bs l s.0 r s.1 refl in
    record { fits = ap (λ (b : Bool). b && true) (comparison_known op); says = λ i. LeafHead (CompareLeaf u (comparison_back op i) (p i) (q i)) }
record_back (LeafHead (MarkLeaf m l)) e s =
    let bs = record_bytes e (LeafHead (MarkLeaf m l)) in
    record { fits = no_right bs l s refl; says = λ i. LeafHead (MarkLeaf m (left_back bs l s (value_bytes unused_value) refl i)) }

head_back : (h : Head) (e : ℕ) → HeadShort h → head_from (kind_number (kind_of h)) (record_bytes e h) ≡ some h
unfolding head_from
head_back h e s =
    let r = record_bytes e h in
    let b = record_back h e s in
    ap (◌>>= (λ k. only (record_fits (uses k) r) (head_in k r))) (kind_back (kind_of h)) ∙ only_true b.fits b.says

-- ---- an entry with its inner ones

-- the first entry is read, if its inner ones are
step_back : (bs : List ℕ) (i depth : ℕ) (c : Card) → Stands bs i c → i + entries c < 65536 → HeadShort (head_of c)
    → inside (entry_from bs depth) i (head_of c) ≡ some (c, i + entries c) → entry_from bs (suc depth) i ≡ some (c, i + entries c)
unfolding entry_from
step_back bs i depth c s l h p =
    let e : ℕ = i + entries c in
    rw (kind_there s, record_there s, head_back (head_of c) e h, p) (only_true (eq-eqb _ _ (from16 e l)) refl)

-- no table has more than 16 columns
few_columns : (columns : List ℕ) (i : ℕ) → T (all (between 1 most_columns) columns) → get_or columns i 0 ≤ most_columns
few_columns [] i h = omega arith
few_columns (c ∷ cs) zero h = (bounds 1 most_columns c (both (between 1 most_columns c) (all (between 1 most_columns) cs) h).0).1
few_columns (c ∷ cs) (suc i) h = few_columns cs i (both (between 1 most_columns c) (all (between 1 most_columns) cs) h).1

few_numbered : (columns : List ℕ) (t : ℕ) → T (all (between 1 most_columns) columns) → numbered columns t 0 ≤ most_columns
few_numbered columns zero h = omega arith
few_numbered columns (suc t) h = few_columns columns t h

-- what fits can be written
module _ (columns : List ℕ) (sized : T (columns_fit columns)) (levels : List ℕ) (few : length levels ≤ 1 + most_row_entries) where
  value_short : (v : Value) → T (value_fits columns levels v) → ValueShort v
  value_short (Constant k) f = f
  value_short (Column l c) f =
      let n = numbered columns (get_or levels l 0) 0 in
      let (p, q) = both (ltb l (length levels)) (between 1 n c) f in
      let few' = ltb→lt l (length levels) p in
      let low = bounds 1 n c q in
      let m = few_numbered columns (get_or levels l 0) (both (between 1 most_tables (length columns)) (all (between 1 most_columns) columns) sized).1 in
      (omega arith, omega arith)

  leaf_short : (x : Leaf) → T (leaf_fits columns levels x) → HeadShort (LeafHead x)
  leaf_short (CompareLeaf u op l r) f =
      let (p, q) = both (value_fits columns levels l) (value_fits columns levels r) f in
      (value_short l p, value_short r q)
  leaf_short (MarkLeaf m l) f = value_short l f

-- entries that stand at i are read from there on
module _ (bs columns : List ℕ) (sized : T (columns_fit columns)) where
  pub entry_back : (c : Card) (levels : List ℕ) (depth i : ℕ) → length levels ≤ 1 + most_row_entries → T (card_fits columns levels c)
      → entries c ≤ depth → i + entries c < 65536 → Stands bs i c → entry_from bs depth i ≡ some (c, i + entries c)
  unfolding entries card_fits
  entry_back (LeafEntry x) levels zero i few f l m s = absurd (omega arith)
  entry_back (LeafEntry x) levels (suc depth) i few f l m s = step_back bs i depth (LeafEntry x) s m (leaf_short columns sized levels few x f) refl
  entry_back (PairEntry j a b) levels zero i few f l m s = absurd (omega arith)
  entry_back (PairEntry j a b) levels (suc depth) i few f l m s =
      let (fa, fb) = both (card_fits columns levels a) (card_fits columns levels b) f in
      let pa = entry_back a levels depth (i + 1) few fa (omega arith) (omega arith) (stands_left s) in
      let pb = entry_back b levels depth (i + 1 + entries a) few fb (omega arith) (omega arith) (stands_right s) in
      let e : i + 1 + entries a + entries b ≡ i + (1 + entries a + entries b) = omega arith in
      step_back bs i depth (PairEntry j a b) s m tt (rw (pa, pb, e))
  entry_back (RowEntry q t c) levels zero i few f l m s = absurd (omega arith)
  entry_back (RowEntry q t c) levels (suc depth) i few f l m s =
      let (fr, fc) = both (row_entry_fits columns levels t) (card_fits columns (levels ++ (t ∷ [])) c) f in
      let three = leb→le (length levels) most_row_entries (both (between 1 (length columns) t) (leb (length levels) most_row_entries) fr).1 in
      let few' : length (levels ++ (t ∷ [])) ≤ 1 + most_row_entries = simp length-append (omega arith) in
      let p = entry_back c (levels ++ (t ∷ [])) depth (i + 1) few' fc (omega arith) (omega arith) (stands_row s) in
      let e : i + 1 + entries c ≡ i + (1 + entries c) = omega arith in
      step_back bs i depth (RowEntry q t c) s m tt (rw (p, e))

-- ---- a card

pub card_back : (columns : List ℕ) (c : Card) → entries c < 65536 → T (columns_fit columns) → T (card_fits columns judged_levels c)
    → card_from (card_bytes columns c) ≡ some c
unfolding card_from
card_back columns c few sized fits =
    let p = entry_back (card_bytes columns c) columns sized c judged_levels (entries c) 0 (omega arith) fits (omega arith) (omega arith) (card_stands columns c few) in
    rw (count_back columns c few, p, zero-add) (only_true (eq-eqb (entries c) (entries c) refl) refl)

-- what is sound holds its card, and passes the test
module _ (bs : List ℕ) (s : Sound bs) where
  short : entries s.card < 65536
  short = omega (arith, bounds 1 most_entries (entries s.card) s.few)

  pub sound_holds : card_from bs ≡ some s.card
  sound_holds = ap card_from s.bytes ∙ card_back s.columns s.card short s.sized s.fits

  pub sound_complete : T (sound bs)
  unfolding sound laid
  sound_complete =
      rw (sound_holds, s.bytes, count_back s.columns s.card short, columns_back, tables_back, card_length_lem) (search (and_i, eqb_refl))

  pub sound_true : sound bs ≡ true
  sound_true = is_true (sound bs) sound_complete
