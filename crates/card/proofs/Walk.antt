-- Where the entries of a card stand in its bytes: what a walk over them reads.
use mathlib.Core.Path.{◌≡◌, refl, sym, ap, ◌∙◌}
use mathlib.Core.List.{List, [], ◌∷◌, ◌++◌, append_assoc, append-nil}
use Prim.Native.Nat.{ℕ, ◌+◌, ◌*◌, ◌<◌}
use native.Mathlib.Omega.{arith}
use lib.ListN.{length, take, drop, length-append}
use lib.Seq.{take_at}
use Rattle.tables.specs.declared.Value.{Value}
use Rattle.tables.specs.declared.Value.TheVariants.{Constant, Column}
use Rattle.tables.specs.declared.Connective.{Connective}
use Rattle.tables.specs.declared.Quantifier.{Quantifier}
use Rattle.card.specs.Card.{Card, LeafEntry, PairEntry, RowEntry, entries}
use Rattle.card.specs.declared.Leaf.TheVariants.{CompareLeaf, MarkLeaf}
use Rattle.card.specs.Layout.{record_size, value_size, kind_number, kind_of, value_bytes, record_bytes, kind_bytes, records_from, card_bytes, card_length, entry_count, tables_in, columns_in, kind_at, record_at}
use Rattle.card.specs.declared.Head.{Head}
use Rattle.card.specs.declared.Head.TheVariants.{LeafHead, PairHead, RowHead}
use Rattle.tables.proofs.Bytes.{from16}
use Rattle.card.proofs.Places.{at, at0, skip_to, tabulated}

-- ---- lengths

pub value_length : (v : Value) → length (value_bytes v) ≡ value_size
value_length (Constant k) = refl
value_length (Column l c) = refl

pub record_length : (e : ℕ) (h : Head) → length (record_bytes e h) ≡ record_size
record_length e (PairHead j) = refl
record_length e (RowHead q t) = refl
record_length e (LeafHead (CompareLeaf u op l r)) = simp (length-append, value_length)
record_length e (LeafHead (MarkLeaf m l)) = simp (length-append, value_length)

pub kinds_length : (c : Card) → length (kind_bytes c) ≡ entries c
unfolding kind_bytes entries
kinds_length (LeafEntry x) = refl
kinds_length (PairEntry j a b) = simp (length-append, kinds_length a, kinds_length b) (omega arith)
kinds_length (RowEntry q t c) = omega (arith, kinds_length c)

pub records_length : (c : Card) (k : ℕ) → length (records_from k c) ≡ record_size * entries c
unfolding records_from entries
records_length (LeafEntry x) k = record_length (k + 1) (LeafHead x)
records_length (PairEntry j a b) k = simp (length-append, records_length a, records_length b) (omega arith)
records_length (RowEntry q t c) k = omega (arith, records_length c (k + 1))

-- "the card takes 3 + T + 15n bytes"
pub card_length_lem : (columns : List ℕ) (c : Card) → length (card_bytes columns c) ≡ card_length (length columns) (entries c)
unfolding card_bytes
card_length_lem columns c = simp (length-append, kinds_length, records_length) (omega arith)

-- ---- where an entry stands with its inner ones

-- an entry without its inner ones
abbrev pub head_of : Card → Head
head_of (LeafEntry x) = LeafHead x
head_of (PairEntry j a b) = PairHead j
head_of (RowEntry q t c) = RowHead q t

abbrev pub kind_place : List ℕ → ℕ → ℕ
kind_place bs i = 3 + tables_in bs + i

abbrev pub record_place : List ℕ → ℕ → ℕ
record_place bs i = 3 + tables_in bs + entry_count bs + record_size * i

-- the entries of some bytes from number i on are those of a card
pub record Stands (bs : List ℕ) (i : ℕ) (c : Card) : Type 0 where
  pub kinds_after : List ℕ
  pub records_after : List ℕ
  pub kinds : drop (kind_place bs i) bs ≡ kind_bytes c ++ kinds_after
  pub records : drop (record_place bs i) bs ≡ records_from i c ++ records_after

module _ (bs : List ℕ) (i : ℕ) where
  next_kind : (k : ℕ) (r : List ℕ) → drop (kind_place bs i) bs ≡ k ∷ r → drop (kind_place bs (i + 1)) bs ≡ r
  next_kind k r d = skip_to bs (kind_place bs i) (kind_place bs (i + 1)) (k ∷ []) r d (omega arith)

  next_record : (e : ℕ) (h : Head) (r : List ℕ) → drop (record_place bs i) bs ≡ record_bytes e h ++ r → drop (record_place bs (i + 1)) bs ≡ r
  next_record e h r d = skip_to bs (record_place bs i) (record_place bs (i + 1)) (record_bytes e h) r d (omega (arith, record_length e h))

module _ {bs : List ℕ} {i : ℕ} where
  pub kind_there : {c : Card} → Stands bs i c → kind_at bs i ≡ kind_number (kind_of (head_of c))
  unfolding kind_bytes
  kind_there {c = LeafEntry x} s = at0 bs (kind_place bs i) _ s.kinds
  kind_there {c = PairEntry j a b} s = at0 bs (kind_place bs i) _ s.kinds
  kind_there {c = RowEntry q t c} s = at0 bs (kind_place bs i) _ s.kinds

  -- its first record, and what stands behind that
  first_record : {c : Card} → Stands bs i c → (r : List ℕ) × (drop (record_place bs i) bs ≡ record_bytes (i + entries c) (head_of c) ++ r)
  unfolding records_from entries
  first_record {c = LeafEntry x} s = (s.records_after, s.records)
  first_record {c = PairEntry j a b} s = (_, s.records)
  first_record {c = RowEntry q t c} s = (_, s.records)

  pub record_there : {c : Card} → Stands bs i c → record_at bs i ≡ record_bytes (i + entries c) (head_of c)
  record_there {c} s =
      let (r, d) = first_record s in
      ap (take record_size) d ∙ take_at (record_bytes (i + entries c) (head_of c)) r record_size (record_length (i + entries c) (head_of c))

  -- the inner entries
  pub stands_row : {q : Quantifier} {t : ℕ} {c : Card} → Stands bs i (RowEntry q t c) → Stands bs (i + 1) c
  unfolding kind_bytes records_from
  stands_row {q} {t} {c} s = record {
    kinds_after = s.kinds_after;
    records_after = s.records_after;
    kinds = next_kind bs i _ _ s.kinds;
    records = next_record bs i (i + (1 + entries c)) (RowHead q t) _ s.records;
  }

  pub stands_left : {j : Connective} {a b : Card} → Stands bs i (PairEntry j a b) → Stands bs (i + 1) a
  unfolding kind_bytes records_from
  stands_left {j} {a} {b} s = record {
    kinds_after = kind_bytes b ++ s.kinds_after;
    records_after = records_from (i + 1 + entries a) b ++ s.records_after;
    kinds = next_kind bs i _ _ s.kinds ∙ append_assoc (kind_bytes a) (kind_bytes b) s.kinds_after;
    records =
        next_record bs i (i + (1 + entries a + entries b)) (PairHead j) _ s.records
        ∙ append_assoc (records_from (i + 1) a) (records_from (i + 1 + entries a) b) s.records_after;
  }

  pub stands_right : {j : Connective} {a b : Card} → Stands bs i (PairEntry j a b) → Stands bs (i + 1 + entries a) b
  unfolding stands_left
  stands_right {j} {a} {b} s = record {
    kinds_after = s.kinds_after;
    records_after = s.records_after;
    kinds = skip_to bs (kind_place bs (i + 1)) (kind_place bs (i + 1 + entries a)) (kind_bytes a) _ (stands_left s).kinds (omega (arith, kinds_length a));
    records = skip_to bs (record_place bs (i + 1)) (record_place bs (i + 1 + entries a)) (records_from (i + 1) a) _ (stands_left s).records (omega (arith, records_length a (i + 1)));
  }

-- ---- a card

module _ (columns : List ℕ) (c : Card) where
  pub tables_back : tables_in (card_bytes columns c) ≡ length columns
  unfolding card_bytes
  tables_back = refl

  pub columns_back : columns_in (card_bytes columns c) ≡ columns
  unfolding card_bytes columns_in
  columns_back =
      let rest = kind_bytes c ++ records_from 0 c in
      tabulated (length columns) (columns ++ rest) _ (simp length-append (omega arith)) (λ k. at (card_bytes columns c) 3 k (columns ++ rest) refl)
      ∙ take_at columns rest (length columns) refl

  module _ (few : entries c < 65536) where
    pub count_back : entry_count (card_bytes columns c) ≡ entries c
    unfolding card_bytes
    count_back = from16 (entries c) few

    -- its entries stand at 0
    pub card_stands : Stands (card_bytes columns c) 0 c
    unfolding card_bytes
    card_stands =
        let bs = card_bytes columns c in
        let rest = kind_bytes c ++ records_from 0 c in
        let dk : drop (kind_place bs 0) bs ≡ rest = skip_to bs 3 (kind_place bs 0) columns rest refl (omega arith) in
        record {
          kinds_after = records_from 0 c;
          records_after = [];
          kinds = dk;
          records =
              skip_to bs (kind_place bs 0) (record_place bs 0) (kind_bytes c) (records_from 0 c) dk (omega (arith, count_back, kinds_length c))
              ∙ sym (append-nil (records_from 0 c));
        }
