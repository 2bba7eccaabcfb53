-- Entries one after another: the room that is left, and an entry around its inner ones, whose end is put last.
use Rattle.std.proofs.Common.{◌≡◌, refl, ap, ap₂, subst, ◌∙◌, List, [], ◌∷◌, ◌++◌, append_assoc, ℕ, ◌+◌, ◌*◌, ◌<◌, ◌≤◌, arith, length, length-append}
use Rattle.tables.specs.Lists.{placed}
use Rattle.tables.specs.Bytes.{bytes16}
use Rattle.tables.specs.Values.{most_entries}
use Rattle.tables.specs.declared.Connective.{Connective}
use Rattle.tables.specs.declared.Quantifier.{Quantifier}
use Rattle.card.specs.declared.Leaf.{Leaf}
use Rattle.card.specs.Card.{Card, LeafEntry, PairEntry, RowEntry, entries}
use Rattle.card.specs.Layout.{record_size, kind_number, kind_of, field_bytes, record_bytes, kind_bytes, records_from}
use Rattle.card.specs.declared.Head.{Head}
use Rattle.card.specs.declared.Head.TheVariants.{PairHead, RowHead}
use Rattle.tables.proofs.Placed.{placed_length, placed_next, placed_over}
use Rattle.card.proofs.Walk.{record_length, kinds_length, records_length}
use Rattle.entries.specs.Code.{Room, Wrote}

-- an entry's kind and record, with an end
pub record Put (k end : ℕ) (head : Head) (kinds records kinds' records' : List ℕ) : Type 0 where
  pub kinds_are : kinds' ≡ placed kinds k (kind_number (kind_of head) ∷ [])
  pub records_are : records' ≡ placed records (record_size * k) (record_bytes end head)

-- a row entry, and a pair, as the code has what they say
module _ {k : ℕ} {kinds records kinds' records' : List ℕ} where
  pub put_row : {q q' : Quantifier} {t : ℕ} → q' ≡ q → kinds' ≡ placed kinds k (kind_number (kind_of (RowHead q' t)) ∷ [])
      → records' ≡ placed records (record_size * k) (record_bytes 0 (RowHead q' t)) → Put k 0 (RowHead q t) kinds records kinds' records'
  put_row {t = t} e a b = subst (λ q. Put k 0 (RowHead q t) kinds records kinds' records') e (record { kinds_are = a; records_are = b })

  pub put_pair : {j j' : Connective} → j' ≡ j → kinds' ≡ placed kinds k (kind_number (kind_of (PairHead j')) ∷ [])
      → records' ≡ placed records (record_size * k) (record_bytes 0 (PairHead j')) → Put k 0 (PairHead j) kinds records kinds' records'
  put_pair e a b = subst (λ j. Put k 0 (PairHead j) kinds records kinds' records') e (record { kinds_are = a; records_are = b })

-- ---- the room that is left

module _ {records : List ℕ} {k n : ℕ} (room : Room records k n) where
  pub room_less : (m : ℕ) → m ≤ n → Room records k m
  room_less m l =
      let a = room.kinds_fit in
      let b = room.records_fit in
      record { kinds_fit = omega arith; records_fit = omega arith }

  pub room_put : {end : ℕ} {head : Head} {kinds kinds' records' : List ℕ} → 1 ≤ n → Put k end head kinds records kinds' records'
      → (j m : ℕ) → j + m ≤ k + n → Room records' j m
  room_put {end} {head} low x j m l =
      let a = room.kinds_fit in
      let b = room.records_fit in
      let q = ap length x.records_are ∙ placed_length records (record_size * k) (record_bytes end head) (omega (arith, record_length end head)) in
      record { kinds_fit = omega arith; records_fit = omega arith }

  pub room_wrote : {c : Card} {kinds kinds' records' : List ℕ} {r : ℕ} → Wrote k c kinds records kinds' records' r → entries c ≤ n
      → (j m : ℕ) → j + m ≤ k + n → Room records' j m
  room_wrote {c} x low j m l =
      let a = room.kinds_fit in
      let b = room.records_fit in
      let q = ap length x.records_are ∙ placed_length records (record_size * k) (records_from k c) (omega (arith, records_length c k)) in
      record { kinds_fit = omega arith; records_fit = omega arith }

-- ---- an entry and its inner ones

module _ {k : ℕ} {head : Head} {kinds records kinds1 records1 : List ℕ} (low : k ≤ length kinds) (long : record_size * k ≤ length records)
    (x : Put k 0 head kinds records kinds1 records1) where
  -- the kinds and the records of those that are written
  record Inner (ks rs kinds' records' : List ℕ) : Type 0 where
    kinds_are : kinds' ≡ placed kinds k (kind_number (kind_of head) ∷ ks)
    records_are : records' ≡ placed records (record_size * k) (record_bytes 0 head ++ rs)

  first : {c : Card} {i r : ℕ} {kinds2 records2 : List ℕ} → i ≡ k + 1 → Wrote i c kinds1 records1 kinds2 records2 r
      → Inner (kind_bytes c) (records_from i c) kinds2 records2
  first {c} {i} e w = record {
    kinds_are =
        w.kinds_are
        ∙ ap (λ (l : List ℕ). placed l i (kind_bytes c)) x.kinds_are
        ∙ placed_next kinds k (kind_number (kind_of head) ∷ []) i (kind_bytes c) low e;
    records_are =
        w.records_are
        ∙ ap (λ (l : List ℕ). placed l (record_size * i) (records_from i c)) x.records_are
        ∙ placed_next records (record_size * k) (record_bytes 0 head) (record_size * i) (records_from i c) long (omega (arith, record_length 0 head));
  }

  more : {ks rs kinds2 records2 : List ℕ} {c : Card} {i r : ℕ} {kinds3 records3 : List ℕ} → Inner ks rs kinds2 records2
      → i ≡ k + 1 + length ks → record_size * i ≡ record_size * k + record_size + length rs → Wrote i c kinds2 records2 kinds3 records3 r
      → Inner (ks ++ kind_bytes c) (rs ++ records_from i c) kinds3 records3
  more {ks} {rs} {c = c} {i = i} h e f w =
      let size : length (record_bytes 0 head ++ rs) ≡ length (record_bytes 0 head) + length rs = length-append (record_bytes 0 head) rs in
      record {
        kinds_are =
            w.kinds_are
            ∙ ap (λ (l : List ℕ). placed l i (kind_bytes c)) h.kinds_are
            ∙ placed_next kinds k (kind_number (kind_of head) ∷ ks) i (kind_bytes c) low (omega arith);
        records_are =
            w.records_are
            ∙ ap (λ (l : List ℕ). placed l (record_size * i) (records_from i c)) h.records_are
            ∙ placed_next records (record_size * k) (record_bytes 0 head ++ rs) (record_size * i) (records_from i c) long (omega (arith, record_length 0 head))
            ∙ ap (placed records (record_size * k)) (append_assoc (record_bytes 0 head) rs (records_from i c));
      }

  -- its end is put
  ended : {ks rs kinds2 records2 records3 : List ℕ} (end : ℕ) → Inner ks rs kinds2 records2 → records3 ≡ placed records2 (record_size * k) (bytes16 end)
      → records3 ≡ placed records (record_size * k) (record_bytes end head ++ rs)
  ended {rs = rs} end h e =
      e
      ∙ ap (λ (l : List ℕ). placed l (record_size * k) (bytes16 end)) h.records_are
      ∙ placed_over records (record_size * k) (bytes16 0) (field_bytes head ++ rs) (bytes16 end) long refl

module _ {k : ℕ} {records : List ℕ} {n : ℕ} (room : Room records k n) where
  -- what putting an entry, and an end, asks
  pub put_asked : 1 ≤ n → (k < most_entries) × (record_size * k + record_size ≤ length records)
  put_asked low =
      let f = room.kinds_fit in
      let g = room.records_fit in
      (omega arith, omega arith)

  pub end_asked : (i : ℕ) → i < k → (k < 65536) × (record_size * i + 2 ≤ length records)
  end_asked i l =
      let f = room.kinds_fit in
      let g = room.records_fit in
      (omega arith, omega arith)

pub leaf_room : (x : Leaf) {records : List ℕ} {k : ℕ} → Room records k (entries (LeafEntry x)) → Room records k 1
unfolding entries
leaf_room x room = room

-- ---- a row entry around an entry

module _ (q : Quantifier) (t : ℕ) (c : Card) {k : ℕ} {kinds records kinds1 records1 : List ℕ} (room : Room records k (entries (RowEntry q t c)))
    (x : Put k 0 (RowHead q t) kinds records kinds1 records1) where
  pub row_room : Room records1 (k + 1) (entries c)
  unfolding entries
  row_room = room_put room (omega arith) x (k + 1) (entries c) (omega arith)

  module _ {kinds2 records2 : List ℕ} {r : ℕ} (w : Wrote (k + 1) c kinds1 records1 kinds2 records2 r) where
    pub row_end : (r < 65536) × (record_size * k + 2 ≤ length records2)
    row_end = end_asked (room_wrote row_room w (omega arith) r 0 (omega (arith, w.next))) k (omega (arith, w.next))

    pub row_wrote : k ≤ length kinds → {records3 : List ℕ} → records3 ≡ placed records2 (record_size * k) (bytes16 r)
        → Wrote k (RowEntry q t c) kinds records kinds2 records3 r
    unfolding entries kind_bytes records_from
    row_wrote low f =
        let few = room.kinds_fit in
        let long = room.records_fit in
        let far : record_size * k ≤ length records = omega arith in
        let inner = first low far x refl w in
        let n : r ≡ k + (1 + entries c) = omega (arith, w.next) in
        record {
          next = n;
          kinds_are = inner.kinds_are;
          records_are =
              ended low far x r inner f
              ∙ ap (λ (y : ℕ). placed records (record_size * k) (record_bytes y (RowHead q t) ++ records_from (k + 1) c)) n;
        }

-- ---- a pair around two entries, of which the first has the number i

module _ (j : Connective) (a b : Card) {k i : ℕ} {kinds records kinds1 records1 : List ℕ} (room : Room records k (entries (PairEntry j a b)))
    (x : Put k 0 (PairHead j) kinds records kinds1 records1) (at : i ≡ k + 1) where
  both_room : Room records1 i (entries a + entries b)
  unfolding entries
  both_room = room_put room (omega arith) x i (entries a + entries b) (omega arith)

  pub left_room : Room records1 i (entries a)
  left_room = room_less both_room (entries a) (omega arith)

  module _ {kinds2 records2 : List ℕ} {m : ℕ} (w : Wrote i a kinds1 records1 kinds2 records2 m) where
    pub right_room : Room records2 m (entries b)
    right_room = room_wrote both_room w (omega arith) m (entries b) (omega (arith, w.next))

    module _ {kinds3 records3 : List ℕ} {r : ℕ} (v : Wrote m b kinds2 records2 kinds3 records3 r) where
      pub pair_end : (r < 65536) × (record_size * k + 2 ≤ length records3)
      pair_end = end_asked (room_wrote right_room v (omega arith) r 0 (omega (arith, v.next))) k (omega (arith, w.next, v.next))

      pub pair_wrote : k ≤ length kinds → {records4 : List ℕ} → records4 ≡ placed records3 (record_size * k) (bytes16 r)
          → Wrote k (PairEntry j a b) kinds records kinds3 records4 r
      unfolding entries kind_bytes records_from
      pair_wrote low f =
          let few = room.kinds_fit in
          let long = room.records_fit in
          let l = kinds_length a in
          let o = records_length a i in
          let far : record_size * k ≤ length records = omega arith in
          let before : m ≡ k + 1 + entries a = omega (arith, w.next) in
          let n : r ≡ k + (1 + entries a + entries b) = omega (arith, v.next) in
          let inner = more low far x (first low far x at w) (omega arith) (omega arith) v in
          record {
            next = n;
            kinds_are = inner.kinds_are;
            records_are =
                ended low far x r inner f
                ∙ ap (λ (y : ℕ). placed records (record_size * k) (record_bytes y (PairHead j) ++ (records_from i a ++ records_from m b))) n
                ∙ ap₂ (λ (y z : ℕ). placed records (record_size * k) (record_bytes (k + (1 + entries a + entries b)) (PairHead j) ++ (records_from y a ++ records_from z b))) at before;
          }
