-- A card in an array of entries: the entries from one number up to another, taken apart, and as the bytes have them.
use mathlib.Core.Path.{◌≡◌, refl, sym, ap, subst, ◌∙◌}
use mathlib.Core.Bool.{Bool}
use mathlib.Core.List.{List}
use Prim.Native.Nat.{ℕ, zero, suc, ◌+◌, ◌≤◌, ◌<◌}
use native.Mathlib.Omega.{arith}
use borrow.Author.Tests.{eq-eqb}
use lib.Dec.{eqb, eqb→eq}
use Rattle.std.proofs.Math.Option.{Option, some}
use Rattle.tables.specs.Lists.{only}
use Rattle.tables.specs.declared.Connective.{Connective}
use Rattle.tables.specs.declared.Quantifier.{Quantifier}
use Rattle.card.specs.Card.{Card, LeafEntry, PairEntry, RowEntry}
use Rattle.card.specs.declared.Leaf.{Leaf}
use Rattle.card.specs.Layout.{entry_count, kind_at, record_at, end_at, head_from, Taken, inside, entry_from, card_from}
use Rattle.card.specs.declared.Head.{Head}
use Rattle.card.specs.declared.Head.TheVariants.{LeafHead, PairHead, RowHead}
use Rattle.decoder.specs.Code.{Decoded, end_in, head_at, Coded, coded_leaf, coded_pair, coded_row}
use Rattle.decoder.specs.declared.Entry.{Entry}
use Rattle.card.proofs.Exact.{none_some, only_some, bind_some}

-- ---- entries taken apart

pub coded_less : {d : List Entry} {s e : ℕ} {c : Card} → Coded d s e c → s < e
coded_less (coded_leaf h p q) = omega arith
coded_less (coded_pair h p a b) = omega (arith, coded_less a, coded_less b)
coded_less (coded_row h p a) = omega (arith, coded_less a)

pub coded_end : {d : List Entry} {s e : ℕ} {c : Card} → Coded d s e c → end_in d s ≡ e
coded_end (coded_leaf h p q) = p
coded_end (coded_pair h p a b) = p
coded_end (coded_row h p a) = p

pub record PairParts (d : List Entry) (s e : ℕ) (c : Card) (j : Connective) : Type 0 where
  pub left : Card
  pub right : Card
  pub middle : ℕ
  pub is : c ≡ PairEntry j left right
  pub left_coded : Coded d (s + 1) middle left
  pub right_coded : Coded d middle e right

pub record RowParts (d : List Entry) (s e : ℕ) (c : Card) (q : Quantifier) (t : ℕ) : Type 0 where
  pub inner : Card
  pub is : c ≡ RowEntry q t inner
  pub inner_coded : Coded d (s + 1) e inner

pub pair_of : {d : List Entry} {s e : ℕ} {c : Card} → Coded d s e c → (j : Connective) → head_at d s ≡ some (PairHead j) → PairParts d s e c j
pair_of (coded_leaf h p q) j g = absurd cc
pair_of (coded_pair {m = m} {a = a} {b = b} h p ca cb) j g =
    record { left = a; right = b; middle = m; is = cc; left_coded = ca; right_coded = cb }
pair_of (coded_row h p a) j g = absurd cc

pub row_of : {d : List Entry} {s e : ℕ} {c : Card} → Coded d s e c → (q : Quantifier) (t : ℕ) → head_at d s ≡ some (RowHead q t) → RowParts d s e c q t
row_of (coded_leaf h p q) k t g = absurd cc
row_of (coded_pair h p a b) k t g = absurd cc
row_of (coded_row {c = c} h p a) k t g = record { inner = c; is = cc; inner_coded = a }

pub leaf_of : {d : List Entry} {s e : ℕ} {c : Card} → Coded d s e c → (x : Leaf) → head_at d s ≡ some (LeafHead x) → (c ≡ LeafEntry x) × (e ≡ s + 1)
leaf_of (coded_leaf h p q) x g = (cc, q)
leaf_of (coded_pair h p a b) x g = absurd cc
leaf_of (coded_row h p a) x g = absurd cc

-- ---- the same card in the bytes

module _ {card : List ℕ} {d : List Entry} (decoded : Decoded card d) where
  heads : (i : ℕ) → i < entry_count card → head_at d i ≡ head_from (kind_at card i) (record_at card i)
  heads i l = (decoded.entries i l).head_is

  ends : (i : ℕ) → i < entry_count card → end_in d i ≡ end_at card i
  ends i l = (decoded.entries i l).end_is

  -- an entry that is taken, where the inner ones are taken by `from`
  module _ (from : ℕ → Option Taken) (inner : (i : ℕ) (x : Taken) → from i ≡ some x → x.1 ≤ entry_count card → Coded d i x.1 x.0) (i : ℕ) where
    abbrev Done : Taken → Type 0
    Done x = end_at card i ≡ x.1 → x.1 ≤ entry_count card → Coded d i x.1 x.0

    inside_coded : (h : Head) (x : Taken) → head_from (kind_at card i) (record_at card i) ≡ some h → inside from i h ≡ some x → Done x
    inside_coded (LeafHead y) x e p =
        let q : (LeafEntry y, i + 1) ≡ x = cc in
        subst Done q (λ end l. coded_leaf (heads i (omega arith) ∙ e) (ends i (omega arith) ∙ end) refl)
    inside_coded (PairHead j) x e p =
        let (y, py, p') = bind_some (from (i + 1)) _ x p in
        let (z, pz, p'') = bind_some (from y.1) _ x p' in
        let q : (PairEntry j y.0 z.0, z.1) ≡ x = cc in
        subst Done q (λ end l.
        let cz = inner y.1 z pz l in
        let lz = coded_less cz in
        let cy = inner (i + 1) y py (omega arith) in
        let ly = coded_less cy in
        coded_pair (heads i (omega arith) ∙ e) (ends i (omega arith) ∙ end) cy cz)
    inside_coded (RowHead k t) x e p =
        let (y, py, p') = bind_some (from (i + 1)) _ x p in
        let q : (RowEntry k t y.0, y.1) ≡ x = cc in
        subst Done q (λ end l.
        let cy = inner (i + 1) y py l in
        let ly = coded_less cy in
        coded_row (heads i (omega arith) ∙ e) (ends i (omega arith) ∙ end) cy)

  pub entry_coded : (depth s : ℕ) (x : Taken) → entry_from card depth s ≡ some x → x.1 ≤ entry_count card → Coded d s x.1 x.0
  unfolding entry_from
  entry_coded zero s x e l = absurd (none_some e)
  entry_coded (suc depth) s x e l =
      let (h, ph, e') = bind_some (head_from (kind_at card s) (record_at card s)) _ x e in
      let (y, py, e'') = bind_some (inside (entry_from card depth) s h) _ x e' in
      let (t, q) = only_some (eqb (end_at card s) y.1) y x e'' in
      inside_coded (entry_from card depth) (entry_coded depth) s h x ph (py ∙ ap some q) (eqb→eq _ _ t ∙ ap (λ (x : Taken). x.1) q) l

  -- and back: an entry is taken, if its inner ones are
  step : (s depth : ℕ) (h : Head) (x : Taken) → s < entry_count card → head_at d s ≡ some h → end_in d s ≡ x.1
      → inside (entry_from card depth) s h ≡ some x → entry_from card (suc depth) s ≡ some x
  unfolding entry_from
  step s depth h x l p e q =
      let ph : head_from (kind_at card s) (record_at card s) ≡ some h = sym (heads s l) ∙ p in
      rw (ph, q) (ap (λ (t : Bool). only t x) (eq-eqb (end_at card s) x.1 (sym (ends s l) ∙ e)))

  pub coded_entry : {s e : ℕ} {c : Card} → Coded d s e c → e ≤ entry_count card → (depth : ℕ) → e ≤ s + depth → entry_from card depth s ≡ some (c, e)
  coded_entry {s} c l zero m = absurd (omega (arith, coded_less c))
  coded_entry {s} {e} (coded_leaf {x = x} h p q) l (suc depth) m =
      step s depth (LeafHead x) (LeafEntry x, e) (omega arith) h p (ap (λ (n : ℕ). some (LeafEntry x, n)) (sym q))
  coded_entry {s} {e} (coded_pair {m = n} {j = j} {a = a} {b = b} h p ca cb) l (suc depth) m =
      let la = coded_less ca in
      let lb = coded_less cb in
      let pa = coded_entry {s = s + 1} ca (omega arith) depth (omega arith) in
      let pb = coded_entry {s = n} cb l depth (omega arith) in
      step s depth (PairHead j) (PairEntry j a b, e) (omega arith) h p (rw (pa, pb))
  coded_entry {s} {e} (coded_row {q = q} {t = t} {c = c} h p ci) l (suc depth) m =
      let li = coded_less ci in
      let pi = coded_entry {s = s + 1} ci l depth (omega arith) in
      step s depth (RowHead q t) (RowEntry q t c, e) (omega arith) h p (rw pi)

  pub card_coded : {c : Card} → card_from card ≡ some c → Coded d 0 (entry_count card) c
  unfolding card_from
  card_coded {c} e =
      let (x, p, e') = bind_some (entry_from card (entry_count card) 0) _ c e in
      let (t, q) = only_some (eqb x.1 (entry_count card)) x.0 c e' in
      let whole = eqb→eq x.1 (entry_count card) t in
      let r = entry_coded (entry_count card) 0 x p (omega arith) in
      subst (Coded d 0 (entry_count card)) q (subst (λ (n : ℕ). Coded d 0 n x.0) whole r)

  pub coded_card : {c : Card} → Coded d 0 (entry_count card) c → card_from card ≡ some c
  unfolding card_from
  coded_card {c} r =
      let n = entry_count card in
      rw (coded_entry r (omega arith) n (omega arith)) (ap (λ (t : Bool). only t c) (eq-eqb n n refl))
