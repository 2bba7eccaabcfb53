-- Bytes that pass the test are those of the card that they hold.
use mathlib.Core.Path.{◌≡◌, refl, sym, ap, ap₂, subst, ◌∙◌}
use mathlib.Core.Bool.{Bool, true, false, ◌&&◌, ◌||◌, cond}
use mathlib.Core.List.{List, [], ◌∷◌, ◌++◌, append_assoc, append-nil}
use mathlib.Core.Option.{Option, none, some}
use Prim.Native.Nat.{ℕ, zero, suc, ◌+◌, ◌-◌, ◌≤◌, ◌<◌}
use native.Mathlib.Omega.{arith}
use borrow.Author.Tests.{eqb-true}
use lib.Dec.{T, eqb, eqb→eq}
use lib.ListN.{length, get_or, take, drop, length-drop, take-append-drop, drop_of_length-le}
use lib.Seq.{take-take, drop-cons, drop-drop, get_or-drop, length-take-le}
use Rattle.tables.specs.Lists.{tabulate, all, only, ◌>>=◌}
use Rattle.tables.specs.Bytes.{between, byte_at, word16, word32, bytes16, bytes32, signed}
use Rattle.tables.specs.Values.{most_entries, constant_tag, judged_levels, unused_value, Uses, comparison_number, comparison_of}
use Rattle.tables.specs.declared.Value.{Value}
use Rattle.tables.specs.declared.Value.TheVariants.{Constant, Column}
use Rattle.tables.specs.declared.Comparison.{Comparison}
use Rattle.tables.specs.declared.Connective.{Connective}
use Rattle.tables.specs.declared.Quantifier.{Quantifier}
use Rattle.card.specs.Card.{Card, LeafEntry, PairEntry, RowEntry, entries, card_fits}
use Rattle.card.specs.declared.Leaf.{Leaf}
use Rattle.card.specs.Layout.{record_size, value_size, table_place, comparison_place, left_place, right_place, pair_kind, row_kind, kind_number, kind_with, uses, kind_of, head_with, value_bytes, fields_with, field_bytes, record_bytes, kind_bytes, records_from, card_bytes, card_length, entry_count, tables_in, columns_in, kind_at, record_at, end_at, value_from, zeros, record_fits, head_in, head_from, Taken, inside, entry_from, card_from}
use Rattle.card.specs.declared.Kind.{Kind}
use Rattle.card.specs.declared.Kind.TheVariants.{PairKind, RowKind, ComparisonKind, MarkKind}
use Rattle.card.specs.declared.Head.{Head}
use Rattle.card.specs.declared.Head.TheVariants.{LeafHead, PairHead, RowHead}
use Rattle.card.specs.Sound.{columns_fit, holds_fitting, laid, sound, Sound}
use Rattle.tables.proofs.Values.{comparison_number_lem}
use Rattle.tables.proofs.Tests.{both, bounds}
use Rattle.tables.proofs.Bytes.{to16, to32, in_range_lem}
use Rattle.card.proofs.Places.{tabulated}
use Rattle.card.proofs.Walk.{kind_place, record_place}

-- each is below 256
abbrev pub Bytes : List ℕ → Type 0
Bytes bs = (i : ℕ) → get_or bs i 0 < 256

drop_bytes : (n : ℕ) (bs : List ℕ) → Bytes bs → Bytes (drop n bs)
drop_bytes n bs b i = rw get_or-drop (b (n + i))

take_bytes : (n : ℕ) (bs : List ℕ) → Bytes bs → Bytes (take n bs)
take_bytes zero bs b i = omega arith
take_bytes (suc n) [] b i = omega arith
take_bytes (suc n) (x ∷ xs) b zero = b 0
take_bytes (suc n) (x ∷ xs) b (suc i) = take_bytes n xs (λ k. b (suc k)) i

-- ---- what may be missing, and is there

module _ {A : Type 0} where
  pub none_some : {x : A} → none ≡ some x → ⊥
  none_some e = let z : ◌≡◌ {A = ℕ} 0 1 = cc in omega arith

  pub only_some : (t : Bool) (x y : A) → only t x ≡ some y → T t × (x ≡ y)
  only_some true x y e = (tt, cc)
  only_some false x y e = absurd (none_some e)

  pub bind_some : {B : Type 0} (o : Option B) (f : B → Option A) (y : A) → (o >>= f) ≡ some y → (x : B) × (o ≡ some x) × (f x ≡ some y)
  bind_some none f y e = absurd (none_some e)
  bind_some (some x) f y e = (x, refl, e)

-- ---- one entry

-- the number of a kind that may be missing
abbrev number_of : Option Kind → ℕ
number_of none = 0
number_of (some k) = kind_number k

numbered_as : {x k : Kind} → some x ≡ some k → kind_number k ≡ kind_number x
numbered_as e = sym (ap number_of e)

-- a value is its five bytes
value_of : (tag n : ℕ) → n < 4294967296 → (t : Bool) → eqb tag constant_tag ≡ t
    → value_bytes (cond t (Constant (signed n)) (Column tag n)) ≡ tag ∷ bytes32 n
value_of tag n small true e = ap₂ (λ (x y : ℕ). x ∷ bytes32 y) (sym (eqb-true tag constant_tag e)) (in_range_lem n small).0
value_of tag n small false e = refl

all_zero : (n : ℕ) (g f : ℕ → ℕ) → T (all (λ k. eqb (g k) 0) (tabulate n f)) → tabulate n (λ k. g (f k)) ≡ tabulate n (λ k. 0)
all_zero zero g f t = refl
all_zero (suc n) g f t =
    let (p, q) = both (eqb (g (f 0)) 0) (all (λ k. eqb (g k) 0) (tabulate n (λ k. f (suc k)))) t in
    ap₂ ◌∷◌ (eqb→eq (g (f 0)) 0 p) (all_zero n g (λ k. f (suc k)) q)

comparison_exact : (n : ℕ) → T (between 1 6 n) → comparison_number (comparison_of n) ≡ n
comparison_exact n t = let (low, high) = bounds 1 6 n t in comparison_number_lem n low high

-- the record r with this kind is the entry h
record Says (r : List ℕ) (kind : ℕ) (h : Head) : Type 0 where
  kind_is : kind_number (kind_of h) ≡ kind
  bytes_are : record_bytes (word16 r 0) h ≡ tabulate record_size (byte_at r)

module _ (r : List ℕ) (b : Bytes r) where
  value_exact : (i : ℕ) → value_bytes (value_from r i) ≡ byte_at r i ∷ byte_at r (i + 1) ∷ byte_at r (i + 1 + 1) ∷ byte_at r (i + 1 + 2) ∷ byte_at r (i + 1 + 3) ∷ []
  value_exact i =
      let b1 = b (i + 1) in
      let b2 = b (i + 1 + 1) in
      let b3 = b (i + 1 + 2) in
      let b4 = b (i + 1 + 3) in
      value_of (byte_at r i) (word32 r (i + 1)) (omega arith) (eqb (byte_at r i) constant_tag) refl
      ∙ ap (λ (l : List ℕ). byte_at r i ∷ l) (to32 _ _ _ _ b1 b2 b3 b4)

  zeros_exact : (i j : ℕ) → T (zeros r i j) → tabulate (j - i) (λ k. byte_at r (i + k)) ≡ tabulate (j - i) (λ k. 0)
  unfolding zeros
  zeros_exact i j t = all_zero (j - i) (λ k. byte_at r (i + k)) (λ k. k) t

  -- a field that is used is as it was read, and one that is not is 0
  table_exact : (b : Bool) → T (b || zeros r table_place comparison_place) → cond b (byte_at r table_place) 0 ≡ byte_at r table_place
  table_exact true t = refl
  table_exact false t = ap (λ (l : List ℕ). get_or l 0 0) (sym (zeros_exact table_place comparison_place t))

  comparison_used : (b : Bool) → let n = byte_at r comparison_place in T (cond b (between 1 6 n) (zeros r comparison_place left_place))
      → cond b (comparison_number (comparison_of n)) 0 ≡ n
  comparison_used true t = comparison_exact (byte_at r comparison_place) t
  comparison_used false t = ap (λ (l : List ℕ). get_or l 0 0) (sym (zeros_exact comparison_place left_place t))

  value_used : (b : Bool) (i j : ℕ) → j - i ≡ value_size → value_bytes (value_from r i) ≡ tabulate (j - i) (λ k. byte_at r (i + k)) → T (b || zeros r i j)
      → value_bytes (cond b (value_from r i) unused_value) ≡ tabulate (j - i) (λ k. byte_at r (i + k))
  value_used true i j e v t = v
  value_used false i j e v t = sym (zeros_exact i j t ∙ ap (λ (n : ℕ). tabulate n (λ k. 0)) e)

  -- the fields that a kind uses, read from a record that is as the kind asks, are the record's
  fields_exact : (u : Uses) → T (record_fits u r)
      → fields_with u (byte_at r table_place) (comparison_of (byte_at r comparison_place)) (value_from r left_place) (value_from r right_place)
      ≡ tabulate (record_size - table_place) (λ k. byte_at r (table_place + k))
  unfolding record_fits
  fields_exact u t =
      let (t1, t2) = both (u.table || zeros r table_place comparison_place) _ t in
      let (t3, t4) = both (cond u.comparison (between 1 6 (byte_at r comparison_place)) (zeros r comparison_place left_place)) _ t2 in
      let (t5, t6) = both (u.left || zeros r left_place right_place) (u.right || zeros r right_place record_size) t4 in
      ap₂ ◌∷◌ (table_exact u.table t1)
      (ap₂ ◌∷◌ (comparison_used u.comparison t3) (ap₂ ◌++◌ (value_used u.left left_place right_place refl (value_exact left_place) t5) (value_used u.right right_place record_size refl (value_exact right_place) t6)))

-- the kind with a number has that number
pub kind_number_lem : (n : ℕ) (k : Kind) → kind_with n ≡ some k → kind_number k ≡ n
kind_number_lem zero k e = absurd (none_some e)
kind_number_lem (suc zero) k e = numbered_as e
kind_number_lem (suc (suc zero)) k e = numbered_as e
kind_number_lem (suc (suc (suc zero))) k e = numbered_as e
kind_number_lem (suc (suc (suc (suc zero)))) k e = numbered_as e
kind_number_lem (suc (suc (suc (suc (suc zero))))) k e = numbered_as e
kind_number_lem (suc (suc (suc (suc (suc (suc zero)))))) k e = numbered_as e
kind_number_lem (suc (suc (suc (suc (suc (suc (suc zero))))))) k e = numbered_as e
kind_number_lem (suc (suc (suc (suc (suc (suc (suc (suc zero)))))))) k e = numbered_as e
kind_number_lem (suc (suc (suc (suc (suc (suc (suc (suc (suc zero))))))))) k e = numbered_as e
kind_number_lem (suc (suc (suc (suc (suc (suc (suc (suc (suc (suc zero)))))))))) k e = numbered_as e
kind_number_lem (suc (suc (suc (suc (suc (suc (suc (suc (suc (suc (suc n))))))))))) k e = absurd (none_some e)

-- what an entry says by its kind has that kind, and the fields that the kind uses
module _ (t : ℕ) (op : Comparison) (l r : Value) where
  pub kind_with_lem : (k : Kind) → kind_of (head_with k t op l r) ≡ k
  kind_with_lem (PairKind j) = refl
  kind_with_lem (RowKind q) = refl
  kind_with_lem (ComparisonKind u) = refl
  kind_with_lem (MarkKind m) = refl

  fields_with_lem : (k : Kind) → field_bytes (head_with k t op l r) ≡ fields_with (uses k) t op l r
  fields_with_lem (PairKind j) = refl
  fields_with_lem (RowKind q) = refl
  fields_with_lem (ComparisonKind u) = refl
  fields_with_lem (MarkKind m) = refl

module _ (r : List ℕ) (b : Bytes r) where
  head_exact : (n : ℕ) (h : Head) → head_from n r ≡ some h → Says r n h
  unfolding head_from
  head_exact n h e =
      let (k, pk, e') = bind_some (kind_with n) _ h e in
      let (t, p) = only_some (record_fits (uses k) r) (head_in k r) h e' in
      let table = byte_at r table_place in
      let op = comparison_of (byte_at r comparison_place) in
      let left = value_from r left_place in
      let right = value_from r right_place in
      subst (Says r n) p
      (record {
        kind_is = ap kind_number (kind_with_lem table op left right k) ∙ kind_number_lem n k pk;
        bytes_are = ap₂ ◌++◌ (to16 (byte_at r 0) (byte_at r 1) (b 0) (b 1)) (fields_with_lem table op left right k ∙ fields_exact r b (uses k) t);
      })

-- ---- an entry with its inner ones

-- an entry that is read stands there, up to the entry after it
pub record Read (bs : List ℕ) (i : ℕ) (x : Taken) : Type 0 where
  pub ends : x.1 ≡ i + entries x.0
  pub kinds : drop (kind_place bs i) bs ≡ kind_bytes x.0 ++ drop (kind_place bs x.1) bs
  pub records : drop (record_place bs i) bs ≡ records_from i x.0 ++ drop (record_place bs x.1) bs

module _ (bs : List ℕ) (b : Bytes bs) (long : length bs ≡ card_length (tables_in bs) (entry_count bs)) where
  -- its own kind and record
  module _ (i : ℕ) (h : Head) (there : i < entry_count bs) (e : head_from (kind_at bs i) (record_at bs i) ≡ some h) where
    own : Says (record_at bs i) (kind_at bs i) h
    own = head_exact (record_at bs i) (take_bytes record_size (drop (record_place bs i) bs) (drop_bytes (record_place bs i) bs b)) (kind_at bs i) h e

    own_kind : drop (kind_place bs i) bs ≡ kind_number (kind_of h) ∷ drop (kind_place bs (i + 1)) bs
    own_kind =
        let next : suc (kind_place bs i) ≡ kind_place bs (i + 1) = omega arith in
        drop-cons bs (kind_place bs i) 0 (omega arith) ∙ ap₂ (λ (k n : ℕ). k ∷ drop n bs) (sym own.kind_is) next

    own_record : drop (record_place bs i) bs ≡ record_bytes (end_at bs i) h ++ drop (record_place bs (i + 1)) bs
    own_record =
        let from : List ℕ = drop (record_place bs i) bs in
        let fourteen : record_size ≤ length from = simp length-drop (omega arith) in
        let next : record_place bs i + record_size ≡ record_place bs (i + 1) = omega arith in
        let exact : record_bytes (end_at bs i) h ≡ record_at bs i =
        own.bytes_are
        ∙ tabulated record_size (record_at bs i) (byte_at (record_at bs i)) (rw (length-take-le record_size from fourteen) (omega arith)) (λ k. refl)
        ∙ take-take record_size record_size from (omega arith) in
        sym (take-append-drop record_size from) ∙ ap₂ ◌++◌ (sym exact) (drop-drop record_size (record_place bs i) bs ∙ ap (λ (n : ℕ). drop n bs) next)

  -- it with its inner ones
  module _ (i : ℕ) where
    -- the entry i by itself is h
    abbrev Own : Head → Type 0
    Own h = head_from (kind_at bs i) (record_at bs i) ≡ some h

    read_leaf : (y : Leaf) → Own (LeafHead y) → end_at bs i ≡ i + 1 → i + 1 ≤ entry_count bs → Read bs i (LeafEntry y, i + 1)
    unfolding entries kind_bytes records_from
    read_leaf y e end l =
        let there : i < entry_count bs = omega arith in
        record {
          ends = refl;
          kinds = own_kind i (LeafHead y) there e;
          records = own_record i (LeafHead y) there e ∙ ap (λ (n : ℕ). record_bytes n (LeafHead y) ++ drop (record_place bs (i + 1)) bs) end;
        }

    read_both : (j : Connective) (x y : Taken) → Own (PairHead j) → Read bs (i + 1) x → Read bs x.1 y → end_at bs i ≡ y.1 → y.1 ≤ entry_count bs → Read bs i (PairEntry j x.0 y.0, y.1)
    unfolding entries kind_bytes records_from
    read_both j x y e rx ry end l =
        let ex = rx.ends in
        let ey = ry.ends in
        let there : i < entry_count bs = omega arith in
        let whole : end_at bs i ≡ i + (1 + entries x.0 + entries y.0) = omega arith in
        record {
          ends = omega arith;
          kinds =
              own_kind i (PairHead j) there e
              ∙ ap (λ (l : List ℕ). pair_kind j ∷ l)
              (rx.kinds
              ∙ ap (λ (l : List ℕ). kind_bytes x.0 ++ l) ry.kinds
              ∙ sym (append_assoc (kind_bytes x.0) (kind_bytes y.0) (drop (kind_place bs y.1) bs)));
          records =
              own_record i (PairHead j) there e
              ∙ ap₂ (λ (n : ℕ) (l : List ℕ). record_bytes n (PairHead j) ++ l) whole
              (rx.records
              ∙ ap (λ (l : List ℕ). records_from (i + 1) x.0 ++ l) (ry.records ∙ ap (λ (n : ℕ). records_from n y.0 ++ drop (record_place bs y.1) bs) ex)
              ∙ sym (append_assoc (records_from (i + 1) x.0) (records_from (i + 1 + entries x.0) y.0) (drop (record_place bs y.1) bs)));
        }

    read_row : (q : Quantifier) (t : ℕ) (x : Taken) → Own (RowHead q t) → Read bs (i + 1) x → end_at bs i ≡ x.1 → x.1 ≤ entry_count bs → Read bs i (RowEntry q t x.0, x.1)
    unfolding entries kind_bytes records_from
    read_row q t x e rx end l =
        let ex = rx.ends in
        let there : i < entry_count bs = omega arith in
        let whole : end_at bs i ≡ i + (1 + entries x.0) = omega arith in
        record {
          ends = omega arith;
          kinds = own_kind i (RowHead q t) there e ∙ ap (λ (l : List ℕ). row_kind q ∷ l) rx.kinds;
          records = own_record i (RowHead q t) there e ∙ ap₂ (λ (n : ℕ) (l : List ℕ). record_bytes n (RowHead q t) ++ l) whole rx.records;
        }

  -- and so where the inner ones are read by `from`
  module _ (from : ℕ → Option Taken) (inner : (i : ℕ) (x : Taken) → from i ≡ some x → x.1 ≤ entry_count bs → Read bs i x) (i : ℕ) where
    abbrev Done : Taken → Type 0
    Done x = end_at bs i ≡ x.1 → x.1 ≤ entry_count bs → Read bs i x

    read_inside : (h : Head) (x : Taken) → head_from (kind_at bs i) (record_at bs i) ≡ some h → inside from i h ≡ some x → Done x
    read_inside (LeafHead y) x e p = let q : (LeafEntry y, i + 1) ≡ x = cc in subst Done q (read_leaf i y e)
    read_inside (PairHead j) x e p =
        let (y, py, p') = bind_some (from (i + 1)) _ x p in
        let (z, pz, p'') = bind_some (from y.1) _ x p' in
        let q : (PairEntry j y.0 z.0, z.1) ≡ x = cc in
        subst Done q (λ end l.
        let rz = inner y.1 z pz l in
        let ry = inner (i + 1) y py (omega (arith, rz.ends)) in
        read_both i j y z e ry rz end l)
    read_inside (RowHead k t) x e p =
        let (y, py, p') = bind_some (from (i + 1)) _ x p in
        let q : (RowEntry k t y.0, y.1) ≡ x = cc in
        subst Done q (λ end l. read_row i k t y e (inner (i + 1) y py l) end l)

  pub entry_exact : (depth i : ℕ) (x : Taken) → entry_from bs depth i ≡ some x → x.1 ≤ entry_count bs → Read bs i x
  unfolding entry_from
  entry_exact zero i x e l = absurd (none_some e)
  entry_exact (suc depth) i x e l =
      let (h, ph, e') = bind_some (head_from (kind_at bs i) (record_at bs i)) _ x e in
      let (y, py, e'') = bind_some (inside (entry_from bs depth) i h) _ x e' in
      let (t, q) = only_some (eqb (end_at bs i) y.1) y x e'' in
      read_inside (entry_from bs depth) (entry_exact depth) i h x ph (py ∙ ap some q) (eqb→eq _ _ t ∙ ap (λ (x : Taken). x.1) q) l

  -- ---- a card

  columns_are : columns_in bs ≡ take (tables_in bs) (drop 3 bs)
  unfolding columns_in
  columns_are = tabulated (tables_in bs) (drop 3 bs) _ (simp length-drop (omega arith)) (λ k. sym (get_or-drop 3 bs k 0))

  columns_count : length (columns_in bs) ≡ tables_in bs
  columns_count = ap length columns_are ∙ length-take-le (tables_in bs) (drop 3 bs) (simp length-drop (omega arith))

  read_card : (x : Taken) → Read bs 0 x → x.1 ≡ entry_count bs → bs ≡ card_bytes (columns_in bs) x.0
  unfolding card_bytes
  read_card x r whole =
      let c : Card = x.0 in
      let n : entries c ≡ entry_count bs = omega (arith, r.ends) in
      let start : take 3 bs ≡ bytes16 (entries c) ++ (length (columns_in bs) ∷ []) =
      sym (tabulated 3 bs (byte_at bs) (omega arith) (λ k. refl))
      ∙ ap₂ (λ (l : List ℕ) (t : ℕ). l ++ (t ∷ [])) (sym (ap bytes16 n ∙ to16 (byte_at bs 0) (byte_at bs 1) (b 0) (b 1))) (sym columns_count) in
      let columns : drop 3 bs ≡ columns_in bs ++ drop (3 + tables_in bs) bs =
      sym (take-append-drop (tables_in bs) (drop 3 bs)) ∙ ap₂ ◌++◌ (sym columns_are) (drop-drop (tables_in bs) 3 bs) in
      let first : 3 + tables_in bs ≡ kind_place bs 0 = omega arith in
      let then : kind_place bs x.1 ≡ record_place bs 0 = omega arith in
      let records : drop (kind_place bs x.1) bs ≡ records_from 0 c =
      ap (λ (k : ℕ). drop k bs) then
      ∙ r.records
      ∙ ap (λ (l : List ℕ). records_from 0 c ++ l) (drop_of_length-le bs {i = record_place bs x.1} (omega arith))
      ∙ append-nil (records_from 0 c) in
      let kinds : drop (3 + tables_in bs) bs ≡ kind_bytes c ++ records_from 0 c =
      ap (λ (k : ℕ). drop k bs) first ∙ r.kinds ∙ ap (λ (l : List ℕ). kind_bytes c ++ l) records in
      sym (take-append-drop 3 bs) ∙ ap₂ ◌++◌ start (columns ∙ ap (λ (l : List ℕ). columns_in bs ++ l) kinds)

  pub card_exact : (c : Card) → card_from bs ≡ some c → (bs ≡ card_bytes (columns_in bs) c) × (entries c ≡ entry_count bs)
  unfolding card_from
  card_exact c e =
      let (x, p, e') = bind_some (entry_from bs (entry_count bs) 0) _ c e in
      let (t, q) = only_some (eqb x.1 (entry_count bs)) x.0 c e' in
      let whole = eqb→eq x.1 (entry_count bs) t in
      let r = entry_exact (entry_count bs) 0 x p (omega arith) in
      subst (λ (c : Card). (bs ≡ card_bytes (columns_in bs) c) × (entries c ≡ entry_count bs)) q (read_card x r whole, omega (arith, r.ends))

-- ---- the test

-- what the test says, part by part
pub record Passed (bs : List ℕ) : Type 0 where
  pub card : Card
  pub few : T (between 1 most_entries (entry_count bs))
  pub sized : T (columns_fit (columns_in bs))
  pub long : length bs ≡ card_length (tables_in bs) (entry_count bs)
  pub held : card_from bs ≡ some card
  pub fits : T (card_fits (columns_in bs) judged_levels card)

holds_one : (columns : List ℕ) (o : Option Card) → T (holds_fitting columns o) → (c : Card) × (o ≡ some c) × T (card_fits columns judged_levels c)
holds_one columns none t = absurd t
holds_one columns (some c) t = (c, refl, t)

pub sound_passed : (bs : List ℕ) → T (sound bs) → Passed bs
unfolding sound laid
sound_passed bs t =
    let whole = eqb (length bs) (card_length (tables_in bs) (entry_count bs)) in
    let (layout, t1) = both (between 1 most_entries (entry_count bs) && (columns_fit (columns_in bs) && whole)) (holds_fitting (columns_in bs) (card_from bs)) t in
    let (few, t2) = both (between 1 most_entries (entry_count bs)) (columns_fit (columns_in bs) && whole) layout in
    let (sized, long) = both (columns_fit (columns_in bs)) whole t2 in
    let (c, held, fits) = holds_one (columns_in bs) (card_from bs) t1 in
    record { card = c; few = few; sized = sized; long = eqb→eq _ _ long; held = held; fits = fits }

-- what passes the test is sound, and its columns and its card are those that it holds
module _ (bs : List ℕ) (b : Bytes bs) (t : T (sound bs)) where
  passed : Passed bs
  passed = sound_passed bs t

  exact : (bs ≡ card_bytes (columns_in bs) passed.card) × (entries passed.card ≡ entry_count bs)
  exact = card_exact bs b passed.long passed.card passed.held

  pub sound_exact : Sound bs
  sound_exact = record {
    columns = columns_in bs;
    card = passed.card;
    bytes = exact.0;
    few = rw exact.1 passed.few;
    sized = passed.sized;
    fits = passed.fits;
  }
