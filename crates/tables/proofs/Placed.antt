-- A list with another in its place from some number on: its length, one after another, one over another, two apart, the list around a part that was lent, a
-- list copied element by element, and elements stored one after the other.
use mathlib.Core.Path.{◌≡◌, refl, sym, ap, ap₂, ◌∙◌}
use mathlib.Core.Bool.{Bool, true}
use mathlib.Core.List.{List, [], ◌∷◌, ◌++◌, append_assoc}
use Prim.Native.Nat.{ℕ, suc, ◌+◌, ◌-◌, ◌<◌, ◌≤◌}
use native.Mathlib.Nat.{zero-add, add-zero}
use native.Mathlib.Numerals.{add-one}
use native.Mathlib.Omega.{arith}
use lib.ListN.{length, get_or, take, drop, set, length-append, length-drop, length-set, take-append-drop}
use lib.Seq.{length-take-le, take_at, drop_at, take_all, take-suc, take-take, take-append-le, take-append-add, take-append_seam, drop-append-le, drop-append-add, drop-drop, set_split, sets, sets-eq}
use Rattle.tables.specs.Lists.{all, placed}
use Rattle.tables.proofs.Tabulated.{and_yes, all_append, all_parts}

module _ {A : Type 0} where
  -- ---- the length, and the whole list

  pub placed_length : (old : List A) (i : ℕ) (new : List A) → i + length new ≤ length old → length (placed old i new) ≡ length old
  unfolding placed
  placed_length old i new h =
      let l : i ≤ length old = omega arith in
      let t = length-take-le i old l in
      simp (length-append, length-drop) (omega arith)

  pub placed_none : (old : List A) (i : ℕ) → placed old i [] ≡ old
  unfolding placed
  placed_none old i = ap (λ (k : ℕ). take i old ++ drop k old) (add-zero i) ∙ take-append-drop i old

  pub placed_start : (old new : List A) → placed old 0 new ≡ new ++ drop (length new) old
  unfolding placed
  placed_start old new = ap (λ (k : ℕ). new ++ drop k old) (zero-add (length new))

  -- what was placed first
  pub taken_start : (old new : List A) → take (length new) (placed old 0 new) ≡ new
  taken_start old new = ap (take (length new)) (placed_start old new) ∙ take-append_seam new _

  -- one element
  pub placed_one : (old : List A) (i : ℕ) (x : A) → i < length old → set old i x ≡ placed old i (x ∷ [])
  unfolding placed
  placed_one old i x h = set_split old i x h ∙ ap (λ (k : ℕ). take i old ++ (x ∷ drop k old)) (sym (add-one i))

  -- ---- what is before and behind

  pub taken_before : (old : List A) (i : ℕ) (new : List A) → i ≤ length old → take i (placed old i new) ≡ take i old
  unfolding placed
  taken_before old i new h = take_at (take i old) _ i (length-take-le i old h)

  pub dropped_before : (old : List A) (i : ℕ) (new : List A) → i ≤ length old → drop i (placed old i new) ≡ new ++ drop (i + length new) old
  unfolding placed
  dropped_before old i new h = drop_at (take i old) _ i (length-take-le i old h)

  -- up to its end
  pub taken_through : (old : List A) (i : ℕ) (new : List A) → i ≤ length old → take (i + length new) (placed old i new) ≡ take i old ++ new
  unfolding placed
  taken_through old i new h =
      let t = length-take-le i old h in
      let front = take i old ++ new in
      let rest = drop (i + length new) old in
      ap (take (i + length new)) (sym (append_assoc (take i old) new rest)) ∙ take_at front rest (i + length new) (simp length-append (omega arith))

  -- behind the first m of what was placed
  pub dropped_part : (old : List A) (i : ℕ) (xs zs : List A) (m : ℕ) → i ≤ length old → length xs ≡ m
      → drop (i + m) (placed old i (xs ++ zs)) ≡ zs ++ drop (i + length (xs ++ zs)) old
  dropped_part old i xs zs m h e =
      sym (drop-drop m i (placed old i (xs ++ zs)))
      ∙ ap (drop m) (dropped_before old i (xs ++ zs) h ∙ append_assoc xs zs _)
      ∙ drop_at xs _ m e

  -- ---- one after another

  placed_then : (old : List A) (i : ℕ) (xs ys : List A) → i ≤ length old → placed (placed old i xs) (i + length xs) ys ≡ placed old i (xs ++ ys)
  unfolding placed
  placed_then old i xs ys h =
      let t : length (take i old ++ xs) ≡ i + length xs = simp (length-append, length-take-le i old h) in
      let whole : placed old i xs ≡ (take i old ++ xs) ++ drop (i + length xs) old = sym (append_assoc (take i old) xs _) in
      let low : take (i + length xs) (placed old i xs) ≡ take i old ++ xs = ap (take (i + length xs)) whole ∙ take_at (take i old ++ xs) _ _ t in
      let rest : drop (i + length xs) (placed old i xs) ≡ drop (i + length xs) old =
      ap (drop (i + length xs)) whole ∙ drop_at (take i old ++ xs) _ _ t in
      let z : i + length xs + length ys ≡ i + length (xs ++ ys) = omega (arith, length-append xs ys) in
      let high : drop (i + length xs + length ys) (placed old i xs) ≡ drop (i + length (xs ++ ys)) old =
      sym (drop-drop (length ys) (i + length xs) (placed old i xs))
      ∙ ap (drop (length ys)) rest
      ∙ drop-drop (length ys) (i + length xs) old
      ∙ ap (λ (k : ℕ). drop k old) z in
      ap₂ (λ (a b : List A). a ++ (ys ++ b)) low high
      ∙ append_assoc (take i old) xs _
      ∙ ap (λ (r : List A). take i old ++ r) (sym (append_assoc xs ys _))

  pub placed_next : (old : List A) (i : ℕ) (xs : List A) (j : ℕ) (ys : List A) → i ≤ length old → j ≡ i + length xs
      → placed (placed old i xs) j ys ≡ placed old i (xs ++ ys)
  placed_next old i xs j ys h e = ap (λ (k : ℕ). placed (placed old i xs) k ys) e ∙ placed_then old i xs ys h

  -- the front of what was placed, anew
  pub placed_over : (old : List A) (i : ℕ) (xs zs ys : List A) → i ≤ length old → length ys ≡ length xs
      → placed (placed old i (xs ++ zs)) i ys ≡ placed old i (ys ++ zs)
  unfolding placed
  placed_over old i xs zs ys h e =
      let z : i + length (xs ++ zs) ≡ i + length (ys ++ zs) = omega (arith, length-append xs zs, length-append ys zs) in
      ap₂ (λ (a b : List A). a ++ (ys ++ b)) (taken_before old i (xs ++ zs) h) (dropped_part old i xs zs (length ys) h (sym e))
      ∙ ap (λ (r : List A). take i old ++ r) (sym (append_assoc ys zs _) ∙ ap (λ (k : ℕ). (ys ++ zs) ++ drop k old) z)

  -- one in front of another
  pub placed_before : (old : List A) (i : ℕ) (xs : List A) (j : ℕ) (ys : List A) → j ≤ length old → j ≡ i + length xs
      → placed (placed old j ys) i xs ≡ placed old i (xs ++ ys)
  unfolding placed
  placed_before old i xs j ys h e =
      let l : i ≤ j = omega arith in
      let z : j + length ys ≡ i + length (xs ++ ys) = omega (arith, length-append xs ys) in
      let low : take i (placed old j ys) ≡ take i old =
      take-append-le i (take j old) _ (omega (arith, length-take-le j old h)) ∙ take-take i j old l in
      let high : drop (i + length xs) (placed old j ys) ≡ ys ++ drop (i + length (xs ++ ys)) old =
      ap (λ (k : ℕ). drop k (placed old j ys)) (sym e) ∙ dropped_before old j ys h ∙ ap (λ (k : ℕ). ys ++ drop k old) z in
      ap₂ (λ (a b : List A). a ++ (xs ++ b)) low high ∙ ap (λ (r : List A). take i old ++ r) (sym (append_assoc xs ys _))

  -- ---- a part from a to e that was lent and comes back as ys

  pub placed_lent : (xs : List A) (a e : ℕ) (ys : List A) → length ys ≡ e - a → take a xs ++ (ys ++ drop (e - a) (drop a xs)) ≡ placed xs a ys
  unfolding placed
  placed_lent xs a e ys h = ap (λ (r : List A). take a xs ++ (ys ++ r)) (drop-drop (e - a) a xs ∙ ap (λ (k : ℕ). drop (a + k) xs) (sym h))

  -- ---- copied element by element, from number i on

  -- the first k elements of another list are there
  pub record Copied (old : List A) (i : ℕ) (from new : List A) (k : ℕ) : Type 0 where
    pub long : length new ≡ length old
    pub is : new ≡ placed old i (take k from)

  pub copied_none : (old : List A) (i : ℕ) (from : List A) → Copied old i from old 0
  copied_none old i from = record { long = refl; is = sym (placed_none old i) }

  module _ {old : List A} {i : ℕ} {from new : List A} {k : ℕ} (c : Copied old i from new k) where
    -- one element more, at j
    pub copied_more : {x : A} (d : A) (j : ℕ) → x ≡ get_or from k d → j ≡ i + k → j < length old → k < length from → Copied old i from (set new j x) (k + 1)
    copied_more {x} d j e at h l =
        let same = c.long in
        let low : i ≤ length old = omega arith in
        let size = length-take-le k from (omega arith) in
        let place : j ≡ i + length (take k from) = omega arith in
        record {
          long = simp length-set same;
          is =
              placed_one new j x (omega arith)
              ∙ ap (λ (v : List A). placed v j (x ∷ [])) c.is
              ∙ placed_next old i (take k from) j (x ∷ []) low place
              ∙ ap (λ (v : A). placed old i (take k from ++ (v ∷ []))) e
              ∙ ap (placed old i) (sym (take-suc from k d l) ∙ ap (λ (n : ℕ). take n from) (sym (add-one k)));
        }

    -- as many as were to be copied, and all there are
    pub copied_to : (n : ℕ) → k ≡ n → new ≡ placed old i (take n from)
    copied_to n e = c.is ∙ ap (λ (n : ℕ). placed old i (take n from)) e

    pub copied_all : length from ≤ k → new ≡ placed old i from
    copied_all h = c.is ∙ ap (placed old i) (take_all k from h)

  -- from the start on
  module _ {old from new : List A} {k : ℕ} (c : Copied old 0 from new k) where
    pub copied_front : (n : ℕ) → k ≡ n → n ≤ length from → new ≡ take n from ++ drop n old
    copied_front n e h = copied_to c n e ∙ placed_start old (take n from) ∙ ap (λ (m : ℕ). take n from ++ drop m old) (length-take-le n from h)

    pub copied_same : (n : ℕ) → k ≡ n → n ≤ length from → take n new ≡ take n from
    copied_same n e h = ap (take n) (copied_front n e h) ∙ take_at (take n from) (drop n old) n (length-take-le n from h)

module _ {A : Type 0} where
  -- ---- stored one after the other, at places that are counted from the first one

  abbrev pub fill : List A → ℕ → ℕ → List A → List A
  fill l at k [] = l
  fill l at k (a ∷ y) = fill (set l (at + k) a) at (k + 1) y

  fill_sets : (y l : List A) (at k : ℕ) → fill l at k y ≡ sets l (at + k) y
  fill_sets [] l at k = refl
  fill_sets (a ∷ y) l at k =
      let e : at + (k + 1) ≡ suc (at + k) = omega arith in
      fill_sets y (set l (at + k) a) at (k + 1) ∙ ap (λ (j : ℕ). sets (set l (at + k) a) j y) e

  pub filled : (l : List A) (at : ℕ) (a : A) (y : List A) → at + length (a ∷ y) ≤ length l → fill (set l at a) at 1 y ≡ placed l at (a ∷ y)
  unfolding placed
  filled l at a y h = fill_sets y (set l at a) at 1 ∙ ap (λ (j : ℕ). sets (set l at a) j y) (add-one at) ∙ sets-eq (a ∷ y) l at h ∙ append_assoc (take at l) (a ∷ y) _

  -- ---- a record: some elements stored one after the other, and two lists placed behind them

  module _ (l : List A) (at : ℕ) (a : A) (y xs ys : List A) (room : at + length (((a ∷ y) ++ xs) ++ ys) ≤ length l) where
    abbrev long : (length ((a ∷ y) ++ xs) ≡ length (a ∷ y) + length xs) × (length (((a ∷ y) ++ xs) ++ ys) ≡ length ((a ∷ y) ++ xs) + length ys)
    long = (length-append (a ∷ y) xs, length-append ((a ∷ y) ++ xs) ys)

    front_put : fill (set l at a) at 1 y ≡ placed l at (a ∷ y)
    front_put = filled l at a y (omega (arith, long.0, long.1))

    pub front_length : length (fill (set l at a) at 1 y) ≡ length l
    front_length = ap length front_put ∙ placed_length l at (a ∷ y) (omega (arith, long.0, long.1))

    module _ {mid : List A} (j : ℕ) (p : mid ≡ placed (fill (set l at a) at 1 y) j xs) (e : j ≡ at + length (a ∷ y)) where
      left_put : mid ≡ placed l at ((a ∷ y) ++ xs)
      left_put = p ∙ ap (λ (m : List A). placed m j xs) front_put ∙ placed_next l at (a ∷ y) j xs (omega arith) e

      pub left_length : length mid ≡ length l
      left_length = ap length left_put ∙ placed_length l at ((a ∷ y) ++ xs) (omega (arith, long.1))

      pub record_put : {new : List A} (k : ℕ) → new ≡ placed mid k ys → k ≡ at + length ((a ∷ y) ++ xs) → new ≡ placed l at (((a ∷ y) ++ xs) ++ ys)
      record_put k q f = q ∙ ap (λ (m : List A). placed m k ys) left_put ∙ placed_next l at ((a ∷ y) ++ xs) k ys (omega arith) f

-- ---- placed in a part of a list, and apart from another

module _ {A : Type 0} where
  -- a part of the first of two lists
  pub part_within : (xs ys : List A) (a m : ℕ) → a + m ≤ length xs → take m (drop a (xs ++ ys)) ≡ take m (drop a xs)
  part_within xs ys a m h =
      ap (take m) (drop-append-le a xs ys (omega arith)) ∙ take-append-le m (drop a xs) ys (omega (arith, length-drop a xs))

  pub placed_behind : (xs ys : List A) (i j : ℕ) (new : List A) → i ≡ length xs + j → placed (xs ++ ys) i new ≡ xs ++ placed ys j new
  unfolding placed
  placed_behind xs ys i j new e =
      let z : i + length new ≡ length xs + (j + length new) = omega arith in
      ap₂ (λ (a b : List A). a ++ (new ++ b)) (ap (λ (k : ℕ). take k (xs ++ ys)) e ∙ take-append-add xs ys j)
      (ap (λ (k : ℕ). drop k (xs ++ ys)) z ∙ drop-append-add xs ys (j + length new))
      ∙ append_assoc xs (take j ys) _

  pub placed_within : (xs ys : List A) (i : ℕ) (new : List A) → i + length new ≤ length xs → placed (xs ++ ys) i new ≡ placed xs i new ++ ys
  unfolding placed
  placed_within xs ys i new h =
      ap₂ (λ (a b : List A). a ++ (new ++ b)) (take-append-le i xs ys (omega arith)) (drop-append-le (i + length new) xs ys h)
      ∙ ap (λ (l : List A). take i xs ++ l) (sym (append_assoc new _ ys))
      ∙ sym (append_assoc (take i xs) _ ys)

  pub placed_apart : (old : List A) (i : ℕ) (xs : List A) (j : ℕ) (ys : List A) → i + length xs ≤ j → j + length ys ≤ length old
      → placed (placed old i xs) j ys ≡ placed (placed old j ys) i xs
  placed_apart old i xs j ys h l =
      let front = take j old in
      let rest = drop j old in
      let whole : old ≡ front ++ rest = sym (take-append-drop j old) in
      let size : length front ≡ j = length-take-le j old (omega arith) in
      let inner = placed front i xs in
      let size' : length inner ≡ j = placed_length front i xs (omega arith) ∙ size in
      let at : j ≡ length inner + 0 = omega arith in
      let at' : j ≡ length front + 0 = omega arith in
      ap (λ (z : List A). placed (placed z i xs) j ys) whole
      ∙ ap (λ (z : List A). placed z j ys) (placed_within front rest i xs (omega arith))
      ∙ placed_behind inner rest j 0 ys at
      ∙ sym (placed_within front (placed rest 0 ys) i xs (omega arith))
      ∙ ap (λ (z : List A). placed z i xs) (sym (placed_behind front rest j 0 ys at') ∙ ap (λ (z : List A). placed z j ys) (sym whole))

-- ---- one element more

pub set_next : {A : Type 0} (old : List A) (i : ℕ) (xs : List A) (j : ℕ) (y : A) → i + length xs < length old → j ≡ i + length xs
    → set (placed old i xs) j y ≡ placed old i (xs ++ (y ∷ []))
set_next old i xs j y h e =
    placed_one (placed old i xs) j y (omega (arith, placed_length old i xs (omega arith))) ∙ placed_next old i xs j (y ∷ []) (omega arith) e

-- ---- a test of every element

module _ {A : Type 0} (p : A → Bool) where
  pub all_placed : (xs : List A) (j : ℕ) (ys : List A) → all p xs ≡ true → all p ys ≡ true → all p (placed xs j ys) ≡ true
  unfolding placed
  all_placed xs j ys e f =
      all_append p (take j xs) (ys ++ drop (j + length ys) xs)
      ∙ and_yes _ _ (all_parts p j xs e).0 (all_append p ys (drop (j + length ys) xs) ∙ and_yes _ _ f (all_parts p (j + length ys) xs e).1)
