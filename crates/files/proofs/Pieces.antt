-- Pieces of one width, one after another: how long they are together, the first and the rest of them, one of them, and pieces placed among them.
use mathlib.Core.Path.{◌≡◌, refl, sym, ap, ap₂, ◌∙◌}
use mathlib.Core.List.{List, [], ◌∷◌, ◌++◌, flat_map, append_assoc}
use Prim.Native.Nat.{ℕ, zero, suc, ◌+◌, ◌*◌, ◌<◌, ◌≤◌, suc-le-suc}
use native.Mathlib.Nat.{mul-zero, mul-suc, mul-add, mul-le-mul, add-zero, add_comm, add_assoc, le_refl}
use native.Mathlib.Omega.{arith}
use lib.ListN.{length, get_or, take, drop, length-append, get_or-append}
use lib.Seq.{take-append-add, drop-append-add, take-add, take-nil, drop-nil, drop-cons, drop-drop, get_or-drop}
use Rattle.tables.specs.Lists.{tabulate, placed}
use Rattle.tables.proofs.Placed.{part_within}

module _ {A B : Type 0} (f : A → List B) where
  pub pieces_append : (xs ys : List A) → flat_map f (xs ++ ys) ≡ flat_map f xs ++ flat_map f ys
  unfolding flat_map
  pieces_append [] ys = refl
  pieces_append (x ∷ xs) ys = ap (λ (l : List B). f x ++ l) (pieces_append xs ys) ∙ sym (append_assoc (f x) (flat_map f xs) (flat_map f ys))

  -- pieces that are those of a list, from number a on
  pub pieces_read : (w : ℕ) (n : ℕ) (g : ℕ → A) (bs : List B) (a : ℕ) → ((k : ℕ) → k < n → f (g k) ≡ take w (drop (a + w * k) bs))
      → flat_map f (tabulate n g) ≡ take (w * n) (drop a bs)
  unfolding flat_map
  pieces_read w zero g bs a h = ap (λ (m : ℕ). take m (drop a bs)) (sym (mul-zero w))
  pieces_read w (suc n) g bs a h =
      let first : a + w * 0 ≡ a = ap (λ (m : ℕ). a + m) (mul-zero w) ∙ add-zero a in
      let next : (k : ℕ) → a + w * suc k ≡ a + w + w * k =
      λ k. ap (λ (m : ℕ). a + m) (mul-suc w k ∙ add_comm (w * k) w) ∙ sym (add_assoc a w (w * k)) in
      ap₂ ◌++◌ (h 0 (omega arith) ∙ ap (λ (m : ℕ). take w (drop m bs)) first)
      (pieces_read w n (λ k. g (suc k)) bs (a + w) (λ k l. h (suc k) (suc-le-suc l) ∙ ap (λ (m : ℕ). take w (drop m bs)) (next k))
      ∙ ap (take (w * n)) (sym (drop-drop w a bs)))
      ∙ sym (take-add w (w * n) (drop a bs))
      ∙ ap (λ (m : ℕ). take m (drop a bs)) (sym (mul-suc w n ∙ add_comm (w * n) w))

module _ {A B : Type 0} (f : A → List B) (w : ℕ) (each : (x : A) → length (f x) ≡ w) where
  -- one piece more
  width_more : (x : A) (k : ℕ) → w * suc k ≡ length (f x) + w * k
  width_more x k = mul-suc w k ∙ add_comm (w * k) w ∙ ap (λ (v : ℕ). v + w * k) (sym (each x))

  pub pieces_length : (xs : List A) → length (flat_map f xs) ≡ w * length xs
  unfolding flat_map
  pieces_length [] = sym (mul-zero w)
  pieces_length (x ∷ xs) =
      length-append (f x) (flat_map f xs) ∙ ap (λ (n : ℕ). length (f x) + n) (pieces_length xs) ∙ sym (width_more x (length xs))

  pub pieces_take : (k : ℕ) (xs : List A) → flat_map f (take k xs) ≡ take (w * k) (flat_map f xs)
  unfolding flat_map
  pieces_take zero xs = ap (λ (n : ℕ). take n (flat_map f xs)) (sym (mul-zero w))
  pieces_take (suc k) [] = sym (take-nil (w * suc k))
  pieces_take (suc k) (x ∷ xs) =
      ap (λ (l : List B). f x ++ l) (pieces_take k xs)
      ∙ sym (take-append-add (f x) (flat_map f xs) (w * k))
      ∙ ap (λ (n : ℕ). take n (f x ++ flat_map f xs)) (sym (width_more x k))

  pub pieces_drop : (k : ℕ) (xs : List A) → flat_map f (drop k xs) ≡ drop (w * k) (flat_map f xs)
  unfolding flat_map
  pieces_drop zero xs = ap (λ (n : ℕ). drop n (flat_map f xs)) (sym (mul-zero w))
  pieces_drop (suc k) [] = sym (drop-nil (w * suc k))
  pieces_drop (suc k) (x ∷ xs) =
      pieces_drop k xs ∙ sym (drop-append-add (f x) (flat_map f xs) (w * k)) ∙ ap (λ (n : ℕ). drop n (f x ++ flat_map f xs)) (sym (width_more x k))

  -- element i of piece k
  pub piece_at : (xs : List A) (k i : ℕ) (x : A) (d : B) → k < length xs → i < w → get_or (flat_map f xs) (w * k + i) d ≡ get_or (f (get_or xs k x)) i d
  unfolding flat_map
  piece_at xs k i x d h l =
      sym (get_or-drop (w * k) (flat_map f xs) i d)
      ∙ ap (λ (l : List B). get_or l i d) (sym (pieces_drop k xs) ∙ ap (flat_map f) (drop-cons xs k x h))
      ∙ get_or-append (f (get_or xs k x)) _ d i (omega (arith, each (get_or xs k x)))

  pub pieces_placed : (xs : List A) (j : ℕ) (ys : List A) → flat_map f (placed xs j ys) ≡ placed (flat_map f xs) (w * j) (flat_map f ys)
  unfolding placed
  pieces_placed xs j ys =
      let z : w * (j + length ys) ≡ w * j + length (flat_map f ys) = mul-add w j (length ys) ∙ ap (λ (n : ℕ). w * j + n) (sym (pieces_length ys)) in
      pieces_append f (take j xs) (ys ++ drop (j + length ys) xs)
      ∙ ap₂ ◌++◌ (pieces_take j xs)
      (pieces_append f ys (drop (j + length ys) xs)
      ∙ ap (λ (l : List B). flat_map f ys ++ l) (pieces_drop (j + length ys) xs ∙ ap (λ (n : ℕ). drop n (flat_map f xs)) z))

  -- a run of pieces, where those of a list stand in another from number a on
  pub pieces_run : (bs : List B) (a : ℕ) (xs : List A) (rest : List B) (j n : ℕ) → flat_map f xs ++ rest ≡ drop a bs → j + n ≤ length xs
      → take (w * n) (drop (a + w * j) bs) ≡ flat_map f (take n (drop j xs))
  pieces_run bs a xs rest j n e h =
      let z : w * j + w * n ≤ length (flat_map f xs) =
      rw (← mul-add w j n, pieces_length) (mul-le-mul {n₁ = w} {m₁ = j + n} {n₂ = w} {m₂ = length xs} (le_refl w) h) in
      ap (take (w * n)) (sym (drop-drop (w * j) a bs) ∙ ap (drop (w * j)) (sym e))
      ∙ part_within (flat_map f xs) rest (w * j) (w * n) z
      ∙ sym (pieces_take n (drop j xs) ∙ ap (take (w * n)) (pieces_drop j xs))
