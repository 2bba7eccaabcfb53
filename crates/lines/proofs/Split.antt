-- A text and the pieces between the bytes of one kind in it: split and joined again, and where the first piece ends; what is read of each of some pieces.
use mathlib.Core.Path.{◌≡◌, refl, sym, ap, ap₂, ◌∙◌}
use mathlib.Core.Bool.{Bool, true, false, not}
use mathlib.Core.List.{List, [], ◌∷◌, ◌++◌}
use mathlib.Core.Option.{Option, none, some}
use Prim.Native.Nat.{ℕ, zero, suc, ◌<◌}
use native.Mathlib.Nat.{le_of_suc-le-suc, not-suc-le-zero}
use native.Mathlib.Omega.{arith}
use borrow.Author.Tests.{eqb-true, eqb-false, eq-eqb, ne_eqb, not-true}
use lib.Dec.{eqb}
use lib.ListN.{length, get_or}
use Rattle.tables.specs.Lists.{all, ◌>>=◌}
use Rattle.tables.proofs.Tabulated.{and_yes, and_parts, all_at, all_append}
use Rattle.lines.specs.Lines.{before, split, joined, each}

-- ---- bytes that do not occur

-- no byte of a text is this one
abbrev pub lacks : ℕ → List ℕ → Bool
lacks at t = all (λ b. not (eqb b at)) t

pub lacks_cons : (at b : ℕ) (bs : List ℕ) → (b ≡ at → ⊥) → lacks at bs ≡ true → lacks at (b ∷ bs) ≡ true
lacks_cons at b bs h e = and_yes (not (eqb b at)) (lacks at bs) (ap not (ne_eqb b at h)) e

pub lacks_append : (at : ℕ) (t u : List ℕ) → lacks at t ≡ true → lacks at u ≡ true → lacks at (t ++ u) ≡ true
lacks_append at t u e f = all_append (λ b. not (eqb b at)) t u ∙ and_yes (lacks at t) (lacks at u) e f

-- the first byte is another one, and the rest lacks it too
pub lacks_told : (at b : ℕ) (bs : List ℕ) → lacks at (b ∷ bs) ≡ true → (eqb b at ≡ false) × (lacks at bs ≡ true)
lacks_told at b bs e = let (p, q) = and_parts (not (eqb b at)) (lacks at bs) e in (not-true (eqb b at) p, q)

-- so any of its bytes is another one
pub lacks_at : (at : ℕ) (t : List ℕ) → lacks at t ≡ true → (k : ℕ) → k < length t → get_or t k 0 ≡ at → ⊥
lacks_at at t e k h same = eqb-false (get_or t k 0) at (not-true _ (all_at (λ b. not (eqb b at)) t e k 0 h)) same

-- ---- split

module _ (at : ℕ) where
  pub split_here : (b : ℕ) (bs : List ℕ) → eqb b at ≡ true → split at (b ∷ bs) ≡ [] ∷ split at bs
  unfolding split
  split_here b bs e = rw (split, e)

  pub split_other : (b : ℕ) (bs : List ℕ) → eqb b at ≡ false → split at (b ∷ bs) ≡ before b (split at bs)
  unfolding split
  split_other b bs e = rw (split, e)

  -- there is a first piece
  pub split_first : (t : List ℕ) → (piece : List ℕ) × (pieces : List (List ℕ)) × (split at t ≡ piece ∷ pieces)
  unfolding split
  split_first [] = ([], [], refl)
  split_first (b ∷ bs) = go (eqb b at) refl (split_first bs)
    where
      go : (t : Bool) → eqb b at ≡ t → ((piece : List ℕ) × (pieces : List (List ℕ)) × (split at bs ≡ piece ∷ pieces))
          → (piece : List ℕ) × (pieces : List (List ℕ)) × (split at (b ∷ bs) ≡ piece ∷ pieces)
      go true e r = ([], split at bs, split_here b bs e)
      go false e r = (b ∷ r.0, r.1, split_other b bs e ∙ ap (before b) r.2)

  -- a text without the byte is one piece
  pub split_whole : (t : List ℕ) → lacks at t ≡ true → split at t ≡ t ∷ []
  unfolding split
  split_whole [] e = refl
  split_whole (b ∷ bs) e = let (p, q) = lacks_told at b bs e in split_other b bs p ∙ ap (before b) (split_whole bs q)

  -- and else the first piece ends where the byte first stands
  pub split_next : (t u : List ℕ) → lacks at t ≡ true → split at (t ++ (at ∷ u)) ≡ t ∷ split at u
  split_next [] u e = split_here at u (eq-eqb at at refl)
  split_next (b ∷ bs) u e = let (p, q) = lacks_told at b bs e in split_other b (bs ++ (at ∷ u)) p ∙ ap (before b) (split_next bs u q)

  -- ---- joined

  joined_before : (b : ℕ) (pieces : List (List ℕ)) → joined at (before b pieces) ≡ b ∷ joined at pieces
  unfolding joined
  joined_before b [] = refl
  joined_before b (piece ∷ []) = refl
  joined_before b (piece ∷ next ∷ pieces) = refl

  joined_empty : (piece : List ℕ) (pieces : List (List ℕ)) → joined at ([] ∷ piece ∷ pieces) ≡ at ∷ joined at (piece ∷ pieces)
  unfolding joined
  joined_empty piece pieces = refl

  -- the pieces of a text, joined, are the text
  pub split_joined : (t : List ℕ) → joined at (split at t) ≡ t
  unfolding split joined
  split_joined [] = refl
  split_joined (b ∷ bs) = go (eqb b at) refl (split_joined bs)
    where
      go : (t : Bool) → eqb b at ≡ t → joined at (split at bs) ≡ bs → joined at (split at (b ∷ bs)) ≡ b ∷ bs
      go true e r =
          let (piece, pieces, is) = split_first bs in
          ap (joined at) (split_here b bs e ∙ ap (λ (l : List (List ℕ)). [] ∷ l) is)
          ∙ joined_empty piece pieces
          ∙ ap₂ ◌∷◌ (sym (eqb-true b at e)) (ap (joined at) (sym is) ∙ r)
      go false e r = ap (joined at) (split_other b bs e) ∙ joined_before b (split at bs) ∙ ap (λ (l : List ℕ). b ∷ l) r

-- ---- what is read of each of some pieces

-- what is found one after the other
pub next_told : {A B : Type 0} (o : Option A) (f : A → Option B) (y : B) → (o >>= f) ≡ some y → (x : A) × (o ≡ some x) × (f x ≡ some y)
next_told none f y e = let z : ◌≡◌ {A = ℕ} 0 1 = cc in absurd (omega arith)
next_told (some x) f y e = (x, refl, e)

module _ {A B : Type 0} (read : A → Option B) where
  pub each_cons : (x : A) (xs : List A) (y : B) (ys : List B) → read x ≡ some y → each read xs ≡ some ys → each read (x ∷ xs) ≡ some (y ∷ ys)
  unfolding each
  each_cons x xs y ys e f = rw (each, e, f)

  pub each_told : (x : A) (xs : List A) (l : List B) → each read (x ∷ xs) ≡ some l
      → (y : B) × (ys : List B) × (read x ≡ some y) × (each read xs ≡ some ys) × (y ∷ ys ≡ l)
  unfolding each
  each_told x xs l e =
      let (y, p, f) = next_told (read x) (λ y. each read xs >>= λ ys. some (y ∷ ys)) l e in
      let (ys, q, g) = next_told (each read xs) (λ ys. some (y ∷ ys)) l f in
      let same : y ∷ ys ≡ l = cc in
      (y, ys, p, q, same)

  pub each_nil : (l : List B) → each read [] ≡ some l → l ≡ []
  unfolding each
  each_nil l e = let same : l ≡ [] = cc in same

  -- as many as there are pieces
  pub each_length : (xs : List A) (l : List B) → each read xs ≡ some l → length l ≡ length xs
  each_length [] l e = ap length (each_nil l e)
  each_length (x ∷ xs) l e =
      let (y, ys, p, q, is) = each_told x xs l e in ap length (sym is) ∙ ap suc (each_length xs ys q)

  -- one of them
  pub each_at : (xs : List A) (l : List B) → each read xs ≡ some l → (k : ℕ) (a : A) (b : B) → k < length xs → read (get_or xs k a) ≡ some (get_or l k b)
  each_at [] l e k a b h = absurd (not-suc-le-zero h)
  each_at (x ∷ xs) l e zero a b h =
      let (y, ys, p, q, is) = each_told x xs l e in p ∙ ap (λ (l : List B). some (get_or l 0 b)) is
  each_at (x ∷ xs) l e (suc k) a b h =
      let (y, ys, p, q, is) = each_told x xs l e in
      each_at xs ys q k a b (le_of_suc-le-suc h) ∙ ap (λ (l : List B). some (get_or l (suc k) b)) is
