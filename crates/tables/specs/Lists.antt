-- Lists: what the kit's libraries lack. Nothing here is said by a paper.
use Rattle.std.specs.Prelude.{Bool, true, false, ◌&&◌, ◌||◌, List, [], ◌∷◌, ◌++◌, ℕ, zero, suc, ◌+◌, eqb, get_or, length, take, drop}
use Rattle.std.proofs.Math.Option.{Option, none, some}

module _ {A : Type 0} where
  -- f 0, f 1, .. f (n − 1)
  abbrev pub tabulate : ℕ → (ℕ → A) → List A
  tabulate zero f = []
  tabulate (suc n) f = f 0 ∷ tabulate n (λ k. f (suc k))

  -- element n of a list, counted from 1; d where there is none
  abbrev pub numbered : List A → ℕ → A → A
  numbered xs zero d = d
  numbered xs (suc n) d = get_or xs n d

  -- the test p holds of some element, of every element
  abbrev pub any : (A → Bool) → List A → Bool
  any p [] = false
  any p (x ∷ xs) = p x || any p xs

  abbrev pub all : (A → Bool) → List A → Bool
  all p [] = true
  all p (x ∷ xs) = p x && all p xs

  -- x before xs, if it is kept
  abbrev pub put : Bool → A → List A → List A
  put true x xs = x ∷ xs
  put false x xs = xs

  -- the elements of which the test p holds, in their order
  abbrev pub keep : (A → Bool) → List A → List A
  keep p [] = []
  keep p (x ∷ xs) = put (p x) x (keep p xs)

  -- there is an element
  abbrev pub is_there_one : List A → Bool
  is_there_one [] = false
  is_there_one (x ∷ xs) = true

  -- a list with another in its place from number i on
  unfoldable pub placed : List A → ℕ → List A → List A
  placed old i new = take i old ++ (new ++ drop (i + length new) old)

-- the sum of a list
abbrev pub total : List ℕ → ℕ
total [] = 0
total (n ∷ ns) = n + total ns

-- the two lists are the same
abbrev pub same : List ℕ → List ℕ → Bool
same [] [] = true
same [] (b ∷ bs) = false
same (a ∷ as') [] = false
same (a ∷ as') (b ∷ bs) = eqb a b && same as' bs

-- ---- what may be missing

-- x, if the test holds
abbrev pub only : {A : Type 0} → Bool → A → Option A
only true x = some x
only false x = none

-- one after the other, as far as nothing is missing
infixl 10 ◌>>=◌
abbrev pub ◌>>=◌ : {A B : Type 0} → Option A → (A → Option B) → Option B
none >>= f = none
some x >>= f = f x

-- the first, or else the second
infixl 8 ◌<|>◌
abbrev pub ◌<|>◌ : {A : Type 0} → Option A → Option A → Option A
none <|> y = y
some x <|> y = some x

abbrev pub is_missing : {A : Type 0} → Option A → Bool
is_missing none = true
is_missing (some x) = false
