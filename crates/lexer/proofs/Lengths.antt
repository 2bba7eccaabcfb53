-- How many bytes a token takes: at least one, and no more than there are.
use mathlib.Core.Path.{◌≡◌, refl}
use mathlib.Core.Bool.{Bool, true, false, ◌||◌}
use mathlib.Core.List.{List, [], ◌∷◌}
use mathlib.Core.Option.{Option, none, some, map}
use Prim.Native.Nat.{ℕ, suc, ◌≤◌}
use native.Mathlib.Omega.{arith}
use lib.Dec.{T, eqb, leb, leb→le}
use lib.IntN.{ℤ}
use lib.ListN.{length}
use Rattle.tables.specs.Lists.{same, all}
use Rattle.tables.proofs.Tests.{both, is_so}
use Rattle.numerals.specs.Texts.{bytes, take_while}
use Rattle.numerals.specs.Numerals.{is_digit, minus, first_number}
use Rattle.numerals.proofs.Runs.{run_length}
use Rattle.numerals.proofs.Reading.{first_told}
use Rattle.rule.specs.Tokens.{Lexed, Spelling, begins, words, word_in, signs, sign_in, number_token, number_from, first_token, is_capital, is_small}
use Rattle.rule.specs.declared.Token.TheVariants.{Letter}

-- the token found, if any, takes at least one byte and at most so many
abbrev pub Takes : ℕ → Option Lexed → Type 0
Takes most none = Unit {0}
Takes most (some x) = (1 ≤ x.1) × (x.1 ≤ most)

takes_more : (a b : ℕ) (x : Option Lexed) → a ≤ b → Takes a x → Takes b x
takes_more a b none h t = tt
takes_more a b (some x) h t = (t.0, omega (arith, t.1, h))

word_takes : (ss : List Spelling) (w : List ℕ) → 1 ≤ length w → Takes (length w) (word_in ss w)
unfolding word_in
word_takes [] w h = tt
word_takes (s ∷ ss) w h = go (same s.text w) (word_takes ss w h)
  where
    go : (t : Bool) → Takes (length w) (word_in ss w) → Takes (length w) (elim t [ true ↦ some (s.token, length w) | false ↦ word_in ss w ])
    go true r = (h, omega arith)
    go false r = r

number_takes : (text : List ℕ) → Takes (length text) (number_from text)
unfolding number_from
number_takes text = go (first_number text) refl
  where
    go : (o : Option (ℤ × ℕ)) → first_number text ≡ o → Takes (length text) (map number_token o)
    go none e = tt
    go (some x) e = let f = first_told text x.0 x.1 e in (f.some_byte, f.within)

begins_length : (a b : List ℕ) → T (begins a b) → length a ≤ length b
begins_length [] b h = omega arith
begins_length (x ∷ a) [] h = absurd h
begins_length (x ∷ a) (y ∷ b) h = let r = begins_length a b (both (eqb x y) (begins a b) h).1 in omega (arith, r)

abbrev not_empty : Spelling → Bool
not_empty s = leb 1 (length s.text)

no_sign_empty : T (all not_empty signs)
unfolding signs bytes
no_sign_empty = tt

sign_takes : (ss : List Spelling) (l : List ℕ) → T (all not_empty ss) → Takes (length l) (sign_in ss l)
unfolding sign_in
sign_takes [] l f = tt
sign_takes (s ∷ ss) l f =
    let (p, q) = both (not_empty s) (all not_empty ss) f in
    go (begins s.text l) refl (leb→le 1 (length s.text) p) (sign_takes ss l q)
  where
    go : (t : Bool) → begins s.text l ≡ t → 1 ≤ length s.text → Takes (length l) (sign_in ss l)
        → Takes (length l) (elim t [ true ↦ some (s.token, length s.text) | false ↦ sign_in ss l ])
    go true e h r = (h, begins_length s.text l (is_so _ e))
    go false e h r = r

-- the run that starts at a byte of the class
run_starts : (p : ℕ → Bool) (b : ℕ) (bs : List ℕ) → p b ≡ true → 1 ≤ length (take_while p (b ∷ bs))
unfolding take_while
run_starts p b bs e = rw (take_while, e) (omega arith)

-- ---- by the class of the first byte

module _ (b : ℕ) (bs : List ℕ) where
  abbrev capitals : List ℕ
  capitals = take_while is_capital (b ∷ bs)

  capital_takes : is_capital b ≡ true → Takes (suc (length bs)) (word_in words capitals)
  capital_takes e =
      takes_more (length capitals) (suc (length bs)) (word_in words capitals) (run_length is_capital (b ∷ bs)) (word_takes words capitals (run_starts is_capital b bs e))

  pub first_takes : Takes (suc (length bs)) (first_token b bs)
  unfolding first_token
  first_takes = go (is_capital b) refl (is_small b) (is_digit b || eqb b minus)
    where
      go : (capital : Bool) → is_capital b ≡ capital → (small number : Bool)
          → Takes (suc (length bs)) (elim capital [
            | true ↦ word_in words capitals
            | false ↦
                elim small [
                  | true ↦ some (Letter b, 1)
                  | false ↦ elim number [ true ↦ number_from (b ∷ bs) | false ↦ sign_in signs (b ∷ bs) ]
                ]
          ])
      go true e small number = capital_takes e
      go false e true number = (omega arith, omega arith)
      go false e false true = number_takes (b ∷ bs)
      go false e false false = sign_takes signs (b ∷ bs) no_sign_empty
