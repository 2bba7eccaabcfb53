-- Runs of bytes of one class, from a place of a text on.
use mathlib.Core.Path.{◌≡◌, refl, sym, ap, ◌∙◌}
use mathlib.Core.Bool.{Bool, true, false}
use mathlib.Core.List.{List, [], ◌∷◌, ◌++◌}
use Prim.Native.Nat.{ℕ, zero, suc, ◌+◌, ◌-◌, ◌≤◌, ◌<◌, suc-le-suc}
use native.Mathlib.Nat.{le_of_suc-le-suc, not-suc-le-zero}
use native.Mathlib.Numerals.{add-one}
use native.Mathlib.Omega.{arith}
use lib.ListN.{length, take, drop, get_or, length-drop, drop_of_length-le}
use lib.Seq.{drop-cons, take_all}
use Rattle.tables.specs.Lists.{all}
use Rattle.tables.proofs.Tests.{both, is_so, is_true}
use Rattle.numerals.specs.Texts.{take_while}

-- a byte before a run, if it is of the class
abbrev joined : Bool → ℕ → List ℕ → List ℕ
joined t b run = elim t [ true ↦ b ∷ run | false ↦ [] ]

module _ (p : ℕ → Bool) where
  pub run_on : (text : List ℕ) (e : ℕ) → e < length text → p (get_or text e 0) ≡ true → take_while p (drop e text) ≡ get_or text e 0 ∷ take_while p (drop (suc e) text)
  unfolding take_while
  run_on text e h t = rw (drop-cons text e 0, take_while, t)

  pub run_off : (text : List ℕ) (e : ℕ) → e < length text → p (get_or text e 0) ≡ false → take_while p (drop e text) ≡ []
  unfolding take_while
  run_off text e h t = rw (drop-cons text e 0, take_while, t)

  pub run_out : (text : List ℕ) (e : ℕ) → length text ≤ e → take_while p (drop e text) ≡ []
  unfolding take_while
  run_out text e h = rw (drop_of_length-le text h)

  pub run_cons : (b : ℕ) (bs : List ℕ) → p b ≡ true → take_while p (b ∷ bs) ≡ b ∷ take_while p bs
  unfolding take_while
  run_cons b bs e = rw (take_while, e)

  pub run_nil : (b : ℕ) (bs : List ℕ) → p b ≡ false → take_while p (b ∷ bs) ≡ []
  unfolding take_while
  run_nil b bs e = rw (take_while, e)

  pub run_length : (l : List ℕ) → length (take_while p l) ≤ length l
  unfolding take_while
  run_length [] = omega arith
  run_length (b ∷ bs) = go (p b) (run_length bs)
    where
      go : (t : Bool) → length (take_while p bs) ≤ length bs → length (joined t b (take_while p bs)) ≤ suc (length bs)
      go true h = suc-le-suc h
      go false h = omega arith

  -- a run is what the text begins with
  pub run_take : (l : List ℕ) → take (length (take_while p l)) l ≡ take_while p l
  unfolding take_while
  run_take [] = refl
  run_take (b ∷ bs) = go (p b) (run_take bs)
    where
      go : (t : Bool) → take (length (take_while p bs)) bs ≡ take_while p bs
          → take (length (joined t b (take_while p bs))) (b ∷ bs) ≡ joined t b (take_while p bs)
      go true h = ap (λ (l : List ℕ). b ∷ l) h
      go false h = refl

  -- and every byte of it is of the class
  pub run_class : (l : List ℕ) (k : ℕ) → k < length (take_while p l) → p (get_or l k 0) ≡ true
  unfolding take_while
  run_class [] k h = absurd (not-suc-le-zero h)
  run_class (b ∷ bs) k h = go (p b) refl (run_class bs) k h
    where
      go : (t : Bool) → p b ≡ t → ((k : ℕ) → k < length (take_while p bs) → p (get_or bs k 0) ≡ true) → (k : ℕ) → k < length (joined t b (take_while p bs)) → p (get_or (b ∷ bs) k 0) ≡ true
      go true e r zero h = e
      go true e r (suc k) h = r k (le_of_suc-le-suc h)
      go false e r k h = absurd (not-suc-le-zero h)

  pub run_all : (l : List ℕ) → all p (take_while p l) ≡ true
  unfolding take_while
  run_all [] = refl
  run_all (b ∷ bs) = go (p b) refl (run_all bs)
    where
      go : (t : Bool) → p b ≡ t → all p (take_while p bs) ≡ true → all p (joined t b (take_while p bs)) ≡ true
      go true e r = rw e r
      go false e r = refl

  -- a text of bytes of the class is its own run, and so is one that its run is as long as
  pub run_whole : (l : List ℕ) → all p l ≡ true → take_while p l ≡ l
  unfolding take_while
  run_whole [] h = refl
  run_whole (b ∷ bs) h =
      let (e, r) = both (p b) (all p bs) (is_so _ h) in
      run_cons b bs (is_true _ e) ∙ ap (λ (l : List ℕ). b ∷ l) (run_whole bs (is_true _ r))

  pub run_full : (l : List ℕ) → length (take_while p l) ≡ length l → take_while p l ≡ l
  run_full l e = sym (run_take l) ∙ take_all (length (take_while p l)) l (omega arith)

  -- a run does not go on into a text that begins with another byte
  pub run_stops : (l rest : List ℕ) → p (get_or rest 0 0) ≡ false → take_while p (l ++ rest) ≡ take_while p l
  unfolding take_while
  run_stops [] [] e = refl
  run_stops [] (r ∷ rest) e = run_nil r rest e
  run_stops (b ∷ bs) rest e = ap (λ (l : List ℕ). joined (p b) b l) (run_stops bs rest e)

  -- what follows it is not
  pub after_run : (l : List ℕ) → length (take_while p l) < length l → p (get_or l (length (take_while p l)) 0) ≡ false
  unfolding take_while
  after_run [] h = absurd (not-suc-le-zero h)
  after_run (b ∷ bs) h = go (p b) refl (after_run bs) h
    where
      go : (t : Bool) → p b ≡ t → (length (take_while p bs) < length bs → p (get_or bs (length (take_while p bs)) 0) ≡ false)
          → length (joined t b (take_while p bs)) < suc (length bs) → p (get_or (b ∷ bs) (length (joined t b (take_while p bs))) 0) ≡ false
      go true e r h = r (le_of_suc-le-suc h)
      go false e r h = e

-- ---- a run that is passed byte by byte: i is its start, and it has come to e
pub record Passed (p : ℕ → Bool) (text : List ℕ) (i e : ℕ) : Type 0 where
  pub from : i ≤ e
  pub within : e ≤ length text
  pub still : i + length (take_while p (drop i text)) ≡ e + length (take_while p (drop e text))

pub passed_none : (p : ℕ → Bool) (text : List ℕ) (i : ℕ) → i ≤ length text → Passed p text i i
passed_none p text i h = record { from = omega arith; within = h; still = refl }

module _ (p : ℕ → Bool) (text : List ℕ) (i e b : ℕ) (h : Passed p text i e) where
  pub passed_more : e < length text → b ≡ get_or text e 0 → p b ≡ true → Passed p text i (e + 1)
  passed_more l w t =
      let on = ap length (run_on p text e l (ap p (sym w) ∙ t)) in
      record { from = omega arith; within = omega arith; still = rw (add-one e) (omega (arith, on)) }

  pub passed_stop : e < length text → b ≡ get_or text e 0 → p b ≡ false → e ≡ i + length (take_while p (drop i text))
  passed_stop l w t = let off = ap length (run_off p text e l (ap p (sym w) ∙ t)) in omega (arith, off)

pub passed_all : (p : ℕ → Bool) (text : List ℕ) (i e : ℕ) → Passed p text i e → length text ≤ e → e ≡ i + length (take_while p (drop i text))
passed_all p text i e h l = let out = ap length (run_out p text e l) in omega (arith, out)

-- where a run ends
pub run_within : (p : ℕ → Bool) (text : List ℕ) (i e : ℕ) → i ≤ length text → e ≡ i + length (take_while p (drop i text))
    → (i ≤ e) × (e ≤ length text) × (e - i ≡ length (take_while p (drop i text)))
run_within p text i e h w = let l = run_length p (drop i text) in let d = length-drop i text in (omega arith, omega arith, omega arith)
