-- What stands behind a field: a comma, a line end, or something else.
use mathlib.Core.Path.{◌≡◌, refl, sym, ap, ◌∙◌}
use mathlib.Core.Bool.{Bool, true, false, cond}
use mathlib.Core.List.{List, [], ◌∷◌}
use Rattle.std.proofs.Math.Option.{none, some}
use Prim.Native.Nat.{ℕ, zero, suc, ◌+◌, ◌-◌, ◌<◌, ◌≤◌}
use native.Mathlib.Omega.{arith}
use borrow.Author.Tests.{eq-eqb, ne_eqb}
use lib.Dec.{eqb}
use lib.ListN.{length, take, drop, get_or, length-drop}
use lib.Seq.{take_all}
use Rattle.tables.specs.Lists.{only}
use Rattle.lines.specs.Lines.{comma, line_feed, carriage_return}
use Rattle.importer.specs.Code.{feed_from, end_from, comma_from, behind_from, place_after}
use Rattle.std.specs.Prelude.{Some, None}

-- ---- what is found

pub end_feed : (b : ℕ) (rest : List ℕ) → b ≡ line_feed → end_from (b ∷ rest) ≡ some 1
unfolding end_from
end_feed b rest e = rw (eq-eqb b line_feed e)

pub end_return : (b : ℕ) (rest : List ℕ) → b ≡ carriage_return → end_from (b ∷ rest) ≡ feed_from rest
unfolding end_from
end_return b rest e = rw (ne_eqb b line_feed (λ z. omega arith), eq-eqb b carriage_return e)

-- behind a CR
pub feed_there : (c : ℕ) (rest : List ℕ) → c ≡ line_feed → feed_from (c ∷ rest) ≡ some 2
unfolding feed_from
feed_there c rest f = rw (eq-eqb c line_feed f)

-- the bytes that are looked at stand before the rest
pub tail_whole : (text : List ℕ) (i : ℕ) → take (length text - i) (drop i text) ≡ drop i text
tail_whole text i = take_all (length text - i) (drop i text) (omega (arith, length-drop i text))

module _ (i : ℕ) where
  -- the last line may have no end
  pub ended : (rest : List ℕ) → length rest < 1 → Some i ≡ place_after i (behind_from 0 rest)
  unfolding behind_from end_from
  ended [] h = let z : i ≡ i + 0 = omega arith in ap Some z
  ended (b ∷ rest) h = absurd (omega arith)

  pub fed : (rest : List ℕ) → 1 ≤ length rest → get_or rest 0 0 ≡ line_feed → Some (i + 1) ≡ place_after i (behind_from 0 rest)
  unfolding behind_from
  fed [] h e = absurd (omega arith)
  fed (b ∷ rest) h e = sym (ap (place_after i) (end_feed b rest e))

  pub returned : (rest : List ℕ) → 2 ≤ length rest → get_or rest 0 0 ≡ carriage_return → get_or rest 1 0 ≡ line_feed → Some (i + 2) ≡ place_after i (behind_from 0 rest)
  unfolding behind_from
  returned [] h e f = absurd (omega arith)
  returned (b ∷ []) h e f = absurd (omega arith)
  returned (b ∷ c ∷ rest) h e f = sym (ap (place_after i) (end_return b (c ∷ rest) e ∙ feed_there c rest f))

  pub other : (rest : List ℕ) → 1 ≤ length rest → (get_or rest 0 0 ≡ line_feed → ⊥) → (get_or rest 0 0 ≡ carriage_return → ⊥) → None ≡ place_after i (behind_from 0 rest)
  unfolding behind_from end_from
  other [] h f g = absurd (omega arith)
  other (b ∷ rest) h f g = rw (ne_eqb b line_feed f, ne_eqb b carriage_return g)

  pub unfed : (rest : List ℕ) → 2 ≤ length rest → get_or rest 0 0 ≡ carriage_return → (get_or rest 1 0 ≡ line_feed → ⊥) → None ≡ place_after i (behind_from 0 rest)
  unfolding behind_from feed_from
  unfed [] h e f = absurd (omega arith)
  unfed (b ∷ []) h e f = absurd (omega arith)
  unfed (b ∷ c ∷ rest) h e f = rw (end_return b (c ∷ rest) e, ne_eqb c line_feed f)

  pub alone : (rest : List ℕ) → 1 ≤ length rest → length rest < 2 → (get_or rest 0 0 ≡ line_feed → ⊥) → None ≡ place_after i (behind_from 0 rest)
  unfolding behind_from end_from feed_from
  alone [] h l f = absurd (omega arith)
  alone (b ∷ c ∷ rest) h l f = absurd (omega arith)
  alone (b ∷ []) h l f = rw (ne_eqb b line_feed f) (go (eqb b carriage_return))
    where
      go : (t : Bool) → None ≡ place_after i (cond t none none)
      go true = refl
      go false = refl

  -- where fields of the line are left
  pub uncommaed : (left : ℕ) (rest : List ℕ) → (left ≡ 0 → ⊥) → length rest < 1 → None ≡ place_after i (behind_from left rest)
  unfolding behind_from comma_from
  uncommaed zero rest f h = absurd (f refl)
  uncommaed (suc left) [] f h = refl
  uncommaed (suc left) (b ∷ rest) f h = absurd (omega arith)

  pub commaed : (left : ℕ) (rest : List ℕ) → (left ≡ 0 → ⊥) → 1 ≤ length rest → get_or rest 0 0 ≡ comma → Some (i + 1) ≡ place_after i (behind_from left rest)
  unfolding behind_from comma_from
  commaed zero rest f h e = absurd (f refl)
  commaed (suc left) [] f h e = absurd (omega arith)
  commaed (suc left) (b ∷ rest) f h e = rw (eq-eqb b comma e)

  pub other_than_comma : (left : ℕ) (rest : List ℕ) → (left ≡ 0 → ⊥) → 1 ≤ length rest → (get_or rest 0 0 ≡ comma → ⊥) → None ≡ place_after i (behind_from left rest)
  unfolding behind_from comma_from
  other_than_comma zero rest f h e = absurd (f refl)
  other_than_comma (suc left) [] f h e = absurd (omega arith)
  other_than_comma (suc left) (b ∷ rest) f h e = rw (ne_eqb b comma e)

pub ruleset line_ends = (tail_whole, ended, fed, returned, other, unfed, alone)

pub ruleset commas = (tail_whole, uncommaed, commaed, other_than_comma)

-- ---- what stands there is in the text

feed_within : (text : List ℕ) (n : ℕ) → feed_from text ≡ some n → n ≤ length text + 1
unfolding feed_from
feed_within [] n e = let z : ◌≡◌ {A = ℕ} 0 1 = cc in absurd (omega arith)
feed_within (b ∷ bs) n e = go (eqb b line_feed) e
  where
    go : (t : Bool) → only t 2 ≡ some n → n ≤ length (b ∷ bs) + 1
    go true f = let z : n ≡ 2 = cc in omega arith
    go false f = let z : ◌≡◌ {A = ℕ} 0 1 = cc in absurd (omega arith)

end_within : (text : List ℕ) (n : ℕ) → end_from text ≡ some n → n ≤ length text
unfolding end_from
end_within [] n e = let z : n ≡ 0 = cc in omega arith
end_within (b ∷ bs) n e = go (eqb b line_feed) (eqb b carriage_return) e
  where
    go : (t u : Bool) → cond t (some 1) (cond u (feed_from bs) none) ≡ some n → n ≤ length (b ∷ bs)
    go true u f = let z : n ≡ 1 = cc in omega arith
    go false true f = omega (arith, feed_within bs n f)
    go false false f = let z : ◌≡◌ {A = ℕ} 0 1 = cc in absurd (omega arith)

comma_within : (text : List ℕ) (n : ℕ) → comma_from text ≡ some n → n ≤ length text
unfolding comma_from
comma_within [] n e = let z : ◌≡◌ {A = ℕ} 0 1 = cc in absurd (omega arith)
comma_within (b ∷ bs) n e = go (eqb b comma) e
  where
    go : (t : Bool) → only t 1 ≡ some n → n ≤ length (b ∷ bs)
    go true f = let z : n ≡ 1 = cc in omega arith
    go false f = let z : ◌≡◌ {A = ℕ} 0 1 = cc in absurd (omega arith)

pub behind_within : (left : ℕ) (text : List ℕ) (n : ℕ) → behind_from left text ≡ some n → n ≤ length text
unfolding behind_from
behind_within zero text n e = end_within text n e
behind_within (suc left) text n e = comma_within text n e
