-- The parts of a rule as the code has them, and as they are published.
use Rattle.std.proofs.Common.{◌≡◌, ℕ, ◌+◌, ◌∷◌, map, length, length-append, refl, arith}
use Rattle.std.proofs.lemmas.List.{map-append, append-nil}
use Rattle.rule.specs.Condition.{Atom, Join, Apply, Exists, Listed, Rule, parts}
use Rattle.rule.specs.Parts.{parts_from}
use Rattle.names.specs.Code.{rule_part, published, placed_from, PublishedClaim, own_head, inner, parts_all, placed_all}

-- publishing them gives the published parts
pub published_from : (k : ℕ) (r : Rule) → map published (placed_from k r) ≡ parts_from k r
unfolding placed_from parts_from
published_from k (Atom x) = refl
published_from k (Join j a b) =
    rw (
      map-append published (placed_from (k + 1) a) (placed_from (k + 1 + parts a) b),
      published_from (k + 1) a,
      published_from (k + 1 + parts a) b,
    ) refl
published_from k (Apply u a) = rw (published_from (k + 1) a) refl
published_from k (Exists f w) = rw (published_from (k + 1) w) refl
published_from k (Listed q op l s f w) = rw (published_from (k + 1) w) refl

pub published_claim : PublishedClaim
published_claim = published_from

pub placed_length : (k : ℕ) (r : Rule) → length (placed_from k r) ≡ parts r
unfolding placed_from parts
placed_length k (Atom x) = refl
placed_length k (Join j a b) = omega (arith, length-append (placed_from (k + 1) a) (placed_from (k + 1 + parts a) b), placed_length (k + 1) a, placed_length (k + 1 + parts a) b)
placed_length k (Apply u a) = omega (arith, placed_length (k + 1) a)
placed_length k (Exists f w) = omega (arith, placed_length (k + 1) w)
placed_length k (Listed q op l s f w) = omega (arith, placed_length (k + 1) w)

-- a rule's own part, and those of the rules in it
pub parts_inner : (r : Rule) → parts r ≡ 1 + parts_all (inner r)
unfolding parts
parts_inner (Atom x) = refl
parts_inner (Join j a b) = omega arith
parts_inner (Apply u a) = omega arith
parts_inner (Exists f w) = omega arith
parts_inner (Listed q op l s f w) = omega arith

pub placed_own : (k : ℕ) (r : Rule) → placed_from k r ≡ rule_part (k + parts r) (own_head r) ∷ placed_all (k + 1) (inner r)
unfolding placed_from parts
placed_own k (Atom x) = refl
placed_own k (Join j a b) = rw (append-nil (placed_from (k + 1 + parts a) b)) refl
placed_own k (Apply u a) = rw (append-nil (placed_from (k + 1) a)) refl
placed_own k (Exists f w) = rw (append-nil (placed_from (k + 1) w)) refl
placed_own k (Listed q op l s f w) = rw (append-nil (placed_from (k + 1) w)) refl
