-- Laws of the connectives, of the two interpretations and of tests over rows.
use mathlib.Core.Path.{◌≡◌, refl, ap, ◌∙◌}
use mathlib.Core.Bool.{Bool, true, false, not, ◌&&◌, ◌||◌}
use mathlib.Core.List.{List, [], ◌∷◌, map}
use lib.Dec.{T}
use Rattle.tables.specs.Lists.{any, all, put, keep}
use Rattle.tables.specs.declared.Connective.{Connective}
use Rattle.tables.specs.declared.Connective.TheVariants.{And, Or}
use Rattle.tables.specs.declared.Quantifier.{Quantifier}
use Rattle.tables.specs.declared.Quantifier.TheVariants.{Some, All}
use Rattle.card.specs.Card.{unknown_says, joined, over_rows}
use Rattle.card.specs.declared.Interpretation.{Interpretation}
use Rattle.card.specs.declared.Interpretation.TheVariants.{AsNo, AsYes}
use Rattle.rule.specs.Truth.{truth, is_true, is_false, not3, and3, or3, join3}
use Rattle.rule.specs.declared.Truth.{Truth}
use Rattle.rule.specs.declared.Truth.TheVariants.{False, Unknown, True}
use Rattle.rule.specs.Meaning.{over3}
use Rattle.rule.proofs.Truths.{some_cons, all_cons}
use Rattle.translation.specs.Translation.{other, other_connective, other_quantifier}

-- a truth value as yes or no
abbrev pub says : Interpretation → Truth → Bool
says i False = false
says i Unknown = unknown_says i
says i True = true

pub same_test : (a b : Bool) → (T a → T b) → (T b → T a) → a ≡ b
same_test true true f g = refl
same_test true false f g = absurd (f tt)
same_test false true f g = absurd (g tt)
same_test false false f g = refl

not_and : (a b : Bool) → not (a && b) ≡ not a || not b
not_and true b = refl
not_and false b = refl

not_or : (a b : Bool) → not (a || b) ≡ not a && not b
not_or true b = refl
not_or false b = refl

-- an interpretation goes over the connectives, and NOT turns it round (document 003, Table III, rules 1 to 3)
says_and : (i : Interpretation) (a b : Truth) → says i (and3 a b) ≡ says i a && says i b
says_and i False b = refl
says_and AsNo Unknown False = refl
says_and AsNo Unknown Unknown = refl
says_and AsNo Unknown True = refl
says_and AsYes Unknown False = refl
says_and AsYes Unknown Unknown = refl
says_and AsYes Unknown True = refl
says_and i True b = refl

says_or : (i : Interpretation) (a b : Truth) → says i (or3 a b) ≡ says i a || says i b
says_or i False b = refl
says_or AsNo Unknown False = refl
says_or AsNo Unknown Unknown = refl
says_or AsNo Unknown True = refl
says_or AsYes Unknown False = refl
says_or AsYes Unknown Unknown = refl
says_or AsYes Unknown True = refl
says_or i True b = refl

pub says_not : (i : Interpretation) (a : Truth) → says i (not3 a) ≡ not (says (other i) a)
says_not i False = refl
says_not AsNo Unknown = refl
says_not AsYes Unknown = refl
says_not i True = refl

pub says_truth : (i : Interpretation) (b : Bool) → says i (truth b) ≡ b
says_truth i true = refl
says_truth i false = refl

pub is_true_says : (v : Truth) → is_true v ≡ says AsNo v
is_true_says False = refl
is_true_says Unknown = refl
is_true_says True = refl

pub is_false_says : (v : Truth) → is_false v ≡ not (says AsYes v)
is_false_says False = refl
is_false_says Unknown = refl
is_false_says True = refl

module _ {A : Type 0} where
  not_any : (p : A → Bool) (xs : List A) → not (any p xs) ≡ all (λ x. not (p x)) xs
  not_any p [] = refl
  not_any p (x ∷ xs) = not_or (p x) (any p xs) ∙ ap (not (p x) &&◌) (not_any p xs)

  not_all : (p : A → Bool) (xs : List A) → not (all p xs) ≡ any (λ x. not (p x)) xs
  not_all p [] = refl
  not_all p (x ∷ xs) = not_and (p x) (all p xs) ∙ ap (not (p x) ||◌) (not_all p xs)

pub not_joined : (j : Connective) (a b : Bool) → not (joined j a b) ≡ joined (other_connective j) (not a) (not b)
not_joined And a b = not_and a b
not_joined Or a b = not_or a b

pub not_over : {A : Type 0} (q : Quantifier) (p : A → Bool) (rows : List A) → not (over_rows q p rows) ≡ over_rows (other_quantifier q) (λ row. not (p row)) rows
not_over Some p rows = not_any p rows
not_over All p rows = not_all p rows

pub says_join : (i : Interpretation) (j : Connective) (a b : Truth) → says i (join3 j a b) ≡ joined j (says i a) (says i b)
says_join i And a b = says_and i a b
says_join i Or a b = says_or i a b

module _ {A : Type 0} (i : Interpretation) (q : A → Bool) (f : A → Truth) where
  some_put : (b : Bool) (x : A) (xs : List A) → says i (over3 Some (map f (put b x xs))) ≡ (b && says i (f x)) || says i (over3 Some (map f xs))
  some_put true x xs = ap (says i) (some_cons (f x) (map f xs)) ∙ says_or i (f x) (over3 Some (map f xs))
  some_put false x xs = refl

  -- theorem 1 of document 003
  pub says_some : (xs : List A) → says i (over3 Some (map f (keep q xs))) ≡ any (λ x. q x && says i (f x)) xs
  says_some [] = refl
  says_some (x ∷ xs) = some_put (q x) x (keep q xs) ∙ ap ((q x && says i (f x)) ||◌) (says_some xs)

  all_put : (b : Bool) (x : A) (xs : List A) → says i (over3 All (map f (put b x xs))) ≡ (not b || says i (f x)) && says i (over3 All (map f xs))
  all_put true x xs = ap (says i) (all_cons (f x) (map f xs)) ∙ says_and i (f x) (over3 All (map f xs))
  all_put false x xs = refl

  -- theorem 2 of document 003, with its whole range condition negated
  pub says_all : (xs : List A) → says i (over3 All (map f (keep q xs))) ≡ all (λ x. not (q x) || says i (f x)) xs
  says_all [] = refl
  says_all (x ∷ xs) = all_put (q x) x (keep q xs) ∙ ap ((not (q x) || says i (f x)) &&◌) (says_all xs)
