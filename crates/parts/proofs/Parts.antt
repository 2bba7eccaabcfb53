-- The parts of a rule that stand in an array: which part each is, and which rule it is by what its first part says.
use Rattle.std.proofs.Common.{◌≡◌, ℕ, ◌+◌, ◌≤◌, List, [], ◌∷◌, ◌++◌, append_assoc, length, get_or, take, drop, refl, sym, ap, subst, ◌∙◌, arith}
use lib.ListN.{take-append-drop}
use lib.Seq.{drop-drop, get_or-drop, drop-append_seam}
use Rattle.tables.specs.declared.Value.{Value}
use Rattle.tables.specs.declared.Comparison.{Comparison}
use Rattle.tables.specs.declared.Connective.{Connective}
use Rattle.tables.specs.declared.Quantifier.{Quantifier}
use Rattle.rule.specs.Condition.{Atom, Join, Apply, Exists, Listed, Rule, parts}
use Rattle.rule.specs.declared.Test.{Test}
use Rattle.rule.specs.declared.Unary.{Unary}
use Rattle.rule.specs.declared.FromClause.{FromClause}
use Rattle.rule.specs.Parts.{Head}
use Rattle.rule.specs.declared.Head.TheVariants.{AtomHead, JoinHead, UnaryHead, ExistsHead, ListedHead}
use Rattle.names.specs.Code.{rule_part, placed_from, placed_of, own_head}
use Rattle.names.specs.declared.RulePart.{RulePart}
use Rattle.names.proofs.Published.{placed_length}
use Rattle.parts.specs.Parts.{PartAt, Stands}

-- a rule has a part
pub parts_low : (r : Rule) → 1 ≤ parts r
unfolding parts
parts_low (Atom x) = omega arith
parts_low (Join j a b) = omega arith
parts_low (Apply u a) = omega arith
parts_low (Exists f w) = omega arith
parts_low (Listed q op l s f w) = omega arith

-- ---- from a list of parts

-- the array from part s on starts with these
abbrev StartsWith : List RulePart → ℕ → List RulePart → Type 0
StartsWith p s xs = (rest : List RulePart) × (drop s p ≡ xs ++ rest)

module _ (p : List RulePart) where
  -- a part, and those behind it
  one_from : (s : ℕ) (x : RulePart) (xs : List RulePart) → StartsWith p s (x ∷ xs) → PartAt p s x × StartsWith p (s + 1) xs
  one_from s x xs (rest, e) =
      let z : s ≡ s + 0 = omega arith in (
        λ d. ap (λ (i : ℕ). get_or p i d) z ∙ sym (get_or-drop s p 0 d) ∙ ap (λ (l : List RulePart). get_or l 0 d) e,
        (rest, sym (drop-drop 1 s p) ∙ ap (drop 1) e),
      )

  -- two lists, one behind the other
  two_from : (s : ℕ) (xs ys : List RulePart) → StartsWith p s (xs ++ ys) → StartsWith p s xs × StartsWith p (s + length xs) ys
  two_from s xs ys (rest, e) =
      let all : drop s p ≡ xs ++ (ys ++ rest) = e ∙ append_assoc xs ys rest in (
        (ys ++ rest, all),
        (rest, sym (drop-drop (length xs) s p) ∙ ap (drop (length xs)) all ∙ drop-append_seam xs (ys ++ rest)),
      )

  stands_from : (r : Rule) (s : ℕ) → StartsWith p s (placed_from s r) → Stands p s r
  unfolding Stands placed_from
  stands_from (Atom x) s e = (one_from s _ [] e).0
  stands_from (Join j a b) s e =
      let (here, behind) = one_from s _ (placed_from (s + 1) a ++ placed_from (s + 1 + parts a) b) e in
      let (left, right) = two_from (s + 1) (placed_from (s + 1) a) (placed_from (s + 1 + parts a) b) behind in
      let z : s + 1 + length (placed_from (s + 1) a) ≡ s + 1 + parts a = ap (s + 1 +◌) (placed_length (s + 1) a) in
      (here, stands_from a (s + 1) left, stands_from b (s + 1 + parts a) (rw z at right))
  stands_from (Apply u a) s e = let (here, behind) = one_from s _ (placed_from (s + 1) a) e in (here, stands_from a (s + 1) behind)
  stands_from (Exists f w) s e = let (here, behind) = one_from s _ (placed_from (s + 1) w) e in (here, stands_from w (s + 1) behind)
  stands_from (Listed q op l r f w) s e = let (here, behind) = one_from s _ (placed_from (s + 1) w) e in (here, stands_from w (s + 1) behind)

  -- a whole rule
  pub rule_stands : (r : Rule) → take (parts r) p ≡ placed_of r → Stands p 0 r
  rule_stands r e = stands_from r 0 (drop (parts r) p, sym (take-append-drop (parts r) p) ∙ ap (◌++ drop (parts r) p) e)

-- ---- the rule, by what its first part says

module _ (p : List RulePart) (s : ℕ) where
  pub first_part : (r : Rule) → Stands p s r → PartAt p s (rule_part (s + parts r) (own_head r))
  unfolding Stands parts
  first_part (Atom x) h = h
  first_part (Join j a b) h = h.0
  first_part (Apply u a) h = h.0
  first_part (Exists f w) h = h.0
  first_part (Listed q op l r f w) h = h.0

  pub head_stands : (r : Rule) → Stands p s r → (d : RulePart) → (get_or p s d).head ≡ own_head r
  head_stands r h d = ap (λ (x : RulePart). x.head) (first_part r h d)

  pub end_stands : (r : Rule) → Stands p s r → (d : RulePart) → (get_or p s d).end ≡ s + parts r
  end_stands r h d = ap (λ (x : RulePart). x.end) (first_part r h d)

-- what a rule is, by what its first part says
module _ (p : List RulePart) (s : ℕ) where
  pub record IsTest (x : Test Value) (r : Rule) : Type 0 where
    pub is : r ≡ Atom x

  -- the right rule starts where the left one ends
  pub record IsJoin (j : Connective) (r : Rule) : Type 0 where
    pub left : Rule
    pub right : Rule
    pub is : r ≡ Join j left right
    pub left_stands : Stands p (s + 1) left
    pub next : (d : RulePart) → (get_or p (s + 1) d).end ≡ s + 1 + parts left
    pub right_stands : Stands p (s + 1 + parts left) right

  pub record IsUnary (u : Unary) (r : Rule) : Type 0 where
    pub inner : Rule
    pub is : r ≡ Apply u inner
    pub inner_stands : Stands p (s + 1) inner

  pub record IsExists (f : FromClause ℕ) (r : Rule) : Type 0 where
    pub inner : Rule
    pub is : r ≡ Exists f inner
    pub inner_stands : Stands p (s + 1) inner

  pub record IsListed (q : Quantifier) (op : Comparison) (left selected : Value) (f : FromClause ℕ) (r : Rule) : Type 0 where
    pub inner : Rule
    pub is : r ≡ Listed q op left selected f inner
    pub inner_stands : Stands p (s + 1) inner

  abbrev Form : Rule → Head → Type 0
  Form r (AtomHead x) = IsTest x r
  Form r (JoinHead j) = IsJoin j r
  Form r (UnaryHead u) = IsUnary u r
  Form r (ExistsHead f) = IsExists f r
  Form r (ListedHead q op l t f) = IsListed q op l t f r

  form : (r : Rule) → Stands p s r → Form r (own_head r)
  unfolding Stands
  form (Atom x) h = record { is = refl }
  form (Join j a b) h = record { left = a; right = b; is = refl; left_stands = h.1; next = end_stands p (s + 1) a h.1; right_stands = h.2 }
  form (Apply u a) h = record { inner = a; is = refl; inner_stands = h.1 }
  form (Exists f w) h = record { inner = w; is = refl; inner_stands = h.1 }
  form (Listed q op l r f w) h = record { inner = w; is = refl; inner_stands = h.1 }

  module _ (r : Rule) (h : Stands p s r) (d : RulePart) where
    told : (x : Head) → (get_or p s d).head ≡ x → Form r x
    told x e = subst (Form r) (sym (head_stands p s r h d) ∙ e) (form r h)

    pub is_test : (x : Test Value) → (get_or p s d).head ≡ AtomHead x → IsTest x r
    is_test x e = told (AtomHead x) e

    pub is_join : (j : Connective) → (get_or p s d).head ≡ JoinHead j → IsJoin j r
    is_join j e = told (JoinHead j) e

    pub is_unary : (u : Unary) → (get_or p s d).head ≡ UnaryHead u → IsUnary u r
    is_unary u e = told (UnaryHead u) e

    pub is_exists : (f : FromClause ℕ) → (get_or p s d).head ≡ ExistsHead f → IsExists f r
    is_exists f e = told (ExistsHead f) e

    pub is_listed : (q : Quantifier) (op : Comparison) (left selected : Value) (f : FromClause ℕ) → (get_or p s d).head ≡ ListedHead q op left selected f
        → IsListed q op left selected f r
    is_listed q op left selected f e = told (ListedHead q op left selected f) e
