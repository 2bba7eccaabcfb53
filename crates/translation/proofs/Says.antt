-- The translation theorem: the card of a rule says what the rule means, in both interpretations, for every rule, tables and rows.
use mathlib.Core.Path.{◌≡◌, refl, sym, ap, fun_ext, ◌∙◌}
use mathlib.Core.Bool.{Bool, not, ◌&&◌, ◌||◌, not-not}
use mathlib.Core.List.{List, [], ◌∷◌, map}
use Prim.Native.Nat.{ℕ, ◌+◌}
use native.Mathlib.Omega.{arith}
use lib.Arith.{le→nltb}
use lib.Dec.{leb, ltb, leb→le, nltb→le, le→leb}
use lib.IntN.{ℤ, pos, negsuc}
use lib.ListN.{length, length-append, get_or-append}
use lib.Signed.{lt_z, le_z}
use Rattle.tables.specs.Lists.{any, all}
use Rattle.tables.specs.Tables.{Cell, Blank, Declined, Present, Row, Tables, rows_of}
use Rattle.tables.proofs.Rows.{any_kept}
use Rattle.tables.specs.Values.{holds, Env, ◌▸◌, cell_of, mark_passes}
use Rattle.tables.specs.declared.Value.{Value}
use Rattle.tables.specs.declared.Value.TheVariants.{Constant, Column}
use Rattle.tables.specs.declared.Comparison.{Comparison}
use Rattle.tables.specs.declared.Comparison.TheVariants.{Eq, Ne, Lt, Le, Gt, Ge}
use Rattle.tables.specs.declared.Connective.TheVariants.{And, Or}
use Rattle.tables.specs.declared.Quantifier.{Quantifier}
use Rattle.tables.specs.declared.Quantifier.TheVariants.{Some, All}
use Rattle.tables.specs.declared.MarkTest.{MarkTest}
use Rattle.tables.specs.declared.MarkTest.TheVariants.{Null, NotNull, IsDeclined, NotDeclined}
use Rattle.card.specs.Card.{unknown_says, Card, LeafEntry, PairEntry, RowEntry, compares, leaf_says, over_rows, answer}
use Rattle.card.specs.declared.Leaf.{Leaf}
use Rattle.card.specs.declared.Leaf.TheVariants.{CompareLeaf, MarkLeaf}
use Rattle.card.specs.declared.Interpretation.{Interpretation}
use Rattle.card.specs.declared.Interpretation.TheVariants.{AsNo, AsYes}
use Rattle.rule.specs.Condition.{Atom, Join, Apply, Exists, Listed, Rule, letters}
use Rattle.rule.specs.declared.Test.{Test}
use Rattle.rule.specs.declared.Test.TheVariants.{Compare, Mark}
use Rattle.rule.specs.declared.Unary.{Unary}
use Rattle.rule.specs.declared.Unary.TheVariants.{Not, Is, IsNot}
use Rattle.rule.specs.declared.FromClause.{FromClause}
use Rattle.rule.specs.declared.FromClause.TheVariants.{Single}
use Rattle.rule.specs.Names.{ValueScoped, Scoped}
use Rattle.rule.specs.Truth.{is_true, is_unknown}
use Rattle.rule.specs.declared.Truth.{Truth}
use Rattle.rule.specs.declared.Truth.TheVariants.{False, Unknown, True}
use Rattle.rule.specs.Meaning.{unary3, compare3, test3, ranged, meaning}
use Rattle.translation.specs.Translation.{other, other_comparison, other_mark, other_leaf, negated, leaf_of, rows_card, unary_card, card_of}
use Rattle.translation.specs.Claims.{TranslationClaim}
use Rattle.translation.proofs.Logic.{says, same_test, not_joined, not_over, says_join, says_not, says_truth, is_true_says, is_false_says, says_some, says_all}

-- ---- comparisons

not_lt : (a b : ℕ) → not (ltb a b) ≡ leb b a
not_lt a b = same_test (not (ltb a b)) (leb b a) (λ t. le→leb b a (nltb→le a b t)) (λ t. le→nltb a b (leb→le b a t))

not_lt_z : (x y : ℤ) → not (lt_z x y) ≡ le_z y x
not_lt_z (pos a) (pos b) = not_lt a b
not_lt_z (pos a) (negsuc b) = refl
not_lt_z (negsuc a) (pos b) = refl
not_lt_z (negsuc a) (negsuc b) = not_lt b a

holds_other : (op : Comparison) (x y : ℤ) → holds (other_comparison op) x y ≡ not (holds op x y)
holds_other Eq x y = refl
holds_other Ne x y = simp not-not
holds_other Lt x y = simp not_lt_z
holds_other Le x y = simp (← not_lt_z, not-not)
holds_other Gt x y = simp not_lt_z
holds_other Ge x y = simp (← not_lt_z, not-not)

unknown_other : (i : Interpretation) → unknown_says (other i) ≡ not (unknown_says i)
unknown_other AsNo = refl
unknown_other AsYes = refl

compares_other : (i : Interpretation) (op : Comparison) (a b : Cell) → compares (other i) (other_comparison op) a b ≡ not (compares i op a b)
compares_other i op Blank b = unknown_other i
compares_other i op Declined b = unknown_other i
compares_other i op (Present x) Blank = unknown_other i
compares_other i op (Present x) Declined = unknown_other i
compares_other i op (Present x) (Present y) = holds_other op x y

-- a card's comparison is a rule's, interpreted
compares_says : (i : Interpretation) (op : Comparison) (a b : Cell) → compares i op a b ≡ says i (compare3 op a b)
compares_says i op Blank b = refl
compares_says i op Declined b = refl
compares_says i op (Present x) Blank = refl
compares_says i op (Present x) Declined = refl
compares_says i op (Present x) (Present y) = sym (says_truth i (holds op x y))

-- ---- negating

mark_other : (m : MarkTest) (x : Cell) → mark_passes (other_mark m) x ≡ not (mark_passes m x)
mark_other Null x = refl
mark_other NotNull x = simp not-not
mark_other IsDeclined x = refl
mark_other NotDeclined x = simp not-not

leaf_other : (env : Env) (x : Leaf) → leaf_says env (other_leaf x) ≡ not (leaf_says env x)
leaf_other env (CompareLeaf i op l r) = compares_other i op (cell_of env l) (cell_of env r)
leaf_other env (MarkLeaf m l) = mark_other m (cell_of env l)

-- negating a card negates its answer
pub negated_not : (ts : Tables) (c : Card) (env : Env) → answer ts env (negated c) ≡ not (answer ts env c)
unfolding answer negated
negated_not ts (LeafEntry x) env = leaf_other env x
negated_not ts (PairEntry j a b) env = simp (negated_not ts a, negated_not ts b, not_joined)
negated_not ts (RowEntry q t c) env = simp (negated_not ts c, not_over)

-- ---- the theorem

leaf_says_lem : (env : Env) (i : Interpretation) (x : Test Value) → leaf_says env (leaf_of i x) ≡ says i (test3 env x)
leaf_says_lem env i (Compare op l r) = compares_says i op (cell_of env l) (cell_of env r)
leaf_says_lem env i (Mark m l) = simp says_truth

-- unknown is what is neither true nor false
unknown_says_lem : (v : Truth) → not (says AsNo v) && says AsYes v ≡ is_unknown v
unknown_says_lem False = refl
unknown_says_lem Unknown = refl
unknown_says_lem True = refl

-- what is said of one condition, whose card says what it means in both interpretations
unary_says : (ts : Tables) (env : Env) (u : Unary) (i : Interpretation) (c : Interpretation → Card) (v : Truth)
    → ((i : Interpretation) → answer ts env (c i) ≡ says i v) → answer ts env (unary_card u i c) ≡ says i (unary3 u v)
unfolding answer
unary_says ts env Not i c v inner = simp (negated_not, says_not, inner (other i))
unary_says ts env (Is True) i c v inner = simp (says_truth, is_true_says, inner AsNo)
unary_says ts env (IsNot True) i c v inner = simp (negated_not, says_truth, is_true_says, inner AsNo)
unary_says ts env (Is False) i c v inner = simp (negated_not, says_truth, is_false_says, inner AsYes)
unary_says ts env (IsNot False) i c v inner = simp (says_truth, is_false_says, not-not, inner AsYes)
unary_says ts env (Is Unknown) i c v inner = simp (negated_not, says_truth, ← unknown_says_lem, inner AsNo, inner AsYes)
unary_says ts env (IsNot Unknown) i c v inner = simp (negated_not, says_truth, ← unknown_says_lem, inner AsNo, inner AsYes)

-- ---- what a FROM ranges over

-- a row that a FROM puts at its levels: what belongs outside is the same inside
record Inside (env : Env) (f : FromClause ℕ) (row : Env) : Type 0 where
  deeper : length row ≡ letters f + length env
  outside : (v : Value) → ValueScoped (length env) v → cell_of row v ≡ cell_of env v

one_inside : (env : Env) (t : ℕ) (row : Row) → Inside env (Single t) (env ▸ row)
one_inside env t row = record { deeper = simp length-append (omega arith); outside = same }
  where
    same : (v : Value) → ValueScoped (length env) v → cell_of (env ▸ row) v ≡ cell_of env v
    same (Constant k) s = refl
    same (Column l c) s = rw (get_or-append env (row ∷ []) [] l s)

any_map : {A B : Type 0} (p : B → Bool) (g : A → B) (xs : List A) → any p (map g xs) ≡ any (λ x. p (g x)) xs
any_map p g [] = refl
any_map p g (x ∷ xs) = ap (p (g x) ||◌) (any_map p g xs)

all_map : {A B : Type 0} (p : B → Bool) (g : A → B) (xs : List A) → all p (map g xs) ≡ all (λ x. p (g x)) xs
all_map p g [] = refl
all_map p g (x ∷ xs) = ap (p (g x) &&◌) (all_map p g xs)

over_map : {A B : Type 0} (q : Quantifier) (p : B → Bool) (g : A → B) (xs : List A) → over_rows q p (map g xs) ≡ over_rows q (λ x. p (g x)) xs
over_map Some p g xs = any_map p g xs
over_map All p g xs = all_map p g xs

module _ (ts : Tables) (env : Env) where
  -- the row entries of a FROM ask over what it ranges over
  rows_say : (q : Quantifier) (f : FromClause ℕ) (c : Card) → answer ts env (rows_card q f c) ≡ over_rows q (λ row. answer ts row c) (ranged ts env f)
  unfolding answer
  rows_say q (Single t) c = sym (over_map q (λ row. answer ts row c) (λ row. env ▸ row) (rows_of ts t))

  -- two tests that agree on these rows
  over_same : (q : Quantifier) (f : FromClause ℕ) (p p' : Env → Bool) → ((row : Env) → Inside env f row → p row ≡ p' row)
      → over_rows q p (ranged ts env f) ≡ over_rows q p' (ranged ts env f)
  over_same q (Single t) p p' h =
      over_map q p (λ row. env ▸ row) (rows_of ts t)
      ∙ ap (λ (g : Row → Bool). over_rows q g (rows_of ts t)) (fun_ext (λ row. h (env ▸ row) (one_inside env t row)))
      ∙ sym (over_map q p' (λ row. env ▸ row) (rows_of ts t))

-- theorems 1 and 2 of document 003, for a WHERE whose card says what it means
listed_says : (ts : Tables) (q : Quantifier) (op : Comparison) (l s : Value) (f : FromClause ℕ) (w : Rule) (i : Interpretation) (env : Env)
    → ValueScoped (length env) l
    → ((row : Env) → Inside env f row → answer ts row (card_of AsNo w) ≡ says AsNo (meaning ts row w))
    → answer ts env (card_of i (Listed q op l s f w)) ≡ says i (meaning ts env (Listed q op l s f w))
unfolding answer meaning card_of
listed_says ts Some op l s f w i env scoped inner =
    rows_say ts env Some f (PairEntry And (card_of AsNo w) (LeafEntry (CompareLeaf i op l s)))
    ∙ over_same ts env Some f _ (λ row. is_true (meaning ts row w) && says i (compare3 op (cell_of env l) (cell_of row s))) (λ row h. simp (inner row h, is_true_says, compares_says, h.outside l scoped))
    ∙ sym (says_some i (λ row. is_true (meaning ts row w)) (λ row. compare3 op (cell_of env l) (cell_of row s)) (ranged ts env f))
listed_says ts All op l s f w i env scoped inner =
    rows_say ts env All f (PairEntry Or (negated (card_of AsNo w)) (LeafEntry (CompareLeaf i op l s)))
    ∙ over_same ts env All f _ (λ row. not (is_true (meaning ts row w)) || says i (compare3 op (cell_of env l) (cell_of row s))) (λ row h. simp (negated_not, inner row h, is_true_says, compares_says, h.outside l scoped))
    ∙ sym (says_all i (λ row. is_true (meaning ts row w)) (λ row. compare3 op (cell_of env l) (cell_of row s)) (ranged ts env f))

module _ (ts : Tables) where
  pub card_says : (r : Rule) (i : Interpretation) (env : Env) → Scoped (length env) r → answer ts env (card_of i r) ≡ says i (meaning ts env r)
  unfolding answer card_of meaning Scoped
  card_says (Atom x) i env s = leaf_says_lem env i x
  card_says (Join j a b) i env s = simp (says_join, card_says a i env s.0, card_says b i env s.1)
  card_says (Apply u a) i env s = unary_says ts env u i (λ i'. card_of i' a) (meaning ts env a) (λ i'. card_says a i' env s)
  card_says (Exists f w) i env s =
      rows_say ts env Some f (card_of AsNo w)
      ∙ over_same ts env Some f _ (λ row. is_true (meaning ts row w)) (λ row h. simp is_true_says (card_says w AsNo row (rw h.deeper s)))
      ∙ any_kept (λ row. is_true (meaning ts row w)) (ranged ts env f)
      ∙ sym (says_truth i _)
  card_says (Listed q op l x f w) i env s = listed_says ts q op l x f w i env s.0 (λ row h. card_says w AsNo row (rw h.deeper s.2))

pub translation_claim : TranslationClaim
translation_claim = record {
  yes_is_true = λ ts env r s. simp is_true_says (card_says ts r AsNo env s);
  no_is_false = λ ts env r s. simp is_false_says (ap not (card_says ts r AsYes env s));
  negates = λ ts env c. negated_not ts c env;
}
