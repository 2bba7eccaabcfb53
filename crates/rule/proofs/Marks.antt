-- The tests by the mark, and that a declined cell is blank to a rule that does not ask whether cells are declined.
use mathlib.Core.Path.{◌≡◌, refl, sym, ap, ap₂, ◌∙◌}
use mathlib.Core.Bool.{Bool, true, false, not, ◌||◌, false≢true}
use mathlib.Core.List.{List, [], ◌∷◌, ◌++◌, map}
use Prim.Native.Nat.{ℕ, ◌+◌}
use lib.Dec.{eqb}
use Rattle.tables.specs.Lists.{any, put, keep, is_there_one}
use Rattle.tables.specs.Tables.{Cell, Blank, Declined, Present, Tables, rows_of}
use Rattle.tables.specs.Values.{Env, ◌▸◌, cell_of, is_blank, is_declined, mark_passes}
use Rattle.tables.specs.declared.Value.{Value}
use Rattle.tables.specs.declared.Comparison.{Comparison}
use Rattle.tables.specs.declared.MarkTest.TheVariants.{Null, NotNull, IsDeclined, NotDeclined}
use Rattle.tables.specs.Claims.{as_blank, tables_as_blank}
use Rattle.tables.proofs.AsBlank.{one_of_two, none_behind, none_both, rows_as_blank, deeper_blank, table_blank, cell_blank, compared_blank, blank_blank}
use Rattle.rule.specs.Truth.{truth, is_true, is_unknown, not3, join3}
use Rattle.rule.specs.declared.Truth.{Truth}
use Rattle.rule.specs.declared.Truth.TheVariants.{Unknown, True}
use Rattle.rule.specs.Condition.{Atom, Join, Apply, Exists, Listed, Rule, parts}
use Rattle.rule.specs.declared.Test.TheVariants.{Compare, Mark}
use Rattle.rule.specs.declared.FromClause.{FromClause}
use Rattle.rule.specs.declared.FromClause.TheVariants.{Single}
use Rattle.rule.specs.Parts.{part_of, parts_from, parts_of, part_asks_declined}
use Rattle.rule.specs.declared.Head.TheVariants.{JoinHead, UnaryHead, ExistsHead, ListedHead}
use Rattle.rule.specs.declared.Part.{Part}
use Rattle.rule.specs.Meaning.{compare3, unary3, over3, ranged, retained, meaning}
use Rattle.rule.specs.Claims.{MarkTestsClaim, DeclinedPartsClaim, AsksClaim, DeclinedBlankClaim}

-- ---- the tests

known : (b : Bool) → is_unknown (truth b) ≡ false
known true = refl
known false = refl

negated : (x : Cell) → truth (mark_passes NotDeclined x) ≡ not3 (truth (mark_passes IsDeclined x))
negated Blank = refl
negated Declined = refl
negated (Present k) = refl

null_negated : (x : Cell) → truth (mark_passes NotNull x) ≡ not3 (truth (mark_passes Null x))
null_negated Blank = refl
null_negated Declined = refl
null_negated (Present k) = refl

blank : (x : Cell) → truth (is_declined x) ≡ True → truth (is_blank x) ≡ True
blank Blank e = refl
blank Declined e = refl
blank (Present k) e = e

left_unknown : (op : Comparison) (x y : Cell) → truth (is_declined x) ≡ True → compare3 op x y ≡ Unknown
left_unknown op Blank y e = refl
left_unknown op Declined y e = refl
left_unknown op (Present k) y e = cc

right_unknown : (op : Comparison) (x y : Cell) → truth (is_declined y) ≡ True → compare3 op x y ≡ Unknown
right_unknown op Blank y e = refl
right_unknown op Declined y e = refl
right_unknown op (Present k) Blank e = refl
right_unknown op (Present k) Declined e = refl
right_unknown op (Present k) (Present l) e = cc

right_declined : (op : Comparison) (x : Cell) → compare3 op x Declined ≡ Unknown
right_declined op Blank = refl
right_declined op Declined = refl
right_declined op (Present k) = refl

pub mark_tests_claim : MarkTestsClaim
mark_tests_claim = record {
  table = refl;
  known = λ env m l. known (mark_passes m (cell_of env l));
  negated = λ env l. negated (cell_of env l);
  null_negated = λ env l. null_negated (cell_of env l);
  number = λ env k. refl;
  number_blank = λ env k. refl;
  blank = λ env l. blank (cell_of env l);
  left_declined = λ op y. refl;
  right_declined = right_declined;
  left_unknown = λ env op l r. left_unknown op (cell_of env l) (cell_of env r);
  right_unknown = λ env op l r. right_unknown op (cell_of env l) (cell_of env r);
}

-- ---- lists

module _ {A B : Type 0} (f : A → B) where
  put_map : (b : Bool) (x : A) (xs : List A) → put b (f x) (map f xs) ≡ map f (put b x xs)
  put_map true x xs = refl
  put_map false x xs = refl

  keep_map : (p : A → Bool) (q : B → Bool) → ((x : A) → q (f x) ≡ p x) → (xs : List A) → keep q (map f xs) ≡ map f (keep p xs)
  keep_map p q h [] = refl
  keep_map p q h (x ∷ xs) = ap₂ (λ (b : Bool) (ys : List B). put b (f x) ys) (h x) (keep_map p q h xs) ∙ put_map (p x) x (keep p xs)

  map_both : {C : Type 0} (g : B → C) (h : A → C) → ((x : A) → g (f x) ≡ h x) → (xs : List A) → map g (map f xs) ≡ map h xs
  map_both g h e [] = refl
  map_both g h e (x ∷ xs) = ap₂ ◌∷◌ (e x) (map_both g h e xs)

  there_map : (xs : List A) → is_there_one (map f xs) ≡ is_there_one xs
  there_map [] = refl
  there_map (x ∷ xs) = refl

-- ---- declined cells taken for blank ones

ranged_blank : (ts : Tables) (env : Env) (f : FromClause ℕ) → ranged (tables_as_blank ts) (rows_as_blank env) f ≡ map rows_as_blank (ranged ts env f)
ranged_blank ts env (Single t) =
    ap (map (λ row. rows_as_blank env ▸ row)) (table_blank ts t)
    ∙ map_both (map as_blank) (λ row. rows_as_blank env ▸ row) (λ row. rows_as_blank (env ▸ row)) (deeper_blank env) (rows_of ts t)
    ∙ sym (map_both (λ row. env ▸ row) rows_as_blank (λ row. rows_as_blank (env ▸ row)) (λ row. refl) (rows_of ts t))

module _ (ts : Tables) (env : Env) (f : FromClause ℕ) (asked asked' : Env → Truth) (same : (inside : Env) → asked' (rows_as_blank inside) ≡ asked inside) where
  retained_blank : retained asked' (ranged (tables_as_blank ts) (rows_as_blank env) f) ≡ map rows_as_blank (retained asked (ranged ts env f))
  retained_blank =
      ap (retained asked') (ranged_blank ts env f)
      ∙ keep_map rows_as_blank (λ inside. is_true (asked inside)) (λ inside. is_true (asked' inside)) (λ inside. ap is_true (same inside)) (ranged ts env f)

value_compared : (op : Comparison) (env inside : Env) (l s : Value)
    → compare3 op (cell_of (rows_as_blank env) l) (cell_of (rows_as_blank inside) s) ≡ compare3 op (cell_of env l) (cell_of inside s)
value_compared op env inside l s = ap₂ (compare3 op) (cell_blank env l) (cell_blank inside s) ∙ compared_blank Unknown _ (cell_of env l) (cell_of inside s)

-- the rule whose parts are numbered from k on
same_value : (r : Rule) (k : ℕ) (ts : Tables) (env : Env) → any part_asks_declined (parts_from k r) ≡ false → meaning (tables_as_blank ts) (rows_as_blank env) r ≡ meaning ts env r
unfolding meaning parts_from
same_value (Atom (Compare op l r)) k ts env e = value_compared op env env l r
same_value (Atom (Mark Null l)) k ts env e = ap (λ (x : Cell). truth (is_blank x)) (cell_blank env l) ∙ ap truth (blank_blank (cell_of env l))
same_value (Atom (Mark NotNull l)) k ts env e = ap (λ (x : Cell). truth (not (is_blank x))) (cell_blank env l) ∙ ap (λ (b : Bool). truth (not b)) (blank_blank (cell_of env l))
same_value (Atom (Mark IsDeclined l)) k ts env e = absurd (false≢true (sym e))
same_value (Atom (Mark NotDeclined l)) k ts env e = absurd (false≢true (sym e))
same_value (Join j a b) k ts env e =
    let inner = none_both part_asks_declined (parts_from (k + 1) a) (parts_from (k + 1 + parts a) b) (none_behind part_asks_declined (part_of (k + (1 + parts a + parts b)) (JoinHead j)) (parts_from (k + 1) a ++ parts_from (k + 1 + parts a) b) e) in
    ap₂ (join3 j) (same_value a (k + 1) ts env inner.0) (same_value b (k + 1 + parts a) ts env inner.1)
same_value (Apply u a) k ts env e = ap (unary3 u) (same_value a (k + 1) ts env (none_behind part_asks_declined (part_of (k + (1 + parts a)) (UnaryHead u)) (parts_from (k + 1) a) e))
same_value (Exists f w) k ts env e =
    let inner = none_behind part_asks_declined (part_of (k + (1 + parts w)) (ExistsHead f)) (parts_from (k + 1) w) e in
    let kept = retained (λ inside. meaning ts inside w) (ranged ts env f) in
    ap (λ (envs : List Env). truth (is_there_one envs))
    (retained_blank ts env f (λ inside. meaning ts inside w) (λ inside. meaning (tables_as_blank ts) inside w) (λ inside. same_value w (k + 1) ts inside inner))
    ∙ ap truth (there_map rows_as_blank kept)
same_value (Listed q op l s f w) k ts env e =
    let inner = none_behind part_asks_declined (part_of (k + (1 + parts w)) (ListedHead q op l s f)) (parts_from (k + 1) w) e in
    let kept = retained (λ inside. meaning ts inside w) (ranged ts env f) in
    ap (λ (envs : List Env). over3 q (map (λ inside. compare3 op (cell_of (rows_as_blank env) l) (cell_of inside s)) envs))
    (retained_blank ts env f (λ inside. meaning ts inside w) (λ inside. meaning (tables_as_blank ts) inside w) (λ inside. same_value w (k + 1) ts inside inner))
    ∙ ap (over3 q) (map_both rows_as_blank _ _ (λ inside. value_compared op env inside l s) kept)

pub declined_parts_claim : DeclinedPartsClaim
unfolding parts_from
declined_parts_claim = record { declined = λ l. refl; not_declined = λ l. refl }

-- a test of the kinds of some parts
kinds_any : (q : ℕ → Bool) (ps : List Part) → any q (map (λ p. p.kind) ps) ≡ any (λ p. q p.kind) ps
kinds_any q [] = refl
kinds_any q (p ∷ ps) = ap (λ (t : Bool). q p.kind || t) (kinds_any q ps)

pub asks_claim : AsksClaim
asks_claim r =
    let told = one_of_two 16 17 (map (λ p. p.kind) (parts_of r)) in
    let same = kinds_any (λ n. eqb n 16 || eqb n 17) (parts_of r) in
    ((λ e. told.0 (same ∙ e)), (λ m. sym same ∙ told.1 m))

pub declined_blank_claim : DeclinedBlankClaim
declined_blank_claim ts env r e = sym (same_value r 0 ts env e)
