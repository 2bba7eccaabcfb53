-- Reading without depths: any depth that is enough gives the same reading, so `reading` has an equation for each goal.
use mathlib.Core.Path.{◌≡◌, refl, sym, ap, ◌∙◌}
use mathlib.Core.Bool.{Bool, true, false}
use mathlib.Core.List.{[], ◌∷◌}
use mathlib.Core.Option.{Option, none, some}
use Prim.Native.Nat.{ℕ, zero, suc, ◌≤◌, ◌<◌}
use native.Mathlib.Nat.{le_refl}
use native.Mathlib.Omega.{arith}
use lib.ListN.{length}
use Rattle.tables.specs.Lists.{only, ◌>>=◌}
use Rattle.tables.specs.declared.Comparison.{Comparison}
use Rattle.tables.specs.declared.Comparison.TheVariants.{Eq, Ne}
use Rattle.tables.specs.declared.Connective.{Connective}
use Rattle.tables.specs.declared.Connective.TheVariants.{And, Or}
use Rattle.tables.specs.declared.Quantifier.{Quantifier}
use Rattle.tables.specs.declared.Quantifier.TheVariants.{Some, All}
use Rattle.rule.specs.Tokens.{is_fixed, AND, OR, NOT, EXISTS, IN, SOME, ALL, IS, NULL, DECLINED, SELECT, FROM, WHERE, Open, Point}
use Rattle.rule.specs.declared.Token.{Token}
use Rattle.rule.specs.declared.Token.TheVariants.{Fixed, Compares, Letter, Number}
use Rattle.rule.specs.Condition.{Join, Apply, WrittenCondition}
use Rattle.rule.specs.declared.Unary.TheVariants.{Not}
use Rattle.rule.specs.declared.WrittenValue.{WrittenValue}
use Rattle.rule.specs.Grammar.{Tokens}
use Rattle.rule.specs.Reader.{expect, read_number, read_letter, read_comparison, read_value, read_from, Opening, Start, Whole, Around, start_list, start_value, start, Goal, condition, conjunction, factor, test, more_or, more_and, chain, operand, more, join_word, Found, branch, started, closing, read, depth_for, reading, at_end, read_all}
use Rattle.rule.proofs.Found.{bind_ind, or_ind}
use Rattle.rule.proofs.Reading.{conjunction_left, factor_left}

-- ---- fewer tokens are left

module _ {A : Type 0} where
  -- what is found leaves fewer than n tokens
  abbrev Under : ℕ → Option (A × Tokens) → Type 0
  Under n none = Unit {0}
  Under n (some x) = length x.1 < n

  under : (n : ℕ) (o : Option (A × Tokens)) (x : A × Tokens) → o ≡ some x → Under n o → length x.1 < n
  under n o x e h = rw e at h

expect_under : (t : Token) (ts us : Tokens) → expect t ts ≡ some us → length us < length ts
unfolding expect
expect_under t [] us e = let z : ◌≡◌ {A = ℕ} 0 1 = cc in absurd (omega arith)
expect_under t (Fixed k ∷ ts) us e = go (is_fixed t k) e
  where
    go : (b : Bool) → only b ts ≡ some us → length us < length (Fixed k ∷ ts)
    go true f = let z : ts ≡ us = cc in rw (← z) (omega arith)
    go false f = let z : ◌≡◌ {A = ℕ} 0 1 = cc in absurd (omega arith)
expect_under t (Compares op ∷ ts) us e = let z : ◌≡◌ {A = ℕ} 0 1 = cc in absurd (omega arith)
expect_under t (Letter x ∷ ts) us e = let z : ◌≡◌ {A = ℕ} 0 1 = cc in absurd (omega arith)
expect_under t (Number n ∷ ts) us e = let z : ◌≡◌ {A = ℕ} 0 1 = cc in absurd (omega arith)

number_under : (ts : Tokens) → Under (length ts) (read_number ts)
unfolding read_number
number_under [] = tt
number_under (Fixed k ∷ ts) = tt
number_under (Compares op ∷ ts) = tt
number_under (Letter x ∷ ts) = tt
number_under (Number n ∷ ts) = omega arith

letter_under : (ts : Tokens) → Under (length ts) (read_letter ts)
unfolding read_letter
letter_under [] = tt
letter_under (Fixed k ∷ ts) = tt
letter_under (Compares op ∷ ts) = tt
letter_under (Letter x ∷ ts) = omega arith
letter_under (Number n ∷ ts) = tt

comparison_under : (ts : Tokens) → Under (length ts) (read_comparison ts)
unfolding read_comparison
comparison_under [] = tt
comparison_under (Fixed k ∷ ts) = tt
comparison_under (Compares op ∷ ts) = omega arith
comparison_under (Letter x ∷ ts) = tt
comparison_under (Number n ∷ ts) = tt

value_under : (ts : Tokens) → Under (length ts) (read_value ts)
unfolding read_value
value_under [] = tt
value_under (Fixed k ∷ ts) = tt
value_under (Compares op ∷ ts) = tt
value_under (Letter x ∷ ts) =
    bind_ind (Under (length (Letter x ∷ ts))) (expect Point ts) _ tt (λ us e.
    bind_ind (Under (length (Letter x ∷ ts))) (read_number us) _ tt (λ n f.
    omega (arith, expect_under Point ts us e, under (length us) (read_number us) n f (number_under us))))
value_under (Number n ∷ ts) = omega arith

from_under : (ts : Tokens) → Under (length ts) (read_from ts)
unfolding read_from
from_under ts =
    bind_ind (Under (length ts)) (expect FROM ts) _ tt (λ us e.
    bind_ind (Under (length ts)) (read_number us) _ tt (λ n f.
    bind_ind (Under (length ts)) (read_letter n.1) _ tt (λ x g.
    bind_ind (Under (length ts)) (expect WHERE x.1) _ tt (λ vs h.
    omega (arith, expect_under FROM ts us e, under (length us) (read_number us) n f (number_under us), under (length n.1) (read_letter n.1) x g (letter_under n.1), expect_under WHERE x.1 vs h)))))

-- a start leaves fewer than n tokens to the condition that its test holds
data Begun (n : ℕ) : Option Start → Type 0 where
  nothing : Begun n none
  whole : {a : WrittenCondition} {rest : Tokens} → Begun n (some (Whole a rest))
  around : {o : Opening} {us : Tokens} → length us < n → Begun n (some (Around o us))

list_begun : (n : ℕ) (q : Quantifier) (op : Comparison) (l : WrittenValue) (ts : Tokens) → length ts < n → Begun n (start_list q op l ts)
unfolding start_list
list_begun n q op l ts h =
    bind_ind (Begun n) (expect Open ts) _ nothing (λ us e.
    bind_ind (Begun n) (expect SELECT us) _ nothing (λ vs f.
    bind_ind (Begun n) (read_value vs) _ nothing (λ s g.
    bind_ind (Begun n) (read_from s.1) _ nothing (λ x i.
    around (omega (arith, expect_under Open ts us e, expect_under SELECT us vs f, under (length vs) (read_value vs) s g (value_under vs), under (length s.1) (read_from s.1) x i (from_under s.1)))))))

value_begun : (n : ℕ) (l : WrittenValue) (ts : Tokens) → length ts < n → Begun n (start_value l ts)
unfolding start_value
value_begun n l ts h =
    or_ind (Begun n) _ _ (or_ind (Begun n) _ _ (or_ind (Begun n) _ _ (or_ind (Begun n) _ _ (or_ind (Begun n) _ _ (or_ind (Begun n) _ _ (or_ind (Begun n) _ _ (or_ind (Begun n) _ _
    (bind_ind (Begun n) (expect IS ts) _ nothing (λ us e. bind_ind (Begun n) (expect NULL us) _ nothing (λ vs f. whole)))
    (bind_ind (Begun n) (expect IS ts) _ nothing (λ us e. bind_ind (Begun n) (expect NOT us) _ nothing (λ vs f. bind_ind (Begun n) (expect NULL vs) _ nothing (λ ws g. whole)))))
    (bind_ind (Begun n) (expect IS ts) _ nothing (λ us e. bind_ind (Begun n) (expect DECLINED us) _ nothing (λ vs f. whole))))
    (bind_ind (Begun n) (expect IS ts) _ nothing (λ us e. bind_ind (Begun n) (expect NOT us) _ nothing (λ vs f. bind_ind (Begun n) (expect DECLINED vs) _ nothing (λ ws g. whole)))))
    (bind_ind (Begun n) (read_comparison ts) _ nothing (λ c e. bind_ind (Begun n) (read_value c.1) _ nothing (λ r f. whole))))
    (bind_ind (Begun n) (read_comparison ts) _ nothing (λ c e. bind_ind (Begun n) (expect SOME c.1) _ nothing (λ us f.
    list_begun n Some c.0 l us (omega (arith, under (length ts) (read_comparison ts) c e (comparison_under ts), expect_under SOME c.1 us f))))))
    (bind_ind (Begun n) (read_comparison ts) _ nothing (λ c e. bind_ind (Begun n) (expect ALL c.1) _ nothing (λ us f.
    list_begun n All c.0 l us (omega (arith, under (length ts) (read_comparison ts) c e (comparison_under ts), expect_under ALL c.1 us f))))))
    (bind_ind (Begun n) (expect IN ts) _ nothing (λ us e. list_begun n Some Eq l us (omega (arith, expect_under IN ts us e)))))
    (bind_ind (Begun n) (expect NOT ts) _ nothing (λ us e. bind_ind (Begun n) (expect IN us) _ nothing (λ vs f.
    list_begun n All Ne l vs (omega (arith, expect_under NOT ts us e, expect_under IN us vs f)))))

start_begun : (ts : Tokens) → Begun (length ts) (start ts)
unfolding start
start_begun ts =
    or_ind (Begun (length ts)) _ _ (or_ind (Begun (length ts)) _ _
    (bind_ind (Begun (length ts)) (expect Open ts) _ nothing (λ us e. around (omega (arith, expect_under Open ts us e))))
    (bind_ind (Begun (length ts)) (expect EXISTS ts) _ nothing (λ us e. bind_ind (Begun (length ts)) (expect Open us) _ nothing (λ vs f. bind_ind (Begun (length ts)) (read_from vs) _ nothing (λ x g.
    around (omega (arith, expect_under EXISTS ts us e, expect_under Open us vs f, under (length vs) (read_from vs) x g (from_under vs))))))))
    (bind_ind (Begun (length ts)) (read_value ts) _ nothing (λ l e. value_begun (length ts) l.0 l.1 (under (length ts) (read_value ts) l e (value_under ts))))

around_under : (ts : Tokens) (op : Opening) (us : Tokens) → start ts ≡ some (Around op us) → length us < length ts
around_under ts op us e = go (rw e at (start_begun ts))
  where
    go : Begun (length ts) (some (Around op us)) → length us < length ts
    go (around h) = h

-- ---- any depth that is enough gives the same

bind_same : {A B : Type 0} {o o' : Option A} (f f' : A → Option B) → o ≡ o' → ((x : A) → o ≡ some x → f x ≡ f' x) → (o >>= f) ≡ (o' >>= f')
bind_same {A = A} {o = o} f f' e h = go o h ∙ ap (◌>>= f') e
  where
    go : (o : Option A) → ((x : A) → o ≡ some x → f x ≡ f' x) → (o >>= f) ≡ (o >>= f')
    go none k = refl
    go (some x) k = k x refl

branch_same : (o : Option Tokens) (f f' : Tokens → Found) (z z' : Unit {0} → Found) → ((us : Tokens) → o ≡ some us → f us ≡ f' us) → z tt ≡ z' tt → branch o f z ≡ branch o f' z'
branch_same none f f' z z' h n = n
branch_same (some us) f f' z z' h n = h us refl

started_same : (o : Option Start) (f f' : Opening → Tokens → Found) → ((op : Opening) (us : Tokens) → o ≡ some (Around op us) → f op us ≡ f' op us) → started o f ≡ started o f'
started_same none f f' h = refl
started_same (some (Whole a rest)) f f' h = refl
started_same (some (Around op us)) f f' h = h op us refl

some_depth : (g : Goal) (ts : Tokens) → 1 ≤ depth_for g ts
some_depth condition ts = omega arith
some_depth conjunction ts = omega arith
some_depth factor ts = omega arith
some_depth test ts = omega arith
some_depth (more_or a) ts = omega arith
some_depth (more_and a) ts = omega arith

same : (d e : ℕ) (g : Goal) (ts : Tokens) → depth_for g ts ≤ d → depth_for g ts ≤ e → read d g ts ≡ read e g ts
unfolding read
same zero e g ts p q = absurd (omega (arith, some_depth g ts))
same (suc d) zero g ts p q = absurd (omega (arith, some_depth g ts))
same (suc d) (suc e) condition ts p q =
    bind_same _ _ (same d e conjunction ts (omega arith) (omega arith))
    (λ x i. let l : length x.1 ≤ length ts = conjunction_left d ts x i in same d e (more_or x.0) x.1 (omega arith) (omega arith))
same (suc d) (suc e) (more_or a) ts p q =
    branch_same (expect OR ts) _ _ _ _
    (λ us i. let k : length us < length ts = expect_under OR ts us i in bind_same _ _ (same d e conjunction us (omega arith) (omega arith))
    (λ x f. let l : length x.1 ≤ length us = conjunction_left d us x f in same d e (more_or (Join Or a x.0)) x.1 (omega arith) (omega arith)))
    refl
same (suc d) (suc e) conjunction ts p q =
    bind_same _ _ (same d e factor ts (omega arith) (omega arith))
    (λ x i. let l : length x.1 ≤ length ts = factor_left d ts x i in same d e (more_and x.0) x.1 (omega arith) (omega arith))
same (suc d) (suc e) (more_and a) ts p q =
    branch_same (expect AND ts) _ _ _ _
    (λ us i. let k : length us < length ts = expect_under AND ts us i in bind_same _ _ (same d e factor us (omega arith) (omega arith))
    (λ x f. let l : length x.1 ≤ length us = factor_left d us x f in same d e (more_and (Join And a x.0)) x.1 (omega arith) (omega arith)))
    refl
same (suc d) (suc e) factor ts p q =
    branch_same (expect NOT ts) _ _ _ _
    (λ us i. let k : length us < length ts = expect_under NOT ts us i in ap (◌>>= (λ x. some (Apply Not x.0, x.1))) (same d e factor us (omega arith) (omega arith)))
    (same d e test ts (omega arith) (omega arith))
same (suc d) (suc e) test ts p q =
    started_same (start ts) _ _
    (λ op us i. let k : length us < length ts = around_under ts op us i in ap (◌>>= closing op) (same d e condition us (omega arith) (omega arith)))

at_depth : (d : ℕ) (g : Goal) (ts : Tokens) → depth_for g ts ≤ d → read d g ts ≡ reading g ts
unfolding reading
at_depth d g ts p = same d (depth_for g ts) g ts p (le_refl (depth_for g ts))

-- ---- the equations of `reading`

reading_condition : (ts : Tokens) → reading condition ts ≡ (reading conjunction ts >>= (λ a. reading (more_or a.0) a.1))
unfolding read
reading_condition ts =
    let d : ℕ = depth_for condition ts in
    sym (at_depth (suc d) condition ts (omega arith))
    ∙ bind_same _ _ (at_depth d conjunction ts (omega arith))
    (λ x i. let l : length x.1 ≤ length ts = conjunction_left d ts x i in at_depth d (more_or x.0) x.1 (omega arith))

reading_more_or : (a : WrittenCondition) (ts : Tokens)
    → reading (more_or a) ts ≡ branch (expect OR ts) (λ us. reading conjunction us >>= (λ b. reading (more_or (Join Or a b.0)) b.1)) (λ _. some (a, ts))
unfolding read
reading_more_or a ts =
    let d : ℕ = depth_for (more_or a) ts in
    sym (at_depth (suc d) (more_or a) ts (omega arith))
    ∙ branch_same (expect OR ts) _ _ _ _
    (λ us i. let k : length us < length ts = expect_under OR ts us i in bind_same _ _ (at_depth d conjunction us (omega arith))
    (λ x f. let l : length x.1 ≤ length us = conjunction_left d us x f in at_depth d (more_or (Join Or a x.0)) x.1 (omega arith)))
    refl

reading_conjunction : (ts : Tokens) → reading conjunction ts ≡ (reading factor ts >>= (λ a. reading (more_and a.0) a.1))
unfolding read
reading_conjunction ts =
    let d : ℕ = depth_for conjunction ts in
    sym (at_depth (suc d) conjunction ts (omega arith))
    ∙ bind_same _ _ (at_depth d factor ts (omega arith))
    (λ x i. let l : length x.1 ≤ length ts = factor_left d ts x i in at_depth d (more_and x.0) x.1 (omega arith))

reading_more_and : (a : WrittenCondition) (ts : Tokens)
    → reading (more_and a) ts ≡ branch (expect AND ts) (λ us. reading factor us >>= (λ b. reading (more_and (Join And a b.0)) b.1)) (λ _. some (a, ts))
unfolding read
reading_more_and a ts =
    let d : ℕ = depth_for (more_and a) ts in
    sym (at_depth (suc d) (more_and a) ts (omega arith))
    ∙ branch_same (expect AND ts) _ _ _ _
    (λ us i. let k : length us < length ts = expect_under AND ts us i in bind_same _ _ (at_depth d factor us (omega arith))
    (λ x f. let l : length x.1 ≤ length us = factor_left d us x f in at_depth d (more_and (Join And a x.0)) x.1 (omega arith)))
    refl

pub reading_factor : (ts : Tokens) → reading factor ts ≡ branch (expect NOT ts) (λ us. reading factor us >>= (λ a. some (Apply Not a.0, a.1))) (λ _. reading test ts)
unfolding read
reading_factor ts =
    let d : ℕ = depth_for factor ts in
    sym (at_depth (suc d) factor ts (omega arith))
    ∙ branch_same (expect NOT ts) _ _ _ _
    (λ us i. let k : length us < length ts = expect_under NOT ts us i in ap (◌>>= (λ x. some (Apply Not x.0, x.1))) (at_depth d factor us (omega arith)))
    (at_depth d test ts (omega arith))

pub reading_test : (ts : Tokens) → reading test ts ≡ started (start ts) (λ o us. reading condition us >>= closing o)
unfolding read
reading_test ts =
    let d : ℕ = depth_for test ts in
    sym (at_depth (suc d) test ts (omega arith))
    ∙ started_same (start ts) _ _
    (λ op us i. let k : length us < length ts = around_under ts op us i in ap (◌>>= closing op) (at_depth d condition us (omega arith)))

pub reading_all : (ts : Tokens) → read_all ts ≡ (reading condition ts >>= at_end)
unfolding read_all
reading_all ts = refl

-- ---- a chain: conjunctions joined by OR, or factors joined by AND

pub reading_chain : (j : Connective) (ts : Tokens) → reading (chain j) ts ≡ (reading (operand j) ts >>= (λ a. reading (more j a.0) a.1))
reading_chain Or ts = reading_condition ts
reading_chain And ts = reading_conjunction ts

pub reading_more : (j : Connective) (a : WrittenCondition) (ts : Tokens)
    → reading (more j a) ts ≡ branch (expect (Fixed (join_word j)) ts) (λ us. reading (operand j) us >>= (λ b. reading (more j (Join j a b.0)) b.1)) (λ _. some (a, ts))
reading_more Or a ts = reading_more_or a ts
reading_more And a ts = reading_more_and a ts
