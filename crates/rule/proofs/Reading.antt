-- Reading is decidable and unique: `read_all` finds a reading exactly when the grammar has one, and no tokens have two.
use mathlib.Core.Path.{◌≡◌, refl, ap, subst, ◌∙◌}
use mathlib.Core.List.{[], ◌∷◌}
use mathlib.Core.Option.{Option, none, some}
use Prim.Native.Nat.{ℕ, zero, suc, ◌≤◌, ◌<◌}
use native.Mathlib.Nat.{le_refl}
use native.Mathlib.Omega.{arith}
use lib.ListN.{length}
use Rattle.tables.specs.Lists.{◌>>=◌, ◌<|>◌}
use Rattle.tables.specs.declared.Comparison.{Comparison}
use Rattle.tables.specs.declared.Comparison.TheVariants.{Eq, Ne}
use Rattle.tables.specs.declared.Connective.TheVariants.{And, Or}
use Rattle.tables.specs.declared.Quantifier.{Quantifier}
use Rattle.tables.specs.declared.Quantifier.TheVariants.{Some, All}
use Rattle.rule.specs.Tokens.{AND, OR, NOT, EXISTS, FROM, WHERE, Open, Close}
use Rattle.rule.specs.Condition.{Join, Apply, WrittenCondition}
use Rattle.rule.specs.declared.Unary.{Unary}
use Rattle.rule.specs.declared.Unary.TheVariants.{Not}
use Rattle.rule.specs.declared.FromClause.{FromClause}
use Rattle.rule.specs.declared.WrittenValue.{WrittenValue}
use Rattle.rule.specs.declared.Source.{Source}
use Rattle.rule.specs.declared.Word.TheVariants.{Close as CloseWord, And as AndWord, Or as OrWord, Not as NotWord}
use Rattle.rule.specs.Grammar.{Tokens, IsValue, number, column, IsFrom, single, IsTruthTest, is_truth, is_not_truth, IsCondition, one_conjunction, joined_by_or, IsConjunction, one_factor, joined_by_and, IsFactor, not_factor, one_test, IsTest, bracketed, truth_tested_lem, exists, is_null, is_not_null, is_declined, is_not_declined, compared, some_of, all_of, is_in, not_in, IsList, list, Reads}
use Rattle.rule.specs.Reader.{expect, read_value, Opening, Bracket, OfExists, OfList, closed, Start, Whole, Around, start_list, start, Goal, condition, conjunction, factor, test, more_or, more_and, Found, branch, started, ended, closing, read, depth_for, reading, at_end, read_all}
use Rattle.rule.specs.Claims.{ReadingClaim}
use Rattle.rule.proofs.Found.{bind_ind, expect_at, branch_at, TestFound, no_test, a_test, Promised, nothing, whole, around, start_promised, AfterCondition, end_after, close_after, or_after, AfterTest, condition_ends, and_after, no_and, untested, tested_found, null_found, not_null_found, declined_found, not_declined_found, compared_found, from_found, list_found, some_found, all_found, in_found, not_in_found}

-- ---- a reading of the function is one of the grammar

abbrev Means : Goal → Tokens → WrittenCondition → Tokens → Type 0
Means condition ts a rest = IsCondition ts a rest
Means conjunction ts a rest = IsConjunction ts a rest
Means factor ts a rest = IsFactor ts a rest
Means test ts a rest = IsTest ts a rest
Means (more_or b) ts a rest = (before : Tokens) → IsCondition before b ts → IsCondition before a rest
Means (more_and b) ts a rest = (before : Tokens) → IsConjunction before b ts → IsConjunction before a rest

data Right (goal : Goal) (ts : Tokens) : Found → Type 0 where
  none_found : Right goal ts none
  found : {a : WrittenCondition} {rest : Tokens} → Means goal ts a rest → Right goal ts (some (a, rest))

-- a reading at one place that always completes to one at another
carry : (g g' : Goal) (ts ts' : Tokens) {o : Found} → ((a : WrittenCondition) (rest : Tokens) → Means g' ts' a rest → Means g ts a rest) → Right g' ts' o → Right g ts o
carry g g' ts ts' k none_found = none_found
carry g g' ts ts' k (found {a = a} {rest = rest} m) = found (k a rest m)

met : (g : Goal) (ts : Tokens) {o : Found} (x : WrittenCondition × Tokens) → o ≡ some x → Right g ts o → Means g ts x.0 x.1
met g ts x e r = go (rw e at r)
  where
    go : Right g ts (some x) → Means g ts x.0 x.1
    go (found m) = m

test_found : {ts : Tokens} {o : Found} → TestFound ts o → Right test ts o
test_found no_test = none_found
test_found (a_test t) = found t

-- a test, once its start is known
test_right : (ts : Tokens) (o : Option Start) (inner : Tokens → Found) → ((us : Tokens) → Right condition us (inner us)) → Promised ts o → Right test ts (started o (λ op us. inner us >>= closing op))
test_right ts none inner r nothing = none_found
test_right ts (some (Whole a rest)) inner r (whole t) = found t
test_right ts (some (Around op us)) inner r (around h) =
    bind_ind (Right test ts) (inner us) (closing op) none_found
    (λ x e. expect_at (λ vs o. IsCondition us x.0 vs → Right test ts o) (λ _ _. none_found) CloseWord (λ rest. ended op (closed op x.0) rest) (λ rest c. test_found (h x.0 rest c)) x.1 (met condition us x e (r us)))

sound : (d : ℕ) (g : Goal) (ts : Tokens) → Right g ts (read d g ts)
unfolding read
sound zero g ts = none_found
sound (suc d) condition ts =
    bind_ind (Right condition ts) (read d conjunction ts) _ none_found
    (λ x e. carry condition (more_or x.0) ts x.1 (λ a rest m. m ts (one_conjunction (met conjunction ts x e (sound d conjunction ts)))) (sound d (more_or x.0) x.1))
sound (suc d) (more_or b) ts =
    branch_at (Right (more_or b)) OrWord _ (λ us. some (b, us))
    (λ us. bind_ind (Right (more_or b) (OR ∷ us)) (read d conjunction us) _ none_found
    (λ x e. carry (more_or b) (more_or (Join Or b x.0)) (OR ∷ us) x.1 (λ a rest m before c. m before (joined_by_or c (met conjunction us x e (sound d conjunction us)))) (sound d (more_or (Join Or b x.0)) x.1)))
    (λ us. found (λ before c. c)) ts
sound (suc d) conjunction ts =
    bind_ind (Right conjunction ts) (read d factor ts) _ none_found
    (λ x e. carry conjunction (more_and x.0) ts x.1 (λ a rest m. m ts (one_factor (met factor ts x e (sound d factor ts)))) (sound d (more_and x.0) x.1))
sound (suc d) (more_and b) ts =
    branch_at (Right (more_and b)) AndWord _ (λ us. some (b, us))
    (λ us. bind_ind (Right (more_and b) (AND ∷ us)) (read d factor us) _ none_found
    (λ x e. carry (more_and b) (more_and (Join And b x.0)) (AND ∷ us) x.1 (λ a rest m before c. m before (joined_by_and c (met factor us x e (sound d factor us)))) (sound d (more_and (Join And b x.0)) x.1)))
    (λ us. found (λ before c. c)) ts
sound (suc d) factor ts =
    branch_at (Right factor) NotWord _ (λ us. read d test us)
    (λ us. bind_ind (Right factor (NOT ∷ us)) (read d factor us) _ none_found (λ x e. found (not_factor (met factor us x e (sound d factor us)))))
    (λ us. carry factor test us us (λ a rest m. one_test m) (sound d test us)) ts
sound (suc d) test ts = test_right ts (start ts) (λ us. read d condition us) (λ us. sound d condition us) (start_promised ts)

-- ---- a reading of the grammar is the function's, where the token after it does not go on with it

-- no more tokens are left after a reading than before it
value_inside : {ts rest : Tokens} {v : WrittenValue} → IsValue ts v rest → length rest ≤ length ts
value_inside number = omega arith
value_inside column = omega arith

from_inside : {ts rest : Tokens} {f : FromClause Source} → IsFrom ts f rest → length rest ≤ length ts
from_inside single = omega arith

truth_inside : {ts rest : Tokens} {u : Unary} → IsTruthTest ts u rest → length rest ≤ length ts
truth_inside (is_truth w) = omega arith
truth_inside (is_not_truth w) = omega arith

mutual
  condition_inside : {ts rest : Tokens} {a : WrittenCondition} → IsCondition ts a rest → length rest ≤ length ts
  condition_inside (one_conjunction r) = conjunction_inside r
  condition_inside (joined_by_or r q) = omega (arith, condition_inside r, conjunction_inside q)

  conjunction_inside : {ts rest : Tokens} {a : WrittenCondition} → IsConjunction ts a rest → length rest ≤ length ts
  conjunction_inside (one_factor r) = factor_inside r
  conjunction_inside (joined_by_and r q) = omega (arith, conjunction_inside r, factor_inside q)

  factor_inside : {ts rest : Tokens} {a : WrittenCondition} → IsFactor ts a rest → length rest ≤ length ts
  factor_inside (not_factor r) = omega (arith, factor_inside r)
  factor_inside (one_test r) = test_inside r

  test_inside : {ts rest : Tokens} {a : WrittenCondition} → IsTest ts a rest → length rest ≤ length ts
  test_inside (bracketed r) = omega (arith, condition_inside r)
  test_inside (truth_tested_lem r t) = omega (arith, condition_inside r, truth_inside t)
  test_inside (exists f r) = omega (arith, from_inside f, condition_inside r)
  test_inside (is_null v) = omega (arith, value_inside v)
  test_inside (is_not_null v) = omega (arith, value_inside v)
  test_inside (is_declined v) = omega (arith, value_inside v)
  test_inside (is_not_declined v) = omega (arith, value_inside v)
  test_inside (compared v w) = omega (arith, value_inside v, value_inside w)
  test_inside (some_of v r) = omega (arith, value_inside v, list_inside r)
  test_inside (all_of v r) = omega (arith, value_inside v, list_inside r)
  test_inside (is_in v r) = omega (arith, value_inside v, list_inside r)
  test_inside (not_in v r) = omega (arith, value_inside v, list_inside r)

  list_inside : {ts rest : Tokens} {s : WrittenValue} {f : FromClause Source} {w : WrittenCondition} → IsList ts s f w rest → length rest ≤ length ts
  list_inside (list v f r) = omega (arith, value_inside v, from_inside f, condition_inside r)

module _ (d : ℕ) (ts : Tokens) (x : WrittenCondition × Tokens) where
  pub conjunction_left : read d conjunction ts ≡ some x → length x.1 ≤ length ts
  conjunction_left e = conjunction_inside (met conjunction ts x e (sound d conjunction ts))

  pub factor_left : read d factor ts ≡ some x → length x.1 ≤ length ts
  factor_left e = factor_inside (met factor ts x e (sound d factor ts))

-- a chain that is read so far goes on from here, at a depth that is enough
record Goes (d : ℕ) (g : Goal) (ts : Tokens) (more : Goal) (rest : Tokens) : Type 0 where
  depth : ℕ
  deep : depth_for more rest ≤ depth
  same : read d g ts ≡ read depth more rest

-- no OR, or no AND, follows: the chain ends
or_ends : {d : ℕ} {ts rest : Tokens} {a : WrittenCondition} → expect OR rest ≡ none → Goes d condition ts (more_or a) rest → read d condition ts ≡ some (a, rest)
unfolding read
or_ends {d} {ts} {rest} {a} n r = r.same ∙ go r.depth r.deep
  where
    go : (e : ℕ) → depth_for (more_or a) rest ≤ e → read e (more_or a) rest ≡ some (a, rest)
    go zero h = absurd (omega arith)
    go (suc e) h = ap (λ (o : Option Tokens). branch o (λ us. read e conjunction us >>= (λ b. read e (more_or (Join Or a b.0)) b.1)) (λ _. some (a, rest))) n

and_ends : {d : ℕ} {ts rest : Tokens} {a : WrittenCondition} → expect AND rest ≡ none → Goes d conjunction ts (more_and a) rest → read d conjunction ts ≡ some (a, rest)
unfolding read
and_ends {d} {ts} {rest} {a} n r = r.same ∙ go r.depth r.deep
  where
    go : (e : ℕ) → depth_for (more_and a) rest ≤ e → read e (more_and a) rest ≡ some (a, rest)
    go zero h = absurd (omega arith)
    go (suc e) h = ap (λ (o : Option Tokens). branch o (λ us. read e factor us >>= (λ b. read e (more_and (Join And a b.0)) b.1)) (λ _. some (a, rest))) n

-- one more OR, and the conjunction behind it
or_goes : {d : ℕ} {ts us rest : Tokens} {a b : WrittenCondition} → length rest ≤ length us → Goes d condition ts (more_or a) (OR ∷ us)
    → ((e : ℕ) → depth_for conjunction us ≤ e → read e conjunction us ≡ some (b, rest)) → Goes d condition ts (more_or (Join Or a b)) rest
unfolding read expect
or_goes {d} {ts} {us} {rest} {a} {b} l r q = go r.depth r.deep r.same
  where
    go : (e : ℕ) → depth_for (more_or a) (OR ∷ us) ≤ e → read d condition ts ≡ read e (more_or a) (OR ∷ us) → Goes d condition ts (more_or (Join Or a b)) rest
    go zero h s = absurd (omega arith)
    go (suc e) h s = record { depth = e; deep = omega arith; same = s ∙ ap (◌>>= (λ x. read e (more_or (Join Or a x.0)) x.1)) (q e (omega arith)) }

and_goes : {d : ℕ} {ts us rest : Tokens} {a b : WrittenCondition} → length rest ≤ length us → Goes d conjunction ts (more_and a) (AND ∷ us)
    → ((e : ℕ) → depth_for factor us ≤ e → read e factor us ≡ some (b, rest)) → Goes d conjunction ts (more_and (Join And a b)) rest
unfolding read expect
and_goes {d} {ts} {us} {rest} {a} {b} l r q = go r.depth r.deep r.same
  where
    go : (e : ℕ) → depth_for (more_and a) (AND ∷ us) ≤ e → read d conjunction ts ≡ read e (more_and a) (AND ∷ us) → Goes d conjunction ts (more_and (Join And a b)) rest
    go zero h s = absurd (omega arith)
    go (suc e) h s = record { depth = e; deep = omega arith; same = s ∙ ap (◌>>= (λ x. read e (more_and (Join And a x.0)) x.1)) (q e (omega arith)) }

-- a test begins with no NOT
no_not : {ts rest : Tokens} {a : WrittenCondition} → IsTest ts a rest → expect NOT ts ≡ none
unfolding expect
no_not (bracketed r) = refl
no_not (truth_tested_lem r t) = refl
no_not (exists f r) = refl
no_not (is_null number) = refl
no_not (is_null column) = refl
no_not (is_not_null number) = refl
no_not (is_not_null column) = refl
no_not (is_declined number) = refl
no_not (is_declined column) = refl
no_not (is_not_declined number) = refl
no_not (is_not_declined column) = refl
no_not (compared number w) = refl
no_not (compared column w) = refl
no_not (some_of number r) = refl
no_not (some_of column r) = refl
no_not (all_of number r) = refl
no_not (all_of column r) = refl
no_not (is_in number r) = refl
no_not (is_in column r) = refl
no_not (not_in number r) = refl
no_not (not_in column r) = refl

-- one step of the function, at a depth that is enough; `r` reads what it calls for
module _ {a : WrittenCondition} {rest : Tokens} where
  condition_step : (d : ℕ) (ts : Tokens) → depth_for condition ts ≤ d → length rest ≤ length ts
      → ((e : ℕ) → depth_for conjunction ts ≤ e → read e conjunction ts ≡ some (a, rest)) → Goes d condition ts (more_or a) rest
  unfolding read
  condition_step zero ts h l r = absurd (omega arith)
  condition_step (suc e) ts h l r = record { depth = e; deep = omega arith; same = ap (◌>>= (λ x. read e (more_or x.0) x.1)) (r e (omega arith)) }

  conjunction_step : (d : ℕ) (ts : Tokens) → depth_for conjunction ts ≤ d → length rest ≤ length ts
      → ((e : ℕ) → depth_for factor ts ≤ e → read e factor ts ≡ some (a, rest)) → Goes d conjunction ts (more_and a) rest
  unfolding read
  conjunction_step zero ts h l r = absurd (omega arith)
  conjunction_step (suc e) ts h l r = record { depth = e; deep = omega arith; same = ap (◌>>= (λ x. read e (more_and x.0) x.1)) (r e (omega arith)) }

  not_step : (d : ℕ) (ts : Tokens) → depth_for factor (NOT ∷ ts) ≤ d
      → ((e : ℕ) → depth_for factor ts ≤ e → read e factor ts ≡ some (a, rest)) → read d factor (NOT ∷ ts) ≡ some (Apply Not a, rest)
  unfolding read expect
  not_step zero ts h r = absurd (omega arith)
  not_step (suc e) ts h r = ap (◌>>= (λ x. some (Apply Not x.0, x.1))) (r e (omega arith))

  factor_step : (d : ℕ) (ts : Tokens) → depth_for factor ts ≤ d → expect NOT ts ≡ none
      → ((e : ℕ) → depth_for test ts ≤ e → read e test ts ≡ some (a, rest)) → read d factor ts ≡ some (a, rest)
  unfolding read
  factor_step zero ts h n r = absurd (omega arith)
  factor_step (suc e) ts h n r =
      ap (λ (o : Option Tokens). branch o (λ us. read e factor us >>= (λ x. some (Apply Not x.0, x.1))) (λ _. read e test ts)) n ∙ r e (omega arith)

  -- a test that its start reads to its end
  whole_step : (d : ℕ) (ts : Tokens) → depth_for test ts ≤ d → start ts ≡ some (Whole a rest) → read d test ts ≡ some (a, rest)
  unfolding read
  whole_step zero ts h e = absurd (omega arith)
  whole_step (suc d) ts h e = ap (λ (o : Option Start). started o (λ op us. read d condition us >>= closing op)) e

  -- and one around a condition
  around_step : (d : ℕ) (op : Opening) (ts us : Tokens) → depth_for test ts ≤ d → length us < length ts → start ts ≡ some (Around op us)
      → ((e : ℕ) → depth_for condition us ≤ e → read e condition us ≡ some (a, Close ∷ rest)) → read d test ts ≡ ended op (closed op a) rest
  unfolding read expect
  around_step zero op ts us h l e r = absurd (omega arith)
  around_step (suc d) op ts us h l e r =
      ap (λ (o : Option Start). started o (λ op' vs. read d condition vs >>= closing op')) e ∙ ap (◌>>= closing op) (r d (omega arith))

-- a list, read: its start, and its WHERE
record ListRead (ts : Tokens) (s : WrittenValue) (f : FromClause Source) (w : WrittenCondition) (rest : Tokens) : Type 0 where
  inner : Tokens
  shorter : length inner ≤ length ts
  begins : (q : Quantifier) (op : Comparison) (l : WrittenValue) → start_list q op l ts ≡ some (Around (OfList q op l s f) inner)
  reads : (e : ℕ) → depth_for condition inner ≤ e → read e condition inner ≡ some (w, Close ∷ rest)

closes : {d : ℕ} {ts rest : Tokens} {a : WrittenCondition} → Goes d condition ts (more_or a) (Close ∷ rest) → read d condition ts ≡ some (a, Close ∷ rest)
unfolding expect
closes g = or_ends refl g

bracket_start : (ts : Tokens) → start (Open ∷ ts) ≡ some (Around Bracket ts)
unfolding start expect
bracket_start ts = refl

exists_start : {ts us : Tokens} {f : FromClause Source} → IsFrom ts f (WHERE ∷ us) → start (EXISTS ∷ Open ∷ FROM ∷ ts) ≡ some (Around (OfExists f) us)
unfolding start expect read_value
exists_start is = ap (λ o. (o >>= (λ f. some (Around (OfExists f.0) f.1))) <|> none) (from_found is)

mutual
  condition_goes : {ts rest : Tokens} {a : WrittenCondition} → IsCondition ts a rest → (d : ℕ) → depth_for condition ts ≤ d → AfterCondition rest → Goes d condition ts (more_or a) rest
  condition_goes {ts} (one_conjunction r) d h k = condition_step d ts h (conjunction_inside r) (λ e g. and_ends (no_and k) (conjunction_goes r e g (condition_ends k)))
  condition_goes (joined_by_or r q) d h k = or_goes (conjunction_inside q) (condition_goes r d h or_after) (λ e g. and_ends (no_and k) (conjunction_goes q e g (condition_ends k)))

  conjunction_goes : {ts rest : Tokens} {a : WrittenCondition} → IsConjunction ts a rest → (d : ℕ) → depth_for conjunction ts ≤ d → AfterTest rest → Goes d conjunction ts (more_and a) rest
  conjunction_goes {ts} (one_factor r) d h k = conjunction_step d ts h (factor_inside r) (λ e g. factor_read r e g k)
  conjunction_goes (joined_by_and r q) d h k = and_goes (factor_inside q) (conjunction_goes r d h and_after) (λ e g. factor_read q e g k)

  factor_read : {ts rest : Tokens} {a : WrittenCondition} → IsFactor ts a rest → (d : ℕ) → depth_for factor ts ≤ d → AfterTest rest → read d factor ts ≡ some (a, rest)
  factor_read (not_factor {ts = us} r) d h k = not_step d us h (λ e g. factor_read r e g k)
  factor_read {ts} (one_test r) d h k = factor_step d ts h (no_not r) (λ e g. test_read r e g k)

  test_read : {ts rest : Tokens} {a : WrittenCondition} → IsTest ts a rest → (d : ℕ) → depth_for test ts ≤ d → AfterTest rest → read d test ts ≡ some (a, rest)
  test_read (bracketed {ts = us} r) d h k = around_step d Bracket (Open ∷ us) us h (omega arith) (bracket_start us) (λ e g. closes (condition_goes r e g close_after)) ∙ untested _ k
  test_read (truth_tested_lem {ts = us} r t) d h k =
      around_step d Bracket (Open ∷ us) us h (omega arith) (bracket_start us) (λ e g. closes (condition_goes r e g close_after)) ∙ tested_found _ t
  test_read (exists {us = us} {f = f} is r) d h k =
      around_step d (OfExists f) _ us h (omega (arith, from_inside is)) (exists_start is) (λ e g. closes (condition_goes r e g close_after))
  test_read {ts} (is_null v) d h k = whole_step d ts h (null_found v)
  test_read {ts} (is_not_null v) d h k = whole_step d ts h (not_null_found v)
  test_read {ts} (is_declined v) d h k = whole_step d ts h (declined_found v)
  test_read {ts} (is_not_declined v) d h k = whole_step d ts h (not_declined_found v)
  test_read {ts} (compared v w) d h k = whole_step d ts h (compared_found v w k)
  test_read {ts} (some_of {op = op} {l = l} {s = s} {f = f} v r) d h k =
      let q = list_read r in
      around_step d (OfList Some op l s f) ts q.inner h (omega (arith, q.shorter, value_inside v)) (some_found op (q.begins Some op l) v) q.reads
  test_read {ts} (all_of {op = op} {l = l} {s = s} {f = f} v r) d h k =
      let q = list_read r in
      around_step d (OfList All op l s f) ts q.inner h (omega (arith, q.shorter, value_inside v)) (all_found op (q.begins All op l) v) q.reads
  test_read {ts} (is_in {l = l} {s = s} {f = f} v r) d h k =
      let q = list_read r in
      around_step d (OfList Some Eq l s f) ts q.inner h (omega (arith, q.shorter, value_inside v)) (in_found (q.begins Some Eq l) v) q.reads
  test_read {ts} (not_in {l = l} {s = s} {f = f} v r) d h k =
      let q = list_read r in
      around_step d (OfList All Ne l s f) ts q.inner h (omega (arith, q.shorter, value_inside v)) (not_in_found (q.begins All Ne l) v) q.reads

  list_read : {ts rest : Tokens} {s : WrittenValue} {f : FromClause Source} {w : WrittenCondition} → IsList ts s f w rest → ListRead ts s f w rest
  list_read (list {vs = vs} v is r) = record { inner = vs; shorter = omega (arith, value_inside v, from_inside is); begins = λ q op l. list_found q op l v is; reads = λ e g. closes (condition_goes r e g close_after) }

-- ---- all the tokens

pub read_complete : (ts : Tokens) (a : WrittenCondition) → Reads ts a → read_all ts ≡ some a
unfolding read_all reading expect
read_complete ts a r = ap (◌>>= at_end) (or_ends refl (condition_goes r (depth_for condition ts) (le_refl (depth_for condition ts)) end_after))

abbrev ReadsSome : Tokens → Option WrittenCondition → Type 0
ReadsSome ts none = Unit {0}
ReadsSome ts (some a) = Reads ts a

reads_some : (ts : Tokens) → ReadsSome ts (read_all ts)
unfolding read_all reading
reads_some ts = bind_ind (ReadsSome ts) (reading condition ts) at_end tt (λ x e. go x.1 (met condition ts x e (sound (depth_for condition ts) condition ts)))
  where
    go : {a : WrittenCondition} (rest : Tokens) → IsCondition ts a rest → ReadsSome ts (at_end (a, rest))
    go [] c = c
    go (t ∷ us) c = tt

pub read_sound : (ts : Tokens) (a : WrittenCondition) → read_all ts ≡ some a → Reads ts a
read_sound ts a e = subst (ReadsSome ts) e (reads_some ts)

-- "in its single reading": no tokens have two
pub read_unique : (ts : Tokens) (a b : WrittenCondition) → Reads ts a → Reads ts b → a ≡ b
read_unique ts a b p q = let x = read_complete ts a p in let y = read_complete ts b q in cc

-- none: no reading at all
pub read_none : (ts : Tokens) → read_all ts ≡ none → (a : WrittenCondition) → ¬ Reads ts a
read_none ts e a r = let x = read_complete ts a r in let z : ◌≡◌ {A = ℕ} 0 1 = cc in omega arith

pub reading_claim : ReadingClaim
reading_claim = record { finds = read_complete; finds_only = read_sound; finds_none = read_none; single = read_unique }
