-- The runs of tokens of a test: what Reader's functions find is what the productions of Grammar say, and the other way round.
-- The first half goes by induction principles: whatever holds of "nothing found" and of each form holds of what is found.
use mathlib.Core.Path.{◌≡◌, refl, ap, subst, ◌∙◌}
use mathlib.Core.Bool.{Bool, true, false}
use mathlib.Core.List.{[], ◌∷◌}
use mathlib.Core.Option.{Option, none, some}
use Prim.Native.Nat.{ℕ}
use lib.IntN.{ℤ}
use Rattle.tables.specs.Lists.{only, ◌>>=◌, ◌<|>◌}
use Rattle.tables.specs.declared.Comparison.{Comparison}
use Rattle.tables.specs.declared.Comparison.TheVariants.{Eq, Ne}
use Rattle.tables.specs.declared.Quantifier.{Quantifier}
use Rattle.tables.specs.declared.Quantifier.TheVariants.{Some, All}
use Rattle.tables.specs.declared.MarkTest.TheVariants.{Null, NotNull, IsDeclined, NotDeclined}
use Rattle.rule.specs.Tokens.{same_word, AND, OR, NOT, EXISTS, IN, SOME, ALL, IS, NULL, SELECT, FROM, WHERE, Open, Close, Point, DECLINED}
use Rattle.rule.specs.declared.Word.{Word}
use Rattle.rule.proofs.Words.{same_word_is}
use Rattle.rule.specs.declared.Token.{Token}
use Rattle.rule.specs.declared.Word.TheVariants.{Not as NotWord, Exists as ExistsWord, In as InWord, Some as SomeWord, All as AllWord, Is as IsWord, Null as NullWord, Select as SelectWord, From as FromWord, Where as WhereWord, Open as OpenWord, Point as PointWord, True as TrueWord, False as FalseWord, Unknown as UnknownWord, Declined as DeclinedWord}
use Rattle.rule.specs.declared.Token.TheVariants.{Fixed, Compares, Letter, Number}
use Rattle.rule.specs.declared.Truth.{Truth}
use Rattle.rule.specs.Condition.{Atom, Apply, Listed, WrittenCondition}
use Rattle.rule.specs.declared.Test.TheVariants.{Compare, Mark}
use Rattle.rule.specs.declared.Unary.{Unary}
use Rattle.rule.specs.declared.Unary.TheVariants.{Is, IsNot}
use Rattle.rule.specs.declared.FromClause.{FromClause}
use Rattle.rule.specs.declared.FromClause.TheVariants.{Single}
use Rattle.rule.specs.declared.WrittenValue.{WrittenValue}
use Rattle.rule.specs.declared.WrittenValue.TheVariants.{Plain, Named}
use Rattle.rule.specs.declared.Source.{Source}
use Rattle.rule.specs.declared.Source.TheVariants.{Over}
use Rattle.rule.specs.Grammar.{Tokens, IsValue, number, column, IsFrom, single, IsTruth, is_true, is_false, is_unknown, IsTruthTest, is_truth, is_not_truth, IsCondition, IsTest, bracketed, truth_tested_lem, exists, is_null, is_not_null, is_declined, is_not_declined, compared, some_of, all_of, is_in, not_in, IsList, list}
use Rattle.rule.specs.Reader.{expect, read_number, read_letter, read_comparison, read_value, read_from, Opening, OfList, closed, Start, Whole, Around, start_list, start_value, start, Found, branch, read_truth, read_truth_test, truth_tested, ended}

module _ {A : Type 0} where
  pub bind_ind : {B : Type 0} (P : Option B → Type 0) (o : Option A) (f : A → Option B) → P none → ((x : A) → o ≡ some x → P (f x)) → P (o >>= f)
  bind_ind P none f z h = z
  bind_ind P (some x) f z h = h x refl

  pub or_ind : (P : Option A → Type 0) (o o' : Option A) → P o → P o' → P (o <|> o')
  or_ind P none o' p q = q
  or_ind P (some x) o' p q = p

-- ---- what is found has the form

module _ {B : Type 0} (Q : Tokens → Option B → Type 0) (missing : (ts : Tokens) → Q ts none) where
  pub expect_at : (w : Word) (f : Tokens → Option B) → ((us : Tokens) → Q (Fixed w ∷ us) (f us)) → (ts : Tokens) → Q ts (expect (Fixed w) ts >>= f)
  unfolding expect
  expect_at n f h [] = missing []
  expect_at n f h (Fixed k ∷ us) = go (same_word n k) refl
    where
      go : (b : Bool) → same_word n k ≡ b → Q (Fixed k ∷ us) (only b us >>= f)
      go true e = subst (λ (j : Word). Q (Fixed j ∷ us) (f us)) (same_word_is n k e) (h us)
      go false e = missing (Fixed k ∷ us)
  expect_at n f h (Compares op ∷ us) = missing (Compares op ∷ us)
  expect_at n f h (Letter x ∷ us) = missing (Letter x ∷ us)
  expect_at n f h (Number m ∷ us) = missing (Number m ∷ us)

  number_at : (f : ℤ × Tokens → Option B) → ((n : ℤ) (us : Tokens) → Q (Number n ∷ us) (f (n, us))) → (ts : Tokens) → Q ts (read_number ts >>= f)
  unfolding read_number
  number_at f h [] = missing []
  number_at f h (Fixed k ∷ us) = missing (Fixed k ∷ us)
  number_at f h (Compares op ∷ us) = missing (Compares op ∷ us)
  number_at f h (Letter x ∷ us) = missing (Letter x ∷ us)
  number_at f h (Number n ∷ us) = h n us

  letter_at : (f : ℕ × Tokens → Option B) → ((x : ℕ) (us : Tokens) → Q (Letter x ∷ us) (f (x, us))) → (ts : Tokens) → Q ts (read_letter ts >>= f)
  unfolding read_letter
  letter_at f h [] = missing []
  letter_at f h (Fixed k ∷ us) = missing (Fixed k ∷ us)
  letter_at f h (Compares op ∷ us) = missing (Compares op ∷ us)
  letter_at f h (Letter x ∷ us) = h x us
  letter_at f h (Number n ∷ us) = missing (Number n ∷ us)

  comparison_at : (f : Comparison × Tokens → Option B) → ((op : Comparison) (us : Tokens) → Q (Compares op ∷ us) (f (op, us))) → (ts : Tokens) → Q ts (read_comparison ts >>= f)
  unfolding read_comparison
  comparison_at f h [] = missing []
  comparison_at f h (Fixed k ∷ us) = missing (Fixed k ∷ us)
  comparison_at f h (Compares op ∷ us) = h op us
  comparison_at f h (Letter x ∷ us) = missing (Letter x ∷ us)
  comparison_at f h (Number n ∷ us) = missing (Number n ∷ us)

-- a chain of steps whose last one is f
bind_bind : {A B C : Type 0} (o : Option A) (g : A → Option B) (f : B → Option C) → ((o >>= g) >>= f) ≡ (o >>= (λ x. g x >>= f))
bind_bind none g f = refl
bind_bind (some x) g f = refl

module _ {B : Type 0} (Q : Tokens → Option B → Type 0) (missing : (ts : Tokens) → Q ts none) where
  value_at : (f : WrittenValue × Tokens → Option B) → ((v : WrittenValue) (ts us : Tokens) → IsValue ts v us → Q ts (f (v, us))) → (ts : Tokens) → Q ts (read_value ts >>= f)
  unfolding read_value
  value_at f h [] = missing []
  value_at f h (Fixed k ∷ us) = missing (Fixed k ∷ us)
  value_at f h (Compares op ∷ us) = missing (Compares op ∷ us)
  value_at f h (Letter x ∷ us) =
      simp bind_bind
      (expect_at (λ vs o. Q (Letter x ∷ vs) o) (λ vs. missing (Letter x ∷ vs)) PointWord _
      (λ vs. number_at (λ ws o. Q (Letter x ∷ Point ∷ ws) o) (λ ws. missing (Letter x ∷ Point ∷ ws)) _
      (λ n ws. h (Named x n) (Letter x ∷ Point ∷ Number n ∷ ws) ws column) vs) us)
  value_at f h (Number n ∷ us) = h (Plain n) (Number n ∷ us) us number

  from_at : (f : FromClause Source × Tokens → Option B) → ((g : FromClause Source) (ts us : Tokens) → IsFrom ts g (WHERE ∷ us) → Q (FROM ∷ ts) (f (g, us))) → (ts : Tokens) → Q ts (read_from ts >>= f)
  unfolding read_from
  from_at f h ts =
      simp bind_bind
      (expect_at Q missing FromWord _ (λ us.
      number_at (λ vs o. Q (FROM ∷ vs) o) (λ vs. missing (FROM ∷ vs)) _ (λ n vs.
      letter_at (λ ws o. Q (FROM ∷ Number n ∷ ws) o) (λ ws. missing (FROM ∷ Number n ∷ ws)) _ (λ x ws.
      expect_at (λ xs o. Q (FROM ∷ Number n ∷ Letter x ∷ xs) o) (λ xs. missing (FROM ∷ Number n ∷ Letter x ∷ xs)) WhereWord _ (λ xs. h (Single (Over n x)) (Number n ∷ Letter x ∷ WHERE ∷ xs) xs single) ws) vs) us) ts)

-- a branch on the next token
module _ (Q : Tokens → Found → Type 0) (n : Word) (there : Tokens → Found) (missing : Tokens → Found)
    (h : (us : Tokens) → Q (Fixed n ∷ us) (there us)) (z : (ts : Tokens) → Q ts (missing ts)) where
  pub branch_at : (ts : Tokens) → Q ts (branch (expect (Fixed n) ts) there (λ _. missing ts))
  unfolding expect
  branch_at [] = z []
  branch_at (Fixed k ∷ us) = go (same_word n k) refl
    where
      go : (b : Bool) → same_word n k ≡ b → Q (Fixed k ∷ us) (branch (only b us) there (λ _. missing (Fixed k ∷ us)))
      go true e = subst (λ (j : Word). Q (Fixed j ∷ us) (there us)) (same_word_is n k e) (h us)
      go false e = z (Fixed k ∷ us)
  branch_at (Compares op ∷ us) = z (Compares op ∷ us)
  branch_at (Letter x ∷ us) = z (Letter x ∷ us)
  branch_at (Number m ∷ us) = z (Number m ∷ us)

-- what read_truth finds is one of the three words
data TruthFound : Tokens → Option (Truth × Tokens) → Type 0 where
  no_truth : {ts : Tokens} → TruthFound ts none
  a_truth : {w : Token} {t : Truth} {rest : Tokens} → IsTruth w t → TruthFound (w ∷ rest) (some (t, rest))

truth_right : (ts : Tokens) → TruthFound ts (read_truth ts)
unfolding read_truth
truth_right ts =
    or_ind (TruthFound ts) _ _ (or_ind (TruthFound ts) _ _
    (expect_at TruthFound (λ _. no_truth) TrueWord _ (λ us. a_truth is_true) ts)
    (expect_at TruthFound (λ _. no_truth) FalseWord _ (λ us. a_truth is_false) ts))
    (expect_at TruthFound (λ _. no_truth) UnknownWord _ (λ us. a_truth is_unknown) ts)

-- and what read_truth_test finds is a truth test, with the IS before it
data UnaryFound : Tokens → Option (Unary × Tokens) → Type 0 where
  no_unary : {ts : Tokens} → UnaryFound ts none
  a_unary : {u : Unary} {ts rest : Tokens} → IsTruthTest (IS ∷ ts) u rest → UnaryFound ts (some (u, rest))

unary_right : (ts : Tokens) → UnaryFound ts (read_truth_test ts)
unfolding read_truth_test
unary_right ts =
    or_ind (UnaryFound ts) _ _ (positive (read_truth ts) (truth_right ts))
    (expect_at UnaryFound (λ _. no_unary) NotWord _ (λ us. negative (read_truth us) (truth_right us)) ts)
  where
    positive : {us : Tokens} (o : Option (Truth × Tokens)) → TruthFound us o → UnaryFound us (o >>= (λ t. some (Is t.0, t.1)))
    positive none p = no_unary
    positive (some x) (a_truth w) = a_unary (is_truth w)

    negative : {us : Tokens} (o : Option (Truth × Tokens)) → TruthFound us o → UnaryFound (NOT ∷ us) (o >>= (λ t. some (IsNot t.0, t.1)))
    negative none p = no_unary
    negative (some x) (a_truth w) = a_unary (is_not_truth w)

-- what a test comes to
pub data TestFound (ts : Tokens) : Found → Type 0 where
  no_test : TestFound ts none
  a_test : {a : WrittenCondition} {rest : Tokens} → IsTest ts a rest → TestFound ts (some (a, rest))

-- what a start promises: the whole test is read, or it is once its condition, the bracket behind it and what may follow that are
pub data Promised (ts : Tokens) : Option Start → Type 0 where
  nothing : Promised ts none
  whole : {a : WrittenCondition} {rest : Tokens} → IsTest ts a rest → Promised ts (some (Whole a rest))
  around : {o : Opening} {us : Tokens} → ((w : WrittenCondition) (rest : Tokens) → IsCondition us w (Close ∷ rest) → TestFound ts (ended o (closed o w) rest)) → Promised ts (some (Around o us))

-- brackets, with the truth test that may follow them
bracket_promised : (us : Tokens) (w : WrittenCondition) (rest : Tokens) → IsCondition us w (Close ∷ rest) → TestFound (Open ∷ us) (truth_tested w rest)
unfolding truth_tested
bracket_promised us w =
    branch_at (λ ts o. IsCondition us w (Close ∷ ts) → TestFound (Open ∷ us) o) IsWord _ (λ ts. some (w, ts))
    (λ vs c. followed (read_truth_test vs) (unary_right vs) c) (λ ts c. a_test (bracketed c))
  where
    followed : {vs : Tokens} (o : Option (Unary × Tokens)) → UnaryFound vs o → IsCondition us w (Close ∷ IS ∷ vs) → TestFound (Open ∷ us) (o >>= (λ u. some (Apply u.0 w, u.1)))
    followed none p c = no_test
    followed (some x) (a_unary t) c = a_test (truth_tested_lem c t)

-- a list that is read to its WHERE; `h` makes the test of it
list_promised : (q : Quantifier) (op : Comparison) (l : WrittenValue) (ts us : Tokens)
    → ((s : WrittenValue) (f : FromClause Source) (w : WrittenCondition) (rest : Tokens) → IsList us s f w rest → IsTest ts (Listed q op l s f w) rest) → Promised ts (start_list q op l us)
unfolding start_list
list_promised q op l ts =
    let Q : Tokens → Option Start → Type 0 = λ us o. ((s : WrittenValue) (f : FromClause Source) (w : WrittenCondition) (rest : Tokens) → IsList us s f w rest → IsTest ts (Listed q op l s f w) rest) → Promised ts o in
    expect_at Q (λ _ _. nothing) OpenWord _ (λ us.
    expect_at (λ vs o. Q (Open ∷ vs) o) (λ _ _. nothing) SelectWord _ (λ vs.
    value_at (λ ws o. Q (Open ∷ SELECT ∷ ws) o) (λ _ _. nothing) _ (λ v ws xs is.
    from_at (λ ys o. IsValue ws v ys → Q (Open ∷ SELECT ∷ ws) o) (λ _ _ _. nothing) _ (λ g ys zs is' is'' h. around (λ w rest c. a_test (h v g w rest (list is'' is' c)))) xs is) vs) us)

-- what stands behind a value: the productions in the order of start_value
module _ (l : WrittenValue) where
  abbrev Behind : Tokens → Option Start → Type 0
  Behind us o = (ts : Tokens) → IsValue ts l us → Promised ts o

  value_promised : (us : Tokens) → Behind us (start_value l us)
  unfolding start_value
  value_promised us =
      or_ind (Behind us) _ _ (or_ind (Behind us) _ _ (or_ind (Behind us) _ _ (or_ind (Behind us) _ _ (or_ind (Behind us) _ _ (or_ind (Behind us) _ _ (or_ind (Behind us) _ _ (or_ind (Behind us) _ _
      (expect_at Behind (λ _ _ _. nothing) IsWord _ (λ vs. expect_at (λ ws o. Behind (IS ∷ ws) o) (λ _ _ _. nothing) NullWord _ (λ rest ts v. whole (is_null v)) vs) us)
      (expect_at Behind (λ _ _ _. nothing) IsWord _ (λ vs. expect_at (λ ws o. Behind (IS ∷ ws) o) (λ _ _ _. nothing) NotWord _ (λ ws. expect_at (λ xs o. Behind (IS ∷ NOT ∷ xs) o) (λ _ _ _. nothing) NullWord _ (λ rest ts v. whole (is_not_null v)) ws) vs) us))
      (expect_at Behind (λ _ _ _. nothing) IsWord _ (λ vs. expect_at (λ ws o. Behind (IS ∷ ws) o) (λ _ _ _. nothing) DeclinedWord _ (λ rest ts v. whole (is_declined v)) vs) us))
      (expect_at Behind (λ _ _ _. nothing) IsWord _ (λ vs. expect_at (λ ws o. Behind (IS ∷ ws) o) (λ _ _ _. nothing) NotWord _ (λ ws. expect_at (λ xs o. Behind (IS ∷ NOT ∷ xs) o) (λ _ _ _. nothing) DeclinedWord _ (λ rest ts v. whole (is_not_declined v)) ws) vs) us))
      (comparison_at Behind (λ _ _ _. nothing) _ (λ op vs. value_at (λ ws o. Behind (Compares op ∷ ws) o) (λ _ _ _. nothing) _ (λ r ws rest is ts v. whole (compared v is)) vs) us))
      (comparison_at Behind (λ _ _ _. nothing) _ (λ op vs. expect_at (λ ws o. Behind (Compares op ∷ ws) o) (λ _ _ _. nothing) SomeWord _ (λ ws ts v. list_promised Some op l ts ws (λ s f w rest is. some_of v is)) vs) us))
      (comparison_at Behind (λ _ _ _. nothing) _ (λ op vs. expect_at (λ ws o. Behind (Compares op ∷ ws) o) (λ _ _ _. nothing) AllWord _ (λ ws ts v. list_promised All op l ts ws (λ s f w rest is. all_of v is)) vs) us))
      (expect_at Behind (λ _ _ _. nothing) InWord _ (λ vs ts v. list_promised Some Eq l ts vs (λ s f w rest is. is_in v is)) us))
      (expect_at Behind (λ _ _ _. nothing) NotWord _ (λ vs. expect_at (λ ws o. Behind (NOT ∷ ws) o) (λ _ _ _. nothing) InWord _ (λ ws ts v. list_promised All Ne l ts ws (λ s f w rest is. not_in v is)) vs) us)

pub start_promised : (ts : Tokens) → Promised ts (start ts)
unfolding start
start_promised ts =
    or_ind (Promised ts) _ _ (or_ind (Promised ts) _ _
    (expect_at Promised (λ _. nothing) OpenWord _ (λ us. around (bracket_promised us)) ts)
    (expect_at Promised (λ _. nothing) ExistsWord _ (λ us. expect_at (λ vs o. Promised (EXISTS ∷ vs) o) (λ _. nothing) OpenWord _ (λ vs. from_at (λ ws o. Promised (EXISTS ∷ Open ∷ ws) o) (λ _. nothing) _ (λ g ws xs is. around (λ w rest c. a_test (exists is c))) vs) us) ts))
    (value_at Promised (λ _. nothing) _ (λ l us vs is. value_promised l vs us is) ts)

-- ---- what may stand behind a form: a form is found where the token behind it does not go on with it

-- behind a condition: nothing, the bracket that closes around it, or the OR that joins it to a conjunction
pub data AfterCondition : Tokens → Type 0 where
  end_after : AfterCondition []
  close_after : {us : Tokens} → AfterCondition (Close ∷ us)
  or_after : {us : Tokens} → AfterCondition (OR ∷ us)

-- behind a conjunction, a factor or a test: what may stand behind the condition that it ends, or the AND that joins it to a factor
pub data AfterTest : Tokens → Type 0 where
  condition_ends : {rest : Tokens} → AfterCondition rest → AfterTest rest
  and_after : {us : Tokens} → AfterTest (AND ∷ us)

-- behind a value: the token with which its test or its list goes on, or what may stand behind the test that it ends
data AfterValue : Tokens → Type 0 where
  is_after : {us : Tokens} → AfterValue (IS ∷ us)
  not_after : {us : Tokens} → AfterValue (NOT ∷ us)
  in_after : {us : Tokens} → AfterValue (IN ∷ us)
  comparison_after : {op : Comparison} {us : Tokens} → AfterValue (Compares op ∷ us)
  from_after : {us : Tokens} → AfterValue (FROM ∷ us)
  test_ends : {rest : Tokens} → AfterTest rest → AfterValue rest

-- behind a condition stands no AND
pub no_and : {rest : Tokens} → AfterCondition rest → expect AND rest ≡ none
unfolding expect
no_and end_after = refl
no_and close_after = refl
no_and or_after = refl

-- behind a test, its closing bracket or its last value, stands no IS
pub no_is : {rest : Tokens} → AfterTest rest → expect IS rest ≡ none
unfolding expect
no_is (condition_ends end_after) = refl
no_is (condition_ends close_after) = refl
no_is (condition_ends or_after) = refl
no_is and_after = refl

-- so a bracketed condition is no truth test there
pub untested : {rest : Tokens} (a : WrittenCondition) → AfterTest rest → truth_tested a rest ≡ some (a, rest)
unfolding truth_tested
untested {rest} a k = ap (λ (o : Option Tokens). branch o (λ us. read_truth_test us >>= (λ u. some (Apply u.0 a, u.1))) (λ _. some (a, rest))) (no_is k)

-- and a truth test is found
pub tested_found : {ts rest : Tokens} {u : Unary} (a : WrittenCondition) → IsTruthTest ts u rest → truth_tested a ts ≡ some (Apply u a, rest)
unfolding truth_tested read_truth_test read_truth expect
tested_found a (is_truth is_true) = refl
tested_found a (is_truth is_false) = refl
tested_found a (is_truth is_unknown) = refl
tested_found a (is_not_truth is_true) = refl
tested_found a (is_not_truth is_false) = refl
tested_found a (is_not_truth is_unknown) = refl

-- behind a value stands no point, the sign within a value
no_point : {rest : Tokens} → AfterValue rest → expect Point rest ≡ none
unfolding expect
no_point is_after = refl
no_point not_after = refl
no_point in_after = refl
no_point comparison_after = refl
no_point from_after = refl
no_point (test_ends (condition_ends end_after)) = refl
no_point (test_ends (condition_ends close_after)) = refl
no_point (test_ends (condition_ends or_after)) = refl
no_point (test_ends and_after) = refl

-- ---- every form is found

-- a value, where what stands behind it does not go on with it
value_found : {ts us : Tokens} {v : WrittenValue} → IsValue ts v us → AfterValue us → read_value ts ≡ some (v, us)
unfolding read_value expect read_number
value_found number k = refl
value_found column k = refl

-- a test that begins with a value has one of the forms of start_value
value_first : {ts us : Tokens} {l : WrittenValue} → IsValue ts l us → start ts ≡ (read_value ts >>= (λ v. start_value v.0 v.1))
unfolding start expect
value_first number = refl
value_first column = refl

start_value_lem : {ts us : Tokens} {l : WrittenValue} → IsValue ts l us → AfterValue us → start ts ≡ start_value l us
start_value_lem v k = value_first v ∙ ap (◌>>= (λ x. start_value x.0 x.1)) (value_found v k)

pub null_found : {ts rest : Tokens} {l : WrittenValue} → IsValue ts l (IS ∷ NULL ∷ rest) → start ts ≡ some (Whole (Atom (Mark Null l)) rest)
unfolding start_value expect
null_found v = start_value_lem v is_after

pub not_null_found : {ts rest : Tokens} {l : WrittenValue} → IsValue ts l (IS ∷ NOT ∷ NULL ∷ rest) → start ts ≡ some (Whole (Atom (Mark NotNull l)) rest)
unfolding start_value expect
not_null_found v = start_value_lem v is_after

pub declined_found : {ts rest : Tokens} {l : WrittenValue} → IsValue ts l (IS ∷ DECLINED ∷ rest) → start ts ≡ some (Whole (Atom (Mark IsDeclined l)) rest)
unfolding start_value expect
declined_found v = start_value_lem v is_after

pub not_declined_found : {ts rest : Tokens} {l : WrittenValue} → IsValue ts l (IS ∷ NOT ∷ DECLINED ∷ rest) → start ts ≡ some (Whole (Atom (Mark NotDeclined l)) rest)
unfolding start_value expect
not_declined_found v = start_value_lem v is_after

or_left : {A : Type 0} (o o' : Option A) {x : A} → o ≡ some x → (o <|> o') ≡ some x
or_left o o' e = ap (◌<|> o') e

pub compared_found : {ts us rest : Tokens} {op : Comparison} {l r : WrittenValue} → IsValue ts l (Compares op ∷ us) → IsValue us r rest → AfterTest rest → start ts ≡ some (Whole (Atom (Compare op l r)) rest)
unfolding start_value expect read_comparison
compared_found {op = op} {l = l} v w k =
    start_value_lem v comparison_after
    ∙ or_left _ _ (or_left _ _ (or_left _ _ (or_left _ _ (ap (◌>>= (λ x. some (Whole (Atom (Compare op l x.0)) x.1))) (value_found w (test_ends k))))))

-- what stands between FROM and WHERE
pub from_found : {us vs : Tokens} {f : FromClause Source} → IsFrom us f (WHERE ∷ vs) → read_from (FROM ∷ us) ≡ some (f, vs)
unfolding read_from expect read_number read_letter
from_found single = refl

pub list_found : (q : Quantifier) (op : Comparison) (l : WrittenValue) {ts us vs : Tokens} {s : WrittenValue} {f : FromClause Source}
    → IsValue ts s (FROM ∷ us) → IsFrom us f (WHERE ∷ vs) → start_list q op l (Open ∷ SELECT ∷ ts) ≡ some (Around (OfList q op l s f) vs)
unfolding start_list expect
list_found q op l {s = s} v is =
    ap (◌>>= (λ x. read_from x.1 >>= (λ f. some (Around (OfList q op l x.0 f.0) f.1)))) (value_found v from_after)
    ∙ ap (◌>>= (λ f. some (Around (OfList q op l s f.0) f.1))) (from_found is)

-- a list after SOME, ALL, IN and NOT IN
module _ {ts us : Tokens} {l : WrittenValue} {x : Start} where
  pub some_found : (op : Comparison) → start_list Some op l us ≡ some x → IsValue ts l (Compares op ∷ SOME ∷ us) → start ts ≡ some x
  unfolding start_value expect read_comparison read_value
  some_found op e v = start_value_lem v comparison_after ∙ or_left _ _ (or_left _ _ (or_left _ _ e))

  pub all_found : (op : Comparison) → start_list All op l us ≡ some x → IsValue ts l (Compares op ∷ ALL ∷ us) → start ts ≡ some x
  unfolding start_value expect read_comparison read_value
  all_found op e v = start_value_lem v comparison_after ∙ or_left _ _ (or_left _ _ e)

  pub in_found : start_list Some Eq l us ≡ some x → IsValue ts l (IN ∷ us) → start ts ≡ some x
  unfolding start_value expect read_comparison read_value
  in_found e v = start_value_lem v in_after ∙ or_left _ _ e

  pub not_in_found : start_list All Ne l us ≡ some x → IsValue ts l (NOT ∷ IN ∷ us) → start ts ≡ some x
  unfolding start_value expect read_comparison read_value
  not_in_found e v = start_value_lem v not_after ∙ e
