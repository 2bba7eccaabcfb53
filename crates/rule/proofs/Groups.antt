-- The numbers of the kinds: no two kinds have the same; between which numbers those of a group stand, and that every number between them is one of them;
-- what is in a group is one of its members.
use mathlib.Core.Path.{◌≡◌, refl, sym, ap, ◌∙◌}
use mathlib.Core.Logic.{◌⊎◌, inl, inr, ⊎_elim}
use Prim.Native.Nat.{ℕ, ◌≤◌}
use native.Mathlib.Nat.{eq-or-lt_of_le}
use native.Mathlib.Omega.{arith}
use Rattle.tables.specs.Lists.{numbered}
use Rattle.tables.specs.declared.Connective.{Connective}
use Rattle.tables.specs.declared.Connective.TheVariants.{And, Or}
use Rattle.tables.specs.declared.Quantifier.TheVariants.{Some, All}
use Rattle.tables.specs.declared.MarkTest.{MarkTest}
use Rattle.tables.specs.declared.MarkTest.TheVariants.{Null, NotNull, IsDeclined, NotDeclined}
use Rattle.rule.specs.declared.Truth.TheVariants.{False, Unknown, True}
use Rattle.rule.specs.declared.Unary.{Unary}
use Rattle.rule.specs.declared.Unary.TheVariants.{Not, Is, IsNot}
use Rattle.rule.specs.Parts.{Kind, JoinKind, UnaryKind, CompareKind, MarkKind, ExistsKind, ListKind, join_kind, unary_kind, compare_kind, mark_kind, exists_kind, list_kind, kind_number, kinds}
use Rattle.rule.specs.Groups.{last_kind, JoinNumber, UnaryNumber, UnknownNumber, MarkNumber, TestNumber, ListNumber, FromNumber}
use Rattle.rule.proofs.Parts.{kind_back}

pub same_kind : (k l : Kind) → kind_number k ≡ kind_number l → k ≡ l
same_kind k l e = sym (kind_back k) ∙ ap (λ (n : ℕ). numbered kinds n (UnaryKind Not)) e ∙ kind_back l

-- so within a group
pub same_join : (x y : Connective) → join_kind x ≡ join_kind y → x ≡ y
same_join x y e = let z = same_kind (JoinKind x) (JoinKind y) e in cc

pub same_unary : (x y : Unary) → unary_kind x ≡ unary_kind y → x ≡ y
same_unary x y e = let z = same_kind (UnaryKind x) (UnaryKind y) e in cc

pub same_mark : (x y : MarkTest) → mark_kind x ≡ mark_kind y → x ≡ y
same_mark x y e = let z = same_kind (MarkKind x) (MarkKind y) e in cc

-- AND and OR
pub join_bounds : (n : ℕ) → JoinNumber n → (join_kind And ≤ n) × (n ≤ join_kind Or)
join_bounds n (And, e) = (omega arith, omega arith)
join_bounds n (Or, e) = (omega arith, omega arith)

pub join_number : (n : ℕ) → join_kind And ≤ n → n ≤ join_kind Or → JoinNumber n
join_number n low high = ⊎_elim (λ e. (And, sym e)) (λ l. (Or, omega arith)) (eq-or-lt_of_le low)

pub some_join : {n : ℕ} → JoinNumber n → (n ≡ join_kind And → ⊥) → (n ≡ join_kind Or → ⊥) → ⊥
some_join (And, e) f g = f e
some_join (Or, e) f g = g e

-- NOT and the truth tests
abbrev TruthBounds : ℕ → Type 0
TruthBounds n = (unary_kind (Is True) ≤ n) × (n ≤ unary_kind (IsNot Unknown))

unary_is : {n : ℕ} → UnaryNumber n → (n ≡ unary_kind Not) ⊎ TruthBounds n
unary_is (Not, e) = inl e
unary_is (Is True, e) = inr (omega arith, omega arith)
unary_is (Is False, e) = inr (omega arith, omega arith)
unary_is (Is Unknown, e) = inr (omega arith, omega arith)
unary_is (IsNot True, e) = inr (omega arith, omega arith)
unary_is (IsNot False, e) = inr (omega arith, omega arith)
unary_is (IsNot Unknown, e) = inr (omega arith, omega arith)

unary_bounds : (n : ℕ) → UnaryNumber n → (join_kind And ≤ n) × (n ≤ last_kind)
unary_bounds n u = ⊎_elim (λ e. (omega arith, omega arith)) (λ b. (omega arith, omega arith)) (unary_is u)

pub truth_number_lem : (n : ℕ) → unary_kind (Is True) ≤ n → n ≤ unary_kind (IsNot Unknown) → UnaryNumber n
truth_number_lem n low high =
    ⊎_elim (λ e. (Is True, sym e)) (λ l.
    ⊎_elim (λ e. (IsNot True, sym e)) (λ l.
    ⊎_elim (λ e. (Is False, sym e)) (λ l.
    ⊎_elim (λ e. (IsNot False, sym e)) (λ l.
    ⊎_elim (λ e. (Is Unknown, sym e)) (λ l. (IsNot Unknown, omega arith))
    (eq-or-lt_of_le l)) (eq-or-lt_of_le l)) (eq-or-lt_of_le l)) (eq-or-lt_of_le l)) (eq-or-lt_of_le low)

pub some_unary : {n : ℕ} → UnaryNumber n → (n ≡ unary_kind Not → ⊥) → (TruthBounds n → ⊥) → ⊥
some_unary u f g = ⊎_elim f g (unary_is u)

pub unknown_number : (n : ℕ) → unary_kind (Is Unknown) ≤ n → n ≤ unary_kind (IsNot Unknown) → UnknownNumber n
unknown_number n low high = ⊎_elim (λ e. inl (sym e)) (λ l. inr (omega arith)) (eq-or-lt_of_le low)

-- tests by the mark: those for blank cells, and those for declined ones
abbrev NullBounds : ℕ → Type 0
NullBounds n = (mark_kind Null ≤ n) × (n ≤ mark_kind NotNull)

abbrev pub DeclinedBounds : ℕ → Type 0
DeclinedBounds n = (mark_kind IsDeclined ≤ n) × (n ≤ mark_kind NotDeclined)

mark_is : {n : ℕ} → MarkNumber n → NullBounds n ⊎ DeclinedBounds n
mark_is (Null, e) = inl (omega arith, omega arith)
mark_is (NotNull, e) = inl (omega arith, omega arith)
mark_is (IsDeclined, e) = inr (omega arith, omega arith)
mark_is (NotDeclined, e) = inr (omega arith, omega arith)

mark_bounds : (n : ℕ) → MarkNumber n → (join_kind And ≤ n) × (n ≤ last_kind)
mark_bounds n m = ⊎_elim (λ b. (omega arith, omega arith)) (λ b. (omega arith, omega arith)) (mark_is m)

pub mark_number : (n : ℕ) → mark_kind Null ≤ n → n ≤ mark_kind NotNull → MarkNumber n
mark_number n low high = ⊎_elim (λ e. (Null, sym e)) (λ l. (NotNull, omega arith)) (eq-or-lt_of_le low)

pub declined_number : (n : ℕ) → mark_kind IsDeclined ≤ n → n ≤ mark_kind NotDeclined → MarkNumber n
declined_number n low high = ⊎_elim (λ e. (IsDeclined, sym e)) (λ l. (NotDeclined, omega arith)) (eq-or-lt_of_le low)

pub some_mark : {n : ℕ} → MarkNumber n → (n ≡ mark_kind Null → ⊥) → (n ≡ mark_kind NotNull → ⊥) → (n ≡ mark_kind IsDeclined → ⊥) → (n ≡ mark_kind NotDeclined → ⊥) → ⊥
some_mark (Null, e) f g h k = f e
some_mark (NotNull, e) f g h k = g e
some_mark (IsDeclined, e) f g h k = h e
some_mark (NotDeclined, e) f g h k = k e

-- tests: the comparison and the tests for blank cells follow one another, and those for declined cells stand apart
abbrev pub TestBounds : ℕ → Type 0
TestBounds n = (compare_kind ≤ n) × (n ≤ mark_kind NotNull)

pub test_is : {n : ℕ} → TestNumber n → TestBounds n ⊎ DeclinedBounds n
test_is (inl e) = inl (omega arith, omega arith)
test_is (inr m) = ⊎_elim (λ b. inl (omega arith, omega arith)) (λ b. inr b) (mark_is m)

pub some_test : {n : ℕ} → TestNumber n → (TestBounds n → ⊥) → (DeclinedBounds n → ⊥) → ⊥
some_test t f g = ⊎_elim f g (test_is t)

pub test_number : (n : ℕ) → compare_kind ≤ n → n ≤ mark_kind NotNull → TestNumber n
test_number n low high = ⊎_elim (λ e. inl (sym e)) (λ l. inr (mark_number n l high)) (eq-or-lt_of_le low)

-- lists, and EXISTS with them
pub list_bounds : (n : ℕ) → ListNumber n → (list_kind Some ≤ n) × (n ≤ list_kind All)
list_bounds n (Some, e) = (omega arith, omega arith)
list_bounds n (All, e) = (omega arith, omega arith)

pub list_number : (n : ℕ) → list_kind Some ≤ n → n ≤ list_kind All → ListNumber n
list_number n low high = ⊎_elim (λ e. (Some, sym e)) (λ l. (All, omega arith)) (eq-or-lt_of_le low)

pub from_bounds : (n : ℕ) → FromNumber n → (exists_kind ≤ n) × (n ≤ list_kind All)
from_bounds n (inl e) = (omega arith, omega arith)
from_bounds n (inr q) = (omega (arith, list_bounds n q), omega (arith, list_bounds n q))

pub from_number : (n : ℕ) → exists_kind ≤ n → n ≤ list_kind All → FromNumber n
from_number n low high = ⊎_elim (λ e. inl (sym e)) (λ l. inr (list_number n l high)) (eq-or-lt_of_le low)

-- all kinds
pub kind_bounds : (k : Kind) → (join_kind And ≤ kind_number k) × (kind_number k ≤ last_kind)
kind_bounds (JoinKind j) = let b = join_bounds _ (j, refl) in (omega arith, omega arith)
kind_bounds (UnaryKind u) = unary_bounds _ (u, refl)
kind_bounds CompareKind = (omega arith, omega arith)
kind_bounds (MarkKind m) = let b = mark_bounds _ (m, refl) in (omega arith, omega arith)
kind_bounds ExistsKind = (omega arith, omega arith)
kind_bounds (ListKind q) = let b = list_bounds _ (q, refl) in (omega arith, omega arith)
