-- Declined cells taken for blank ones, in tables and in the rows at which the levels stand: what a value names, and what a comparison and IS NULL make of it.
use mathlib.Core.Path.{◌≡◌, refl, sym, ap, ◌∙◌}
use mathlib.Core.Bool.{Bool, true, false, ◌||◌, or_assoc, false≢true}
use mathlib.Core.List.{List, [], ◌∷◌, ◌++◌, map, Memᴰ}
use mathlib.Core.Logic.{◌↔◌, ◌⊎◌, inl, inr, ⊎_elim}
use Prim.Native.Nat.{ℕ, zero, suc}
use borrow.Author.Tests.{eq-eqb}
use lib.Dec.{eqb, eqb→eq}
use lib.IntN.{ℤ}
use lib.ListN.{get_or, get_or-map}
use Rattle.tables.specs.Lists.{any}
use Rattle.tables.specs.Tables.{Cell, Blank, Declined, Present, Row, Tables, rows_of, cell_in}
use Rattle.tables.specs.Values.{Env, ◌▸◌, cell_of, by_numbers, is_blank}
use Rattle.tables.specs.declared.Value.{Value}
use Rattle.tables.specs.declared.Value.TheVariants.{Constant, Column}
use Rattle.tables.specs.Claims.{as_blank, tables_as_blank}
use Rattle.tables.proofs.Tests.{is_so}

-- ---- lists

module _ {A : Type 0} (p : A → Bool) where
  -- where no element of a list passes, none of a part of it does
  pub none_behind : (x : A) (xs : List A) → any p (x ∷ xs) ≡ false → any p xs ≡ false
  none_behind x xs e = go (p x) e
    where
      go : (b : Bool) → (b || any p xs) ≡ false → any p xs ≡ false
      go true f = absurd (false≢true (sym f))
      go false f = f

  pub none_both : (xs ys : List A) → any p (xs ++ ys) ≡ false → (any p xs ≡ false) × (any p ys ≡ false)
  none_both [] ys e = (refl, e)
  none_both (x ∷ xs) ys e = go (p x) e (λ f. none_both xs ys f)
    where
      go : (b : Bool) → (b || any p (xs ++ ys)) ≡ false → (any p (xs ++ ys) ≡ false → (any p xs ≡ false) × (any p ys ≡ false)) → ((b || any p xs) ≡ false) × (any p ys ≡ false)
      go true f h = absurd (false≢true (sym f))
      go false f h = h f

  pub any_append : (xs ys : List A) → any p (xs ++ ys) ≡ (any p xs || any p ys)
  any_append [] ys = refl
  any_append (x ∷ xs) ys = ap (λ (t : Bool). p x || t) (any_append xs ys) ∙ sym (or_assoc (p x) (any p xs) (any p ys))

-- one of two numbers stands in a list, exactly where a test for both passes one of its elements
or_split : (s t u : Bool) → ((s || t) || u) ≡ true → (s ≡ true) ⊎ ((t ≡ true) ⊎ (u ≡ true))
or_split true t u e = inl refl
or_split false true u e = inr (inl refl)
or_split false false true e = inr (inr refl)
or_split false false false e = absurd (false≢true e)

one_of : (a b : ℕ) (ns : List ℕ) → any (λ n. eqb n a || eqb n b) ns ≡ true → Memᴰ a ns ⊎ Memᴰ b ns
one_of a b [] e = absurd (false≢true e)
one_of a b (n ∷ ns) e =
    ⊎_elim
    (λ p. inl (Memᴰ.head (sym (eqb→eq n a (is_so (eqb n a) p)))))
    (λ r.
    ⊎_elim
    (λ q. inr (Memᴰ.head (sym (eqb→eq n b (is_so (eqb n b) q)))))
    (λ u. ⊎_elim (λ m. inl (Memᴰ.tail m)) (λ m. inr (Memᴰ.tail m)) (one_of a b ns u))
    r)
    (or_split (eqb n a) (eqb n b) (any (λ n. eqb n a || eqb n b) ns) e)

or_true : (t : Bool) → (t || true) ≡ true
or_true true = refl
or_true false = refl

passes : {A : Type 0} (p : A → Bool) (x : A) (xs : List A) → p x ≡ true → Memᴰ x xs → any p xs ≡ true
passes {A = A} p x [] e x3 = elim x3 [ ]
passes p x (y ∷ ys) e (Memᴰ.head h) = ap (λ (t : Bool). t || any p ys) (sym (ap p h) ∙ e)
passes p x (y ∷ ys) e (Memᴰ.tail m) = ap (λ (t : Bool). p y || t) (passes p x ys e m) ∙ or_true (p y)

pub one_of_two : (a b : ℕ) (ns : List ℕ) → (any (λ n. eqb n a || eqb n b) ns ≡ true) ↔ (Memᴰ a ns ⊎ Memᴰ b ns)
one_of_two a b ns = (
  one_of a b ns,
  ⊎_elim
      (passes (λ n. eqb n a || eqb n b) a ns (ap (λ (t : Bool). t || eqb a b) (eq-eqb a a refl)))
      (passes (λ n. eqb n a || eqb n b) b ns (ap (λ (t : Bool). eqb b a || t) (eq-eqb b b refl) ∙ or_true (eqb b a))),
)

map_end : {A B : Type 0} (f : A → B) (xs : List A) (x : A) → map f xs ++ (f x ∷ []) ≡ map f (xs ++ (x ∷ []))
map_end f [] x = refl
map_end f (y ∷ xs) x = ap (f y ∷◌) (map_end f xs x)

-- ---- rows and tables

abbrev pub rows_as_blank : Env → Env
rows_as_blank env = map (map as_blank) env

-- one level deeper
pub deeper_blank : (env : Env) (row : Row) → (rows_as_blank env ▸ map as_blank row) ≡ rows_as_blank (env ▸ row)
deeper_blank env row = map_end (map as_blank) env row

pub table_blank : (ts : Tables) (t : ℕ) → rows_of (tables_as_blank ts) t ≡ map (map as_blank) (rows_of ts t)
table_blank ts zero = refl
table_blank ts (suc t) = get_or-map (map (map as_blank)) ts t []

pub row_blank : (rows : List Row) (k : ℕ) → get_or (map (map as_blank) rows) k [] ≡ map as_blank (get_or rows k [])
row_blank rows k = get_or-map (map as_blank) rows k []

-- ---- cells

in_blank : (row : Row) (c : ℕ) → cell_in (map as_blank row) c ≡ as_blank (cell_in row c)
in_blank row zero = refl
in_blank row (suc c) = get_or-map as_blank row c Blank

pub cell_blank : (env : Env) (v : Value) → cell_of (rows_as_blank env) v ≡ as_blank (cell_of env v)
cell_blank env (Constant k) = refl
cell_blank env (Column level c) = ap (λ (row : Row). cell_in row c) (row_blank env level) ∙ in_blank (get_or env level []) c

pub compared_blank : {A : Type 0} (unknown : A) (compare : ℤ → ℤ → A) (x y : Cell) → by_numbers unknown compare (as_blank x) (as_blank y) ≡ by_numbers unknown compare x y
compared_blank unknown compare Blank y = refl
compared_blank unknown compare Declined y = refl
compared_blank unknown compare (Present a) Blank = refl
compared_blank unknown compare (Present a) Declined = refl
compared_blank unknown compare (Present a) (Present b) = refl

pub blank_blank : (x : Cell) → is_blank (as_blank x) ≡ is_blank x
blank_blank Blank = refl
blank_blank Declined = refl
blank_blank (Present a) = refl
