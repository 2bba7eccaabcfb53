-- A card's entries: when a card is laid out, where a record's bytes stand, and what the decoded entries say.
use mathlib.Core.Path.{◌≡◌, refl, sym, ap, ap₂, subst, ◌∙◌}
use mathlib.Core.Bool.{Bool, true, false, ◌&&◌, and-true, and_assoc}
use mathlib.Core.List.{List, [], ◌∷◌}
use mathlib.Core.Logic.{◌⊎◌, inl, inr, ⊎_elim}
use Prim.Native.Nat.{ℕ, ◌+◌, ◌-◌, ◌<◌, ◌≤◌, max}
use native.Mathlib.Omega.{arith}
use borrow.Author.Tests.{eq-eqb, ltb-true, ltb-false}
use lib.Dec.{T, eqb, ltb, eqb→eq}
use lib.Ieee.Fits.{and_i}
use lib.ListN.{length, get_or, take, drop, length-drop}
use lib.Seq.{length-take-le, get_or-take, get_or-drop}
use Rattle.std.specs.List.{list_all}
use Rattle.std.proofs.lemmas.Grind.{common_steps, take_at_read}
use Rattle.std.proofs.lemmas.List.{take_all}
use Rattle.tables.specs.Lists.{tabulate, all}
use Rattle.tables.specs.Bytes.{between, byte_at}
use Rattle.tables.specs.Tables.{most_tables, most_columns}
use Rattle.tables.specs.Values.{most_entries}
use Rattle.tables.specs.declared.Connective.{Connective}
use Rattle.tables.specs.declared.Quantifier.{Quantifier}
use Rattle.tables.specs.declared.MarkTest.{MarkTest}
use Rattle.tables.proofs.Tests.{is_true, is_so, refuted, both, bounds, between_yes}
use Rattle.tables.proofs.Tabulated.{tabulate_length, tabulate_part, all_each, all_of, all_read, all_same, all_append}
use Rattle.card.specs.Layout.{record_size, table_place, comparison_place, left_place, right_place, uses, card_length, entry_count, tables_in, columns_in, zeros, record_fits}
use Rattle.card.specs.declared.Interpretation.{Interpretation}
use Rattle.card.specs.declared.Kind.{Kind}
use Rattle.card.specs.declared.Kind.TheVariants.{PairKind, RowKind, ComparisonKind, MarkKind}
use Rattle.card.specs.Sound.{laid, columns_fit, sound}
use Rattle.decoder.specs.Code.{Laid}

-- ---- two tests, of which the second is made where the first holds

pub and_last : {a b x t u : Bool} → (a && b) ≡ x → t ≡ a → t ≡ true → u ≡ b → u ≡ x
and_last {b} both_are first e second = second ∙ sym (ap (λ (a : Bool). a && b) (sym first ∙ e)) ∙ both_are

pub and_first : {a x t : Bool} (b : Bool) → (a && b) ≡ x → t ≡ a → t ≡ false → t ≡ x
and_first b both_are first e = e ∙ sym (ap (λ (a : Bool). a && b) (sym first ∙ e)) ∙ both_are

-- ---- the layout

pub list_all_is : {A : Type 0} (p : A → Bool) (xs : List A) → list_all p xs ≡ all p xs
list_all_is p [] = refl
list_all_is p (x ∷ xs) = ap (λ (t : Bool). p x && t) (list_all_is p xs)

-- the columns' bytes
pub columns_are : (card : List ℕ) (n : ℕ) → n ≡ tables_in card → 3 + n ≤ length card → take n (drop 3 card) ≡ columns_in card
unfolding columns_in
columns_are card n e l = sym (tabulate_part n card 3 0 l) ∙ ap (λ (m : ℕ). tabulate m (λ j. byte_at card (3 + j))) e

module _ (card : List ℕ) where
  pub columns_length : length (columns_in card) ≡ tables_in card
  unfolding columns_in
  columns_length = tabulate_length (tables_in card) (λ k. byte_at card (3 + k))

  columns_each : T (all (between 1 most_columns) (columns_in card)) → (j : ℕ) → j < tables_in card → byte_at card (3 + j) ≤ most_columns
  unfolding columns_in
  columns_each t j l = (bounds 1 most_columns (byte_at card (3 + j)) (all_each (between 1 most_columns) (tables_in card) (λ k. byte_at card (3 + k)) t j l)).1

  laid_says : T (laid card) → Laid card
  unfolding laid
  laid_says t =
      let (tn, u) = both (between 1 most_entries (entry_count card)) _ t in
      let (tc, tl) = both (columns_fit (columns_in card)) _ u in
      let (tt', ta) = both (between 1 most_tables (length (columns_in card))) _ tc in
      let (n1, n2) = bounds 1 most_entries (entry_count card) tn in
      let (t1, t2) = bounds 1 most_tables (length (columns_in card)) tt' in
      let e = columns_length in
      record {
        entries_low = n1;
        entries_high = n2;
        tables_low = omega arith;
        tables_high = omega arith;
        columns_high = columns_each ta;
        long = eqb→eq (length card) (card_length (tables_in card) (entry_count card)) tl;
      }

  pub laid_is : laid card ≡ true → Laid card
  laid_is e = laid_says (is_so (laid card) e)

  pub laid_no : (Laid card → ⊥) → false ≡ laid card
  laid_no f = sym (refuted (laid card) (λ t. f (laid_says t)))

  -- where all else is as it should be, the columns decide
  pub laid_columns : (n t : ℕ) (x : Bool) → n ≡ entry_count card → t ≡ tables_in card
      → 1 ≤ n → n ≤ most_entries → 1 ≤ t → t ≤ most_tables → length card ≡ card_length t n
      → x ≡ all (between 1 most_columns) (columns_in card) → x ≡ laid card
  unfolding laid
  laid_columns n t x en et n1 n2 t1 t2 long e =
      let ec = columns_length in
      let bn = between_yes 1 most_entries (entry_count card) (omega arith) (omega arith) in
      let bt = between_yes 1 most_tables (length (columns_in card)) (omega arith) (omega arith) in
      let bl = eq-eqb (length card) (card_length (tables_in card) (entry_count card)) (omega arith) in
      rw (bn, bt, bl) (e ∙ sym (and-true (all (between 1 most_columns) (columns_in card))))

-- a sound card is laid out
module _ (card : List ℕ) where
  sound_says : T (sound card) → T (laid card)
  unfolding sound
  sound_says t = (both (laid card) _ t).0

  pub sound_laid : sound card ≡ true → laid card ≡ true
  sound_laid e = is_true (laid card) (sound_says (is_so (sound card) e))

  pub sound_not_laid : laid card ≡ false → sound card ≡ false
  sound_not_laid e = refuted (sound card) (λ t. subst T e (sound_says t))

-- ---- a record

-- a test of the bytes of a part
module _ (r : List ℕ) (i j : ℕ) where
  pub zeros_part : i ≤ j → j ≤ length r → all (λ x. eqb x 0) (take (j - i) (drop i r)) ≡ zeros r i j
  unfolding zeros
  zeros_part l h =
      let xs : List ℕ = take (j - i) (drop i r) in
      let long : length xs ≡ j - i = length-take-le (j - i) (drop i r) (simp length-drop (omega arith)) in
      let each : (k : ℕ) → k < j - i → eqb (get_or xs k 0) 0 ≡ eqb (byte_at r (i + k)) 0 =
      λ k m. ap (λ (x : ℕ). eqb x 0) (get_or-take (j - i) (drop i r) k 0 m ∙ get_or-drop i r k 0) in
      sym (all_read (λ x. eqb x 0) xs 0)
      ∙ ap (λ (n : ℕ). all (λ k. eqb (get_or xs k 0) 0) (tabulate n (λ k. k))) long
      ∙ all_same (j - i) _ _ each

-- ---- the fields that a kind asks for

below_or_not : (q j : ℕ) → (q < j) ⊎ (j ≤ q)
below_or_not q j = go (ltb q j) refl
  where
    go : (t : Bool) → ltb q j ≡ t → (q < j) ⊎ (j ≤ q)
    go true e = inl (ltb-true q j e)
    go false e = inr (ltb-false q j e)

same_tests : (a b : Bool) → (T a → T b) → (T b → T a) → a ≡ b
same_tests true b f g = sym (is_true b (f tt))
same_tests false true f g = absurd (g tt)
same_tests false false f g = refl

-- zeros from i up to j, and from j up to k
module _ (r : List ℕ) where
  zeros_each : (i j : ℕ) → T (zeros r i j) → (q : ℕ) → i ≤ q → q < j → byte_at r q ≡ 0
  unfolding zeros
  zeros_each i j t q l h =
      let z : i + (q - i) ≡ q = omega arith in
      subst (λ (q : ℕ). byte_at r q ≡ 0) z (eqb→eq _ 0 (all_each (λ k. eqb (byte_at r (i + k)) 0) (j - i) (λ k. k) t (q - i) (omega arith)))

  zeros_all : (i j : ℕ) → ((q : ℕ) → i ≤ q → q < j → byte_at r q ≡ 0) → T (zeros r i j)
  unfolding zeros
  zeros_all i j h = is_so _ (all_of (λ k. eqb (byte_at r (i + k)) 0) (j - i) (λ k. k) (λ k l. eq-eqb _ 0 (h (i + k) (omega arith) (omega arith))))

  zeros_join : (i j k : ℕ) → i ≤ j → j ≤ k → zeros r i k ≡ (zeros r i j && zeros r j k)
  zeros_join i j k l h = same_tests _ _ there back
    where
      there : T (zeros r i k) → T (zeros r i j && zeros r j k)
      there t =
          let z = zeros_each i k t in
          and_i (zeros r i j) (zeros r j k) (zeros_all i j (λ q a b. z q a (omega arith))) (zeros_all j k (λ q a b. z q (omega arith) b))

      back : T (zeros r i j && zeros r j k) → T (zeros r i k)
      back t =
          let (a, b) = both (zeros r i j) (zeros r j k) t in
          zeros_all i k (λ q m n. ⊎_elim (λ x. zeros_each i j a q m x) (λ x. zeros_each j k b q x n) (below_or_not q j))

module _ (r : List ℕ) where
  fits_as : {k l : Kind} {x : Bool} → l ≡ k → x ≡ record_fits (uses k) r → x ≡ record_fits (uses l) r
  fits_as e p = p ∙ ap (λ (k : Kind). record_fits (uses k) r) (sym e)

  pub fits_pair : {k : Kind} (j : Connective) → k ≡ PairKind j → zeros r table_place record_size ≡ record_fits (uses k) r
  unfolding record_fits
  fits_pair j e =
      let z1 = zeros_join r left_place right_place record_size (omega arith) (omega arith) in
      let z2 = zeros_join r comparison_place left_place record_size (omega arith) (omega arith) in
      let z3 = zeros_join r table_place comparison_place record_size (omega arith) (omega arith) in
      fits_as e (rw (← z1, ← z2, ← z3))

  pub fits_row : {k : Kind} (q : Quantifier) → k ≡ RowKind q → zeros r comparison_place record_size ≡ record_fits (uses k) r
  unfolding record_fits
  fits_row q e =
      let z1 = zeros_join r left_place right_place record_size (omega arith) (omega arith) in
      let z2 = zeros_join r comparison_place left_place record_size (omega arith) (omega arith) in
      fits_as e (rw (← z1, ← z2))

  pub fits_comparison : {k : Kind} (u : Interpretation) → k ≡ ComparisonKind u
      → (between 1 6 (byte_at r comparison_place) && zeros r table_place comparison_place) ≡ record_fits (uses k) r
  unfolding record_fits
  fits_comparison u e = fits_as e (swapped (between 1 6 (byte_at r comparison_place)) (zeros r table_place comparison_place))
    where
      swapped : (a b : Bool) → (a && b) ≡ (b && (a && true))
      swapped true true = refl
      swapped true false = refl
      swapped false true = refl
      swapped false false = refl

  pub fits_mark : {k : Kind} (m : MarkTest) → k ≡ MarkKind m → (zeros r table_place left_place && zeros r right_place record_size) ≡ record_fits (uses k) r
  unfolding record_fits
  fits_mark m e =
      let z = zeros_join r table_place comparison_place left_place (omega arith) (omega arith) in
      fits_as e (rw z (and_assoc (zeros r table_place comparison_place) (zeros r comparison_place left_place) (zeros r right_place record_size)))

-- ---- bytes that are 0

-- of two numbers the higher one is 0 just if both are
higher_zero : (a b : ℕ) → eqb (max a b) 0 ≡ (eqb a 0 && eqb b 0)
higher_zero a b = grind (arith, common_steps)

module _ (bytes : List ℕ) (highest i : ℕ) where
  pub zeros_next : (next : ℕ) → eqb highest 0 ≡ all (λ x. eqb x 0) (take i bytes) → i < length bytes → next ≡ max highest (get_or bytes i 0)
      → eqb next 0 ≡ all (λ x. eqb x 0) (take (i + 1) bytes)
  zeros_next next so_far h e =
      rw (e, (take_at_read bytes i 0 h).1)
      (higher_zero highest (get_or bytes i 0) ∙ ap₂ ◌&&◌ so_far (sym (and-true (eqb (get_or bytes i 0) 0))) ∙ sym (all_append (λ x. eqb x 0) (take i bytes) (get_or bytes i 0 ∷ [])))

  pub zeros_end : eqb highest 0 ≡ all (λ x. eqb x 0) (take i bytes) → length bytes ≤ i → eqb highest 0 ≡ all (λ x. eqb x 0) bytes
  zeros_end so_far h = so_far ∙ ap (all (λ x. eqb x 0)) (take_all i bytes h)
