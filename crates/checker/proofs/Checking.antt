-- The check of a card in an array of entries: what each test of src/ decides.
use mathlib.Core.Path.{◌≡◌, refl, sym, ap, subst, ◌∙◌}
use mathlib.Core.Bool.{Bool, true, false, false≢true}
use mathlib.Core.List.{List, [], ◌∷◌, ◌++◌}
use Prim.Native.Nat.{ℕ, zero, suc, ◌+◌, ◌≤◌, ◌<◌}
use native.Mathlib.Numerals.{add-one}
use native.Mathlib.Omega.{arith}
use borrow.Author.Tests.{lt-ltb}
use lib.Dec.{T, leb, le→leb, leb→le}
use lib.Ieee.Fits.{and_i}
use lib.ListN.{length, get_or, set, take}
use lib.Seq.{length-take-le, get_or-take, take-suc-set}
use Rattle.std.proofs.Math.Option.{some}
use Rattle.tables.specs.Lists.{numbered}
use Rattle.tables.specs.Bytes.{between, byte_at}
use Rattle.tables.specs.Values.{most_levels, judged_levels, value_fits}
use Rattle.tables.specs.declared.Connective.{Connective}
use Rattle.tables.specs.declared.Quantifier.{Quantifier}
use Rattle.tables.specs.declared.Value.TheVariants.{Column}
use Rattle.card.specs.Card.{most_row_entries, Card, LeafEntry, PairEntry, RowEntry, leaf_fits, row_entry_fits, card_fits}
use Rattle.card.specs.declared.Leaf.{Leaf}
use Rattle.card.specs.Layout.{entry_count, tables_in, columns_in, card_from}
use Rattle.card.specs.declared.Head.TheVariants.{LeafHead, PairHead, RowHead}
use Rattle.card.specs.Sound.{laid, holds_fitting, sound}
use Rattle.decoder.specs.Code.{Laid, Decoded, end_in, next_end_in, head_at, Coded, coded_leaf, coded_pair, coded_row}
use Rattle.decoder.specs.declared.Entry.{Entry}
use Rattle.checker.specs.Code.{Fitting, Checks, tables_of, one_deeper, LevelsIn}
use Rattle.checker.specs.declared.Levels.{Levels}
use Rattle.tables.proofs.Tests.{is_true, both, bounds}
use Rattle.tables.proofs.Tabulated.{tabulate_at}
use Rattle.decoder.proofs.Coded.{coded_less, coded_end, pair_of, row_of, leaf_of, card_coded, coded_card}
use Rattle.card.proofs.Exact.{sound_passed}
use Rattle.decoder.proofs.Decoding.{columns_length}

-- ---- the columns of a table

pub column_at : (card : List ℕ) (t : ℕ) → 1 ≤ t → t ≤ tables_in card → numbered (columns_in card) t 0 ≡ byte_at card (2 + t)
unfolding columns_in
column_at card zero low high = absurd (omega arith)
column_at card (suc j) low high =
    let next : 3 + j ≡ 2 + suc j = omega arith in
    tabulate_at (tables_in card) (λ j. byte_at card (3 + j)) j 0 high ∙ ap (byte_at card) next

-- ---- a value

-- the array has room for all levels
abbrev Whole : Levels → Type 0
Whole levels = length levels.tables ≡ most_levels

levels_long : (card : List ℕ) (levels : Levels) → Whole levels → LevelsIn card levels → length (tables_of levels) ≡ levels.depth
levels_long card levels w h = length-take-le levels.depth levels.tables (omega arith)

-- a column of a level that there is
pub column_fits : (card : List ℕ) (levels : Levels) (w : Whole levels) (h : LevelsIn card levels) (level column : ℕ) → level < levels.depth
    → between 1 (byte_at card (2 + get_or levels.tables level 0)) column ≡ value_fits (columns_in card) (tables_of levels) (Column level column)
column_fits card levels w h level column there =
    rw (
      levels_long card levels w h,
      lt-ltb level levels.depth there,
      get_or-take levels.depth levels.tables level 0 there,
      column_at card (get_or levels.tables level 0) (h.table_low level there) (h.table_high level there),
    )

-- ---- answers

pub no_yes : {A : Type 0} → false ≡ true → A
no_yes e = absurd (false≢true e)

module _ {d : List Entry} {columns levels : List ℕ} {s e : ℕ} where
  pub none_fits : (Fitting d columns levels s e → ⊥) → Checks d columns levels s e false
  none_fits f = record { yes_fits = no_yes; fits_yes = λ x. absurd (f x) }

-- ---- an entry without inner ones

-- it fits, if its values do
pub leaf_checks : {d : List Entry} {columns levels : List ℕ} {s e : ℕ} {t : Bool} (x : Leaf) → head_at d s ≡ some (LeafHead x) → end_in d s ≡ e → e ≡ s + 1
    → t ≡ leaf_fits columns levels x → Checks d columns levels s e t
unfolding card_fits
leaf_checks {columns = columns} {levels = levels} x says end q is = record {
  yes_fits = λ r. record { card = LeafEntry x; coded = coded_leaf says end q; fits = rw (← is, r) tt };
  fits_yes = λ y.
      let c = (leaf_of y.coded x says).0 in
      is ∙ is_true (leaf_fits columns levels x) (subst (λ (c : Card). T (card_fits columns levels c)) c y.fits);
}

-- ---- an entry with two inner ones

module _ {d : List Entry} {columns levels : List ℕ} {s e : ℕ} {j : Connective} (says : head_at d s ≡ some (PairHead j)) where
  pair_parts : Fitting d columns levels s e → Fitting d columns levels (s + 1) (next_end_in d s) × Fitting d columns levels (next_end_in d s) e
  unfolding card_fits
  pair_parts x =
      let p = pair_of x.coded j says in
      let f : T (card_fits columns levels (PairEntry j p.left p.right)) = subst (λ (c : Card). T (card_fits columns levels c)) p.is x.fits in
      let (l, r) = both (card_fits columns levels p.left) (card_fits columns levels p.right) f in
      let m : p.middle ≡ next_end_in d s = sym (coded_end p.left_coded) in (
        record { card = p.left; coded = subst (λ (k : ℕ). Coded d (s + 1) k p.left) m p.left_coded; fits = l },
        record { card = p.right; coded = subst (λ (k : ℕ). Coded d k e p.right) m p.right_coded; fits = r },
      )

  pub pair_short : (s + 1 < next_end_in d s → next_end_in d s < e → ⊥) → Checks d columns levels s e false
  pair_short f = none_fits (λ x. let (l, r) = pair_parts x in f (coded_less l.coded) (coded_less r.coded))

  module _ {t : Bool} (first : Checks d columns levels (s + 1) (next_end_in d s) t) where
    pub pair_left_no : t ≡ false → Checks d columns levels s e t
    pair_left_no f = rw f (none_fits (λ x. no_yes (sym f ∙ first.fits_yes (pair_parts x).0)))

    pub pair_last : {u : Bool} → t ≡ true → end_in d s ≡ e → Checks d columns levels (next_end_in d s) e u → Checks d columns levels s e u
    unfolding card_fits
    pair_last said end second =
        let l = first.yes_fits said in
        record {
          yes_fits = λ u.
              let r = second.yes_fits u in
              record {
                card = PairEntry j l.card r.card;
                coded = coded_pair says end l.coded r.coded;
                fits = and_i (card_fits columns levels l.card) (card_fits columns levels r.card) l.fits r.fits;
              };
          fits_yes = λ x. second.fits_yes (pair_parts x).1;
        }

-- ---- an entry over the rows of a table

-- what a row entry asks of its own, for the table that it names
pub record Rows (card : List ℕ) (d : List Entry) (levels : Levels) (s e t : ℕ) : Type 0 where
  pub table_low : 1 ≤ t
  pub table_high : t ≤ tables_in card
  pub few : levels.depth ≤ most_row_entries
  pub inner : Fitting d (columns_in card) (tables_of levels ++ (t ∷ [])) (s + 1) e

level_more : (levels : Levels) (t : ℕ) → levels.depth < length levels.tables → take (levels.depth + 1) (set levels.tables levels.depth t) ≡ tables_of levels ++ (t ∷ [])
level_more levels t room = rw add-one (take-suc-set levels.tables levels.depth t room)

module _ {card : List ℕ} {d : List Entry} {levels : Levels} {s e : ℕ} {q : Quantifier} {t : ℕ} (says : head_at d s ≡ some (RowHead q t)) (w : Whole levels) (h : LevelsIn card levels) where
  row_parts : Fitting d (columns_in card) (tables_of levels) s e → Rows card d levels s e t
  unfolding card_fits
  row_parts x =
      let columns = columns_in card in
      let tables = tables_of levels in
      let p = row_of x.coded q t says in
      let f : T (card_fits columns tables (RowEntry q t p.inner)) = subst (λ (c : Card). T (card_fits columns tables c)) p.is x.fits in
      let (own, i) = both (row_entry_fits columns tables t) (card_fits columns (tables ++ (t ∷ [])) p.inner) f in
      let (there, three) = both (between 1 (length columns) t) (leb (length tables) most_row_entries) own in
      let (l, u) = bounds 1 (length columns) t there in
      record {
        table_low = l;
        table_high = omega (arith, columns_length card);
        few = omega (arith, leb→le (length tables) most_row_entries three, levels_long card levels w h);
        inner = record { card = p.inner; coded = p.inner_coded; fits = i };
      }

  pub rows_no : (Rows card d levels s e t → ⊥) → Checks d (columns_in card) (tables_of levels) s e false
  rows_no f = none_fits (λ x. f (row_parts x))

  module _ (t-low : 1 ≤ t) (t-high : t ≤ tables_in card) (few : levels.depth ≤ most_row_entries) where
    pub rows_last : {r : Bool} → end_in d s ≡ e → {more : Levels} → more ≡ one_deeper levels t
        → Checks d (columns_in card) (tables_of more) (s + 1) e r → Checks d (columns_in card) (tables_of levels) s e r
    unfolding card_fits
    rows_last {r} end is c =
        let columns = columns_in card in
        let tables = tables_of levels in
        let c' : Checks d columns (tables ++ (t ∷ [])) (s + 1) e r = subst (λ (l : List ℕ). Checks d columns l (s + 1) e r) (ap tables_of is ∙ level_more levels t (omega arith)) c in
        let own : T (row_entry_fits columns tables t) =
        and_i (between 1 (length columns) t) (leb (length tables) most_row_entries)
        (and_i (leb 1 t) (leb t (length columns)) (le→leb 1 t t-low) (le→leb t (length columns) (omega (arith, columns_length card))))
        (le→leb (length tables) most_row_entries (omega (arith, levels_long card levels w h))) in
        record {
          yes_fits = λ y.
              let i = c'.yes_fits y in
              record {
                card = RowEntry q t i.card;
                coded = coded_row says end i.coded;
                fits = and_i (row_entry_fits columns tables t) (card_fits columns (tables ++ (t ∷ [])) i.card) own i.fits;
              };
          fits_yes = λ x. c'.fits_yes (row_parts x).inner;
        }

-- ---- a whole card

same_answer : (a b : Bool) → (a ≡ true → b ≡ true) → (b ≡ true → a ≡ true) → a ≡ b
same_answer true b f g = sym (f refl)
same_answer false true f g = g refl
same_answer false false f g = refl

-- where a card is laid out, its entries decide
sound_held : (card : List ℕ) → laid card ≡ true → sound card ≡ holds_fitting (columns_in card) (card_from card)
unfolding sound
sound_held card e = rw e

-- table 1 at level 0
pub first_level : {card : List ℕ} → Laid card → LevelsIn card (record { tables = 1 ∷ 0 ∷ 0 ∷ 0 ∷ []; depth = 1 })
first_level h = record {
  laid_out = h;
  few = omega arith;
  table_low = λ l b. let z : l ≡ 0 = omega arith in rw z (omega arith);
  table_high = λ l b. let z : l ≡ 0 = omega arith in rw z h.tables_low;
}

module _ {card : List ℕ} {d : List Entry} (decoded : Decoded card d) (laid_out : laid card ≡ true) where
  pub sound_checks : {n : ℕ} {t : Bool} → n ≡ entry_count card → Checks d (columns_in card) judged_levels 0 n t → t ≡ sound card
  sound_checks {n} {t} whole h = same_answer t (sound card) there back
    where
      there : t ≡ true → sound card ≡ true
      there e =
          let f = h.yes_fits e in
          let c = subst (λ (n : ℕ). Coded d 0 n f.card) whole f.coded in
          sound_held card laid_out
          ∙ ap (holds_fitting (columns_in card)) (coded_card decoded c)
          ∙ is_true (card_fits (columns_in card) judged_levels f.card) f.fits

      back : sound card ≡ true → t ≡ true
      back e =
          let p = sound_passed card (rw e tt) in
          let c = subst (λ (n : ℕ). Coded d 0 n p.card) (sym whole) (card_coded decoded p.held) in
          h.fits_yes (record { card = p.card; coded = c; fits = p.fits })
