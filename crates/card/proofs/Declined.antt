-- A declined cell is blank to a card that does not ask whether cells are declined.
use mathlib.Core.Path.{◌≡◌, refl, sym, ap, ap₂, ◌∙◌}
use mathlib.Core.Bool.{Bool, false, not, ◌&&◌, ◌||◌, false≢true}
use mathlib.Core.List.{List, [], ◌∷◌, ◌++◌, map}
use Rattle.tables.specs.Lists.{any}
use Rattle.tables.specs.Tables.{Cell, Tables, rows_of}
use Rattle.tables.specs.Values.{Env, ◌▸◌, cell_of, is_blank}
use Rattle.tables.specs.declared.Quantifier.{Quantifier}
use Rattle.tables.specs.declared.Quantifier.TheVariants.{Some, All}
use Rattle.tables.specs.declared.MarkTest.TheVariants.{Null, NotNull, IsDeclined, NotDeclined}
use Rattle.tables.specs.Claims.{as_blank, tables_as_blank}
use Rattle.tables.proofs.AsBlank.{one_of_two, none_behind, none_both, rows_as_blank, deeper_blank, table_blank, cell_blank, compared_blank, blank_blank}
use Rattle.card.specs.Card.{Card, LeafEntry, PairEntry, RowEntry, compares, joined, over_rows, answer}
use Rattle.card.specs.declared.Leaf.TheVariants.{CompareLeaf, MarkLeaf}
use Rattle.card.specs.Layout.{kind_number, kind_of, kind_bytes, kind_asks_declined}
use Rattle.card.specs.declared.Head.TheVariants.{PairHead, RowHead}
use Rattle.card.specs.Claims.{AsksClaim, DeclinedBlankClaim}

-- rows that are taken to others of which a test says the same
over_map : {A B : Type 0} (f : A → B) (p : A → Bool) (q : B → Bool) → ((x : A) → q (f x) ≡ p x) → (k : Quantifier) (xs : List A) → over_rows k q (map f xs) ≡ over_rows k p xs
over_map f p q h Some [] = refl
over_map f p q h Some (x ∷ xs) = ap₂ ◌||◌ (h x) (over_map f p q h Some xs)
over_map f p q h All [] = refl
over_map f p q h All (x ∷ xs) = ap₂ ◌&&◌ (h x) (over_map f p q h All xs)

same_answer : (c : Card) (ts : Tables) (env : Env) → any kind_asks_declined (kind_bytes c) ≡ false → answer (tables_as_blank ts) (rows_as_blank env) c ≡ answer ts env c
unfolding answer kind_bytes
same_answer (LeafEntry (CompareLeaf u op l r)) ts env e = ap₂ (compares u op) (cell_blank env l) (cell_blank env r) ∙ compared_blank _ _ (cell_of env l) (cell_of env r)
same_answer (LeafEntry (MarkLeaf Null l)) ts env e = ap is_blank (cell_blank env l) ∙ blank_blank (cell_of env l)
same_answer (LeafEntry (MarkLeaf NotNull l)) ts env e = ap (λ (x : Cell). not (is_blank x)) (cell_blank env l) ∙ ap not (blank_blank (cell_of env l))
same_answer (LeafEntry (MarkLeaf IsDeclined l)) ts env e = absurd (false≢true (sym e))
same_answer (LeafEntry (MarkLeaf NotDeclined l)) ts env e = absurd (false≢true (sym e))
same_answer (PairEntry j a b) ts env e =
    let inner = none_both kind_asks_declined (kind_bytes a) (kind_bytes b) (none_behind kind_asks_declined (kind_number (kind_of (PairHead j))) (kind_bytes a ++ kind_bytes b) e) in
    ap₂ (joined j) (same_answer a ts env inner.0) (same_answer b ts env inner.1)
same_answer (RowEntry q t c) ts env e =
    let inner = none_behind kind_asks_declined (kind_number (kind_of (RowHead q t))) (kind_bytes c) e in
    ap (over_rows q (λ row. answer (tables_as_blank ts) (rows_as_blank env ▸ row) c)) (table_blank ts t)
    ∙ over_map (map as_blank) (λ row. answer ts (env ▸ row) c) (λ row. answer (tables_as_blank ts) (rows_as_blank env ▸ row) c)
    (λ row. ap (λ (inside : Env). answer (tables_as_blank ts) inside c) (deeper_blank env row) ∙ same_answer c ts (env ▸ row) inner) q (rows_of ts t)

pub asks_claim : AsksClaim
asks_claim c = one_of_two 9 10 (kind_bytes c)

pub declined_blank_claim : DeclinedBlankClaim
declined_blank_claim ts env c e = sym (same_answer c ts env e)
