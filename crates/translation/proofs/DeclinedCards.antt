-- The cards of tests by the mark; and that a card asks whether cells are declined just where its rule does.
use mathlib.Core.Path.{◌≡◌, refl, sym, ap, ap₂, ◌∙◌}
use mathlib.Core.Bool.{Bool, true, false, ◌||◌}
use mathlib.Core.List.{◌++◌}
use Prim.Native.Nat.{ℕ, ◌+◌}
use Rattle.tables.specs.Lists.{any}
use Rattle.tables.specs.declared.Value.{Value}
use Rattle.tables.specs.declared.Comparison.{Comparison}
use Rattle.tables.specs.declared.Connective.{Connective}
use Rattle.tables.specs.declared.Connective.TheVariants.{And, Or}
use Rattle.tables.specs.declared.Quantifier.{Quantifier}
use Rattle.tables.specs.declared.Quantifier.TheVariants.{Some, All}
use Rattle.tables.specs.declared.MarkTest.TheVariants.{Null, NotNull, IsDeclined, NotDeclined}
use Rattle.tables.proofs.AsBlank.{any_append}
use Rattle.card.specs.Card.{Card, LeafEntry, PairEntry, RowEntry}
use Rattle.card.specs.declared.Leaf.TheVariants.{CompareLeaf, MarkLeaf}
use Rattle.card.specs.declared.Interpretation.{Interpretation}
use Rattle.card.specs.declared.Interpretation.TheVariants.{AsNo, AsYes}
use Rattle.card.specs.Layout.{pair_kind, row_kind, comparison_kind, kind_bytes, kind_asks_declined}
use Rattle.rule.specs.declared.Truth.TheVariants.{False, Unknown, True}
use Rattle.rule.specs.Condition.{Atom, Join, Apply, Exists, Listed, Rule, parts}
use Rattle.rule.specs.declared.Test.TheVariants.{Compare, Mark}
use Rattle.rule.specs.declared.Unary.{Unary}
use Rattle.rule.specs.declared.Unary.TheVariants.{Not, Is, IsNot}
use Rattle.rule.specs.declared.FromClause.{FromClause}
use Rattle.rule.specs.declared.FromClause.TheVariants.{Single}
use Rattle.rule.specs.Parts.{part_of, parts_from, part_asks_declined}
use Rattle.rule.specs.declared.Head.TheVariants.{JoinHead, UnaryHead, ListedHead}
use Rattle.translation.specs.Translation.{other, other_connective, other_quantifier, other_comparison, negated, unknown_card, unary_card, card_of}
use Rattle.translation.specs.Claims.{DeclinedCardsClaim}

-- ---- entries and parts of other kinds do not ask

pair_quiet : (j : Connective) → kind_asks_declined (pair_kind j) ≡ false
pair_quiet And = refl
pair_quiet Or = refl

row_quiet : (q : Quantifier) → kind_asks_declined (row_kind q) ≡ false
row_quiet Some = refl
row_quiet All = refl

compare_quiet : (i : Interpretation) → kind_asks_declined (comparison_kind i) ≡ false
compare_quiet AsNo = refl
compare_quiet AsYes = refl

join_quiet : (e : ℕ) (j : Connective) → part_asks_declined (part_of e (JoinHead j)) ≡ false
join_quiet e And = refl
join_quiet e Or = refl

unary_quiet : (e : ℕ) (u : Unary) → part_asks_declined (part_of e (UnaryHead u)) ≡ false
unary_quiet e Not = refl
unary_quiet e (Is False) = refl
unary_quiet e (Is Unknown) = refl
unary_quiet e (Is True) = refl
unary_quiet e (IsNot False) = refl
unary_quiet e (IsNot Unknown) = refl
unary_quiet e (IsNot True) = refl

list_quiet : (e : ℕ) (q : Quantifier) (op : Comparison) (l s : Value) (f : FromClause ℕ) → part_asks_declined (part_of e (ListedHead q op l s f)) ≡ false
list_quiet e Some op l s f = refl
list_quiet e All op l s f = refl

-- ---- a card

abbrev asks : Card → Bool
asks c = any kind_asks_declined (kind_bytes c)

pair_asks : (j : Connective) (a b : Card) → asks (PairEntry j a b) ≡ (asks a || asks b)
unfolding kind_bytes
pair_asks j a b = ap (λ (t : Bool). t || any kind_asks_declined (kind_bytes a ++ kind_bytes b)) (pair_quiet j) ∙ any_append kind_asks_declined (kind_bytes a) (kind_bytes b)

row_asks : (q : Quantifier) (t : ℕ) (c : Card) → asks (RowEntry q t c) ≡ asks c
unfolding kind_bytes
row_asks q t c = ap (λ (t : Bool). t || asks c) (row_quiet q)

compare_asks : (i : Interpretation) (op : Comparison) (l r : Value) → asks (LeafEntry (CompareLeaf i op l r)) ≡ false
unfolding kind_bytes
compare_asks i op l r = ap (λ (t : Bool). t || false) (compare_quiet i)

negated_asks : (c : Card) → asks (negated c) ≡ asks c
unfolding negated kind_bytes
negated_asks (LeafEntry (CompareLeaf i op l r)) = compare_asks (other i) (other_comparison op) l r ∙ sym (compare_asks i op l r)
negated_asks (LeafEntry (MarkLeaf Null l)) = refl
negated_asks (LeafEntry (MarkLeaf NotNull l)) = refl
negated_asks (LeafEntry (MarkLeaf IsDeclined l)) = refl
negated_asks (LeafEntry (MarkLeaf NotDeclined l)) = refl
negated_asks (PairEntry j a b) = pair_asks (other_connective j) (negated a) (negated b) ∙ ap₂ ◌||◌ (negated_asks a) (negated_asks b) ∙ sym (pair_asks j a b)
negated_asks (RowEntry q t c) = row_asks (other_quantifier q) t (negated c) ∙ negated_asks c ∙ sym (row_asks q t c)

-- ---- the card of a rule, whose parts are numbered from k on

twice : (t : Bool) → (t || t) ≡ t
twice true = refl
twice false = refl

nor_false : (t : Bool) → (t || false) ≡ t
nor_false true = refl
nor_false false = refl

unknown_asks : (inner : Interpretation → Card) (t : Bool) → ((i : Interpretation) → asks (inner i) ≡ t) → asks (unknown_card inner) ≡ t
unknown_asks inner t e = pair_asks And (negated (inner AsNo)) (inner AsYes) ∙ ap₂ ◌||◌ (negated_asks (inner AsNo) ∙ e AsNo) (e AsYes) ∙ twice t

unary_asks : (u : Unary) (i : Interpretation) (inner : Interpretation → Card) (t : Bool) → ((i : Interpretation) → asks (inner i) ≡ t) → asks (unary_card u i inner) ≡ t
unary_asks Not i inner t e = negated_asks (inner (other i)) ∙ e (other i)
unary_asks (Is True) i inner t e = e AsNo
unary_asks (IsNot True) i inner t e = negated_asks (inner AsNo) ∙ e AsNo
unary_asks (Is False) i inner t e = negated_asks (inner AsYes) ∙ e AsYes
unary_asks (IsNot False) i inner t e = e AsYes
unary_asks (Is Unknown) i inner t e = unknown_asks inner t e
unary_asks (IsNot Unknown) i inner t e = negated_asks (unknown_card inner) ∙ unknown_asks inner t e

card_asks : (r : Rule) (k : ℕ) (i : Interpretation) → asks (card_of i r) ≡ any part_asks_declined (parts_from k r)
unfolding card_of kind_bytes parts_from
card_asks (Atom (Compare op l r)) k i = compare_asks i op l r
card_asks (Atom (Mark Null l)) k i = refl
card_asks (Atom (Mark NotNull l)) k i = refl
card_asks (Atom (Mark IsDeclined l)) k i = refl
card_asks (Atom (Mark NotDeclined l)) k i = refl
card_asks (Join j a b) k i =
    pair_asks j (card_of i a) (card_of i b)
    ∙ ap₂ ◌||◌ (card_asks a (k + 1) i) (card_asks b (k + 1 + parts a) i)
    ∙ sym (any_append part_asks_declined (parts_from (k + 1) a) (parts_from (k + 1 + parts a) b))
    ∙ sym (ap (λ (t : Bool). t || any part_asks_declined (parts_from (k + 1) a ++ parts_from (k + 1 + parts a) b)) (join_quiet (k + (1 + parts a + parts b)) j))
card_asks (Apply u a) k i =
    unary_asks u i (λ i'. card_of i' a) _ (λ i'. card_asks a (k + 1) i')
    ∙ sym (ap (λ (t : Bool). t || any part_asks_declined (parts_from (k + 1) a)) (unary_quiet (k + (1 + parts a)) u))
card_asks (Exists (Single t) w) k i = row_asks Some t (card_of AsNo w) ∙ card_asks w (k + 1) AsNo
card_asks (Listed Some op l s (Single t) w) k i =
    let compared = LeafEntry (CompareLeaf i op l s) in
    row_asks Some t (PairEntry And (card_of AsNo w) compared)
    ∙ pair_asks And (card_of AsNo w) compared
    ∙ ap₂ ◌||◌ (card_asks w (k + 1) AsNo) (compare_asks i op l s)
    ∙ nor_false _
card_asks (Listed All op l s (Single t) w) k i =
    let compared = LeafEntry (CompareLeaf i op l s) in
    row_asks All t (PairEntry Or (negated (card_of AsNo w)) compared)
    ∙ pair_asks Or (negated (card_of AsNo w)) compared
    ∙ ap₂ ◌||◌ (negated_asks (card_of AsNo w) ∙ card_asks w (k + 1) AsNo) (compare_asks i op l s)
    ∙ nor_false _

pub declined_cards_claim : DeclinedCardsClaim
unfolding card_of negated kind_bytes
declined_cards_claim = record {
  entry = λ m i l. refl;
  uses_left = λ m l. refl;
  declined = λ i l. refl;
  not_declined = λ i l. refl;
  swaps = λ i l. refl;
  swaps_back = λ i l. refl;
  asks = λ i r. card_asks r 0 i;
}
