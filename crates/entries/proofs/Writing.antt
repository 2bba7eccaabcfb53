-- What is written for the rule whose parts stand in an array, by what its first part says.
use Rattle.std.proofs.Common.{◌≡◌, sym, ap, subst, ◌∙◌, Bool, cond, List, ℕ, ◌+◌, ◌≤◌, ◌<◌, arith, get_or}
use Rattle.tables.specs.declared.Value.{Value}
use Rattle.tables.specs.declared.Comparison.{Comparison}
use Rattle.tables.specs.declared.Connective.{Connective}
use Rattle.tables.specs.declared.Quantifier.{Quantifier}
use Rattle.card.specs.Card.{Card, PairEntry, entries}
use Rattle.rule.specs.Condition.{Join, Rule, parts}
use Rattle.rule.specs.Names.{most_parts}
use Rattle.rule.specs.declared.Unary.{Unary}
use Rattle.rule.specs.Parts.{table_of}
use Rattle.rule.specs.declared.FromClause.{FromClause}
use Rattle.names.specs.declared.RulePart.{RulePart}
use Rattle.parts.proofs.Parts.{parts_low, end_stands, IsJoin, IsUnary, IsExists, IsListed}
use Rattle.card.specs.declared.Leaf.TheVariants.{CompareLeaf}
use Rattle.card.specs.declared.Interpretation.{Interpretation}
use Rattle.translation.specs.Translation.{other_connective, other_quantifier}
use Rattle.entries.proofs.Cards.{card_join, card_listed}
use Rattle.entries.specs.declared.Under.{Under}
use Rattle.entries.specs.Code.{leaf_as, card_as, listed_as, card_under, Room, Wrote, Standing, Writable, WroteTo, part_under, PairWritable, PairWroteTo, JoinWritable, JoinWroteTo}

-- ---- the conditions in a rule

module _ {p : List RulePart} {s : ℕ} (st : Standing p s) where
  pub part_few : s < most_parts
  part_few = omega (arith, st.within, parts_low st.rule)

  module _ {u : Unary} (x : IsUnary p s u st.rule) where
    pub unary_parts : parts st.rule ≡ 1 + parts x.inner
    unfolding parts
    unary_parts = ap parts x.is

    abbrev pub unary_at : Standing p (s + 1)
    unary_at = record { rule = x.inner; stands = x.inner_stands; within = omega (arith, st.within, unary_parts) }

  module _ {f : FromClause ℕ} (x : IsExists p s f st.rule) where
    pub exists_parts : parts st.rule ≡ 1 + parts x.inner
    unfolding parts
    exists_parts = ap parts x.is

    abbrev pub exists_at : Standing p (s + 1)
    exists_at = record { rule = x.inner; stands = x.inner_stands; within = omega (arith, st.within, exists_parts) }

  module _ {q : Quantifier} {op : Comparison} {l v : Value} {f : FromClause ℕ} (x : IsListed p s q op l v f st.rule) where
    pub listed_parts : parts st.rule ≡ 1 + parts x.inner
    unfolding parts
    listed_parts = ap parts x.is

    abbrev pub listed_at : Standing p (s + 1)
    listed_at = record { rule = x.inner; stands = x.inner_stands; within = omega (arith, st.within, listed_parts) }

  module _ {j : Connective} (x : IsJoin p s j st.rule) where
    pub join_parts : parts st.rule ≡ 1 + parts x.left + parts x.right
    unfolding parts
    join_parts = ap parts x.is

    abbrev pub left_at : Standing p (s + 1)
    left_at = record { rule = x.left; stands = x.left_stands; within = omega (arith, st.within, join_parts) }

    abbrev pub right_at : Standing p (s + 1 + parts x.left)
    right_at = record { rule = x.right; stands = x.right_stands; within = omega (arith, st.within, join_parts) }

-- ---- a card that is written as another one

module _ {card : Rule → Card} {p : List RulePart} {s : ℕ} {records : List ℕ} {k : ℕ} (h : Writable card p s records k) where
  pub room_for : {c : Card} → card h.at.rule ≡ c → Room records k (entries c)
  room_for e = subst (λ (c : Card). Room records k (entries c)) e h.room

  pub wrote_as : {c : Card} {kinds kinds' records' : List ℕ} {r : ℕ} → card h.at.rule ≡ c → Wrote k c kinds records kinds' records' r
      → Wrote k (card h.at.rule) kinds records kinds' records' r
  wrote_as {kinds = kinds} {kinds'} {records'} {r} e w = subst (λ (c : Card). Wrote k c kinds records kinds' records' r) (sym e) w

  module _ {card' : Rule → Card} {s' : ℕ} (at' : Standing p s') (e : card h.at.rule ≡ card' at'.rule) where
    abbrev pub as_ready : Writable card' p s' records k
    as_ready = record { at = at'; room = room_for e }

    pub as_wrote : {kinds kinds' records' : List ℕ} {r : ℕ} → WroteTo card' p s' kinds records kinds' records' k r
        → Wrote k (card h.at.rule) kinds records kinds' records' r
    as_wrote f = wrote_as e (f as_ready)

  module _ {j : Connective} {left right : Under} (left_at : Standing p left.part) (right_at : Standing p right.part) (order : left.part ≤ right.part)
      (e : card h.at.rule ≡ PairEntry j (card_under left left_at.rule) (card_under right right_at.rule)) where
    abbrev pub pair_ready : PairWritable p j left right records k
    pair_ready = record { left_at = left_at; right_at = right_at; order = order; room = room_for e }

    pub as_pair_wrote : {kinds kinds' records' : List ℕ} {r : ℕ} → PairWroteTo p j left right kinds records kinds' records' k r
        → Wrote k (card h.at.rule) kinds records kinds' records' r
    as_pair_wrote f = wrote_as e (f pair_ready)

-- AND and OR: the right rule starts at the end of the left one
module _ {j : Connective} {negate : Bool} {i : Interpretation} {p : List RulePart} {s : ℕ} {records : List ℕ} {k : ℕ} where
  pub join_end : (h : JoinWritable j negate i p s records k) (d : RulePart) → (get_or p s d).end ≡ s + parts h.left_at.rule
  join_end h d = end_stands p s h.left_at.rule h.left_at.stands d

  module _ (h : JoinWritable j negate i p s records k) {n : ℕ} (e : n ≡ s + parts h.left_at.rule) where
    abbrev pub join_pair : PairWritable p (cond negate (other_connective j) j) (part_under s negate i) (part_under n negate i) records k
    join_pair = record {
      left_at = h.left_at;
      right_at = record { rule = h.right_at.rule; stands = rw e h.right_at.stands; within = omega (arith, h.right_at.within) };
      order = omega arith;
      room = subst (λ (c : Card). Room records k (entries c)) (card_join negate i j h.left_at.rule h.right_at.rule) h.room;
    }

    pub join_pair_wrote : {kinds kinds' records' : List ℕ} {r : ℕ}
        → PairWroteTo p (cond negate (other_connective j) j) (part_under s negate i) (part_under n negate i) kinds records kinds' records' k r
        → Wrote k (card_as negate i (Join j h.left_at.rule h.right_at.rule)) kinds records kinds' records' r
    join_pair_wrote {kinds = kinds} {kinds'} {records'} {r} f =
        subst (λ (c : Card). Wrote k c kinds records kinds' records' r) (sym (card_join negate i j h.left_at.rule h.right_at.rule)) (f join_pair)

module _ (negate : Bool) (i : Interpretation) {p : List RulePart} {s : ℕ} {records : List ℕ} {k : ℕ} (h : Writable (card_as negate i) p s records k) {j : Connective}
    (x : IsJoin p s j h.at.rule) where
  abbrev pub join_ready : JoinWritable j negate i p (s + 1) records k
  join_ready = record { left_at = left_at h.at x; right_at = right_at h.at x; room = room_for h (ap (card_as negate i) x.is) }

  pub join_wrote : {kinds kinds' records' : List ℕ} {r : ℕ} → JoinWroteTo j negate i p (s + 1) kinds records kinds' records' k r
      → Wrote k (card_as negate i h.at.rule) kinds records kinds' records' r
  join_wrote f = wrote_as h (ap (card_as negate i) x.is) (f join_ready)

-- a list
module _ (negate : Bool) (i : Interpretation) {p : List RulePart} {s : ℕ} {records : List ℕ} {k : ℕ} (h : Writable (card_as negate i) p s records k)
    {q : Quantifier} {op : Comparison} {l v : Value} {f : FromClause ℕ} (x : IsListed p s q op l v f h.at.rule) where
  abbrev list_around : Rule → Card
  list_around = listed_as (cond negate (other_quantifier q) q) (table_of f) (leaf_as negate (CompareLeaf i op l v))

  list_card : card_as negate i h.at.rule ≡ list_around x.inner
  list_card = ap (card_as negate i) x.is ∙ card_listed negate i q op l v f x.inner

  pub list_ready : Writable list_around p (s + 1) records k
  list_ready = as_ready h (listed_at h.at x) list_card

  pub list_wrote : {kinds kinds' records' : List ℕ} {r : ℕ} → WroteTo list_around p (s + 1) kinds records kinds' records' k r
      → Wrote k (card_as negate i h.at.rule) kinds records kinds' records' r
  list_wrote w = as_wrote h (listed_at h.at x) list_card w
