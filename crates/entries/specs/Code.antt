-- What the functions of src/ promise one another and their callers, in the terms of the code: parts in an array, kinds and records in bytes. The
-- contract of a public call cites nothing of this file.
use Rattle.std.specs.Prelude.{◌≡◌, Bool, true, false, cond, not, List, ℕ, ◌+◌, ◌*◌, ◌≤◌, length}
use Rattle.tables.specs.Lists.{placed}
use Rattle.tables.specs.Values.{most_entries}
use Rattle.tables.specs.declared.Connective.{Connective}
use Rattle.tables.specs.declared.Connective.TheVariants.{And}
use Rattle.tables.specs.declared.Quantifier.{Quantifier}
use Rattle.tables.specs.declared.Quantifier.TheVariants.{Some, All}
use Rattle.card.specs.Card.{Card, LeafEntry, PairEntry, RowEntry, entries}
use Rattle.card.specs.declared.Leaf.{Leaf}
use Rattle.card.specs.declared.Interpretation.{Interpretation}
use Rattle.card.specs.declared.Interpretation.TheVariants.{AsNo, AsYes}
use Rattle.card.specs.Layout.{record_size, kind_bytes, records_from}
use Rattle.rule.specs.Condition.{Join, Apply, Rule, parts}
use Rattle.rule.specs.declared.Truth.{Truth}
use Rattle.rule.specs.declared.Truth.TheVariants.{False, Unknown, True}
use Rattle.rule.specs.declared.Unary.{Unary}
use Rattle.rule.specs.Names.{most_parts}
use Rattle.names.specs.declared.RulePart.{RulePart}
use Rattle.parts.specs.Parts.{Stands}
use Rattle.translation.specs.Translation.{other_connective, other_quantifier, other_leaf, negated, card_of}
use Rattle.entries.specs.declared.Under.{Under}

-- ---- the card of a rule, false- or true-interpreted, and negated or not; and the card around a rule, by what the part around it says

abbrev pub leaf_as : Bool → Leaf → Leaf
leaf_as negate x = cond negate (other_leaf x) x

unfoldable pub card_as : Bool → Interpretation → Rule → Card
card_as false i r = card_of i r
card_as true i r = negated (card_of i r)

abbrev pub pair_as : Bool → Card → Card → Card
pair_as negate a b = PairEntry (cond negate (other_connective And) And) a b

-- NOT and the truth tests of it
abbrev pub unary_as : Unary → Bool → Interpretation → Rule → Card
unary_as u negate i a = card_as negate i (Apply u a)

-- IS TRUE, IS FALSE and IS UNKNOWN of it
abbrev pub truth_as : Truth → Bool → Rule → Card
truth_as True negate a = card_as negate AsNo a
truth_as False negate a = card_as (not negate) AsYes a
truth_as Unknown negate a = pair_as negate (card_as (not negate) AsNo a) (card_as negate AsYes a)

-- EXISTS of rows of a table, of which it is the WHERE
abbrev pub exists_as : ℕ → Bool → Rule → Card
exists_as t negate w = RowEntry (cond negate (other_quantifier Some) Some) t (card_as negate AsNo w)

abbrev pub asks_every : Quantifier → Bool
asks_every Some = false
asks_every All = true

-- a list, of which it is the WHERE, with the entry of its comparison; ALL negates the WHERE
abbrev pub listed_as : Quantifier → ℕ → Leaf → Rule → Card
listed_as q t x w = RowEntry q t (pair_as (asks_every q) (card_as (asks_every q) AsNo w) (LeafEntry x))

-- ---- what writing asks, and gives: for whatever rule the parts are of

-- there is room for so many entries from number k on
pub record Room (records : List ℕ) (k n : ℕ) : Type 0 where
  pub kinds_fit : k + n ≤ most_entries
  pub records_fit : record_size * (k + n) ≤ length records

-- the entries of a card are written
pub record Wrote (k : ℕ) (c : Card) (kinds records kinds' records' : List ℕ) (r : ℕ) : Type 0 where
  pub next : r ≡ k + entries c
  pub kinds_are : kinds' ≡ placed kinds k (kind_bytes c)
  pub records_are : records' ≡ placed records (record_size * k) (records_from k c)

-- the parts from number s on are those of a rule
pub record Standing (p : List RulePart) (s : ℕ) : Type 0 where
  pub rule : Rule
  pub stands : Stands p s rule
  pub within : s + parts rule ≤ most_parts

-- and there is room for the entries of the card that is made of it
pub record Writable (card : Rule → Card) (p : List RulePart) (s : ℕ) (records : List ℕ) (k : ℕ) : Type 0 where
  pub at : Standing p s
  pub room : Room records k (entries (card at.rule))

abbrev pub WroteTo : (card : Rule → Card) (p : List RulePart) (s : ℕ) (kinds records kinds' records' : List ℕ) (k : ℕ) → ℕ → Type 0
WroteTo card p s kinds records kinds' records' k r = (h : Writable card p s records k) → Wrote k (card h.at.rule) kinds records kinds' records' r

-- the same of two rules in one pair, each negated or not, and in one interpretation
abbrev pub part_under : ℕ → Bool → Interpretation → Under
part_under part negate i = record { part = part; negate = negate; interpretation = i }

abbrev pub card_under : (u : Under) → Rule → Card
card_under u r = card_as u.negate u.interpretation r

pub record PairWritable (p : List RulePart) (j : Connective) (left right : Under) (records : List ℕ) (k : ℕ) : Type 0 where
  pub left_at : Standing p left.part
  pub right_at : Standing p right.part
  pub order : left.part ≤ right.part
  pub room : Room records k (entries (PairEntry j (card_under left left_at.rule) (card_under right right_at.rule)))

abbrev pub PairWroteTo : (p : List RulePart) (j : Connective) (left right : Under) (kinds records kinds' records' : List ℕ) (k : ℕ) → ℕ → Type 0
PairWroteTo p j left right kinds records kinds' records' k r =
    (h : PairWritable p j left right records k)
    → Wrote k (PairEntry j (card_under left h.left_at.rule) (card_under right h.right_at.rule)) kinds records kinds' records' r

-- and of two rules, one behind the other, in an AND or an OR
pub record JoinWritable (j : Connective) (negate : Bool) (i : Interpretation) (p : List RulePart) (s : ℕ) (records : List ℕ) (k : ℕ) : Type 0 where
  pub left_at : Standing p s
  pub right_at : Standing p (s + parts left_at.rule)
  pub room : Room records k (entries (card_as negate i (Join j left_at.rule right_at.rule)))

abbrev pub JoinWroteTo : (j : Connective) (negate : Bool) (i : Interpretation) (p : List RulePart) (s : ℕ) (kinds records kinds' records' : List ℕ) (k : ℕ) → ℕ → Type 0
JoinWroteTo j negate i p s kinds records kinds' records' k r =
    (h : JoinWritable j negate i p s records k) → Wrote k (card_as negate i (Join j h.left_at.rule h.right_at.rule)) kinds records kinds' records' r

-- under NOTs there stands a rule whose card, negated or not and in one interpretation, is that of the rule around it
pub record SameUnder (p : List RulePart) (u : Under) (c : Card) : Type 0 where
  pub at : Standing p u.part
  pub card_is : c ≡ card_under u at.rule

pub record StandsUnder (p : List RulePart) (s : ℕ) (negate : Bool) (i : Interpretation) (u : Under) : Type 0 where
  pub behind : s ≤ u.part
  pub same : (h : Standing p s) → SameUnder p u (card_as negate i h.rule)
