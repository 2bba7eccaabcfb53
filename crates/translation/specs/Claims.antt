-- What proofs/ shows of these definitions.
use Rattle.std.specs.Prelude.{◌≡◌, Bool, true, false, not, ℕ, ◌<◌, ◌≤◌, eqb, length, replicate}
use mathlib.Core.List.{List, [], ◌∷◌, ◌++◌, map, IsChain}
use Rattle.std.proofs.Math.Option.{Option, none, some}
use Rattle.tables.specs.Lists.{keep}
use Rattle.tables.specs.Tables.{Tables, most_rows, columns_of}
use Rattle.tables.specs.Claims.{BlanksDiffer, DeclinedDiffer}
use Rattle.tables.specs.Values.{Env}
use Rattle.tables.specs.declared.Value.{Value}
use Rattle.tables.specs.declared.MarkTest.{MarkTest}
use Rattle.tables.specs.declared.MarkTest.TheVariants.{IsDeclined, NotDeclined}
use Rattle.tables.specs.Refusals.{Refused, Given, numbers, first_applying, lend_refusals}
use Rattle.tables.specs.Exports.{is_given, ZeroIsSuccess}
use Rattle.card.specs.Card.{Card, LeafEntry, answer, entries}
use Rattle.card.specs.declared.Leaf.TheVariants.{MarkLeaf}
use Rattle.card.specs.declared.Interpretation.{Interpretation}
use Rattle.card.specs.declared.Interpretation.TheVariants.{AsNo, AsYes}
use Rattle.card.specs.Layout.{value_bytes, field_bytes, kind_bytes, asks_declined, card_from}
use Rattle.card.specs.declared.Head.TheVariants.{LeafHead}
use Rattle.card.specs.Sound.{most_card_bytes}
use Rattle.card.specs.Calls.{gate_refusals, check_order, run_order, list_order, check_call, run_call, list_call}
use Rattle.card.specs.Cases.{worked_card}
use Rattle.rule.specs.Cases.{case_tables}
use Rattle.rule.specs.Condition.{Atom, Apply, Rule}
use Rattle.rule.specs.declared.Test.TheVariants.{Mark}
use Rattle.rule.specs.declared.Unary.TheVariants.{Not, Is, IsNot}
use Rattle.rule.specs.declared.Part.{Part}
use Rattle.rule.specs.Names.{most_parts, Scoped}
use Rattle.rule.specs.Parts.{asks_declined as parts_ask_declined}
use Rattle.rule.specs.Sum.{entry_sum}
use Rattle.rule.specs.Calls.{rule_of, reading_refusals, read_order, judge_order, Accepted, with_rule, read_call, judge_call, admit_call}
use Rattle.rule.specs.Truth.{is_true, is_false}
use Rattle.rule.specs.declared.Truth.{Truth}
use Rattle.rule.specs.Meaning.{meaning}
use Rattle.translation.specs.Translation.{negated, card_of, rule_card}
use Rattle.translation.specs.Calls.{card_call, card_order}
use Rattle.translation.specs.Demand3.{Later, Demand3For}
use Rattle.translation.specs.Cases.{worked_text, worked_tables, full_text, full_card, unknown_text, unknown_bytes, truth_text, truth_bytes, declined_text, not_declined_text, mark_card, both_text, both_bytes, later_tables, third_card, refusal_examples, refusal_numbers}

-- for every rule whose levels exist, all tables and rows: false-interpreted, the card says yes exactly where the rule is true;
-- true-interpreted, it says no exactly where the rule is false; and negating any card negates its answer
pub record TranslationClaim : Type 0 where
  pub yes_is_true : (ts : Tables) (env : Env) (r : Rule) → Scoped (length env) r → answer ts env (card_of AsNo r) ≡ is_true (meaning ts env r)
  pub no_is_false : (ts : Tables) (env : Env) (r : Rule) → Scoped (length env) r → not (answer ts env (card_of AsYes r)) ≡ is_false (meaning ts env r)
  pub negates : (ts : Tables) (env : Env) (c : Card) → answer ts env (negated c) ≡ not (answer ts env c)

-- the truth tests' cards: the same in either interpretation around them; and of IS NOT the negated card of IS, with each of the three words
pub record TruthCardsClaim : Type 0 where
  pub either : (t : Truth) (i i' : Interpretation) (a : Rule) → card_of i (Apply (Is t) a) ≡ card_of i' (Apply (Is t) a)
  pub negation : (t : Truth) (i : Interpretation) (a : Rule) → card_of i (Apply (IsNot t) a) ≡ negated (card_of i (Apply (Is t) a))

-- document 02, Point 4: the cards of tests by the mark have one entry, the same in either interpretation. Those of IS DECLINED and IS NOT DECLINED have kind 9 or 10, 'use the left value as
-- 7 and 8 do', and NOT swaps them; and such an entry is in a rule's card just where the rule has a part of kind 16 or 17
pub record DeclinedCardsClaim : Type 0 where
  pub entry : (m : MarkTest) (i : Interpretation) (l : Value) → card_of i (Atom (Mark m l)) ≡ LeafEntry (MarkLeaf m l)
  pub uses_left : (m : MarkTest) (l : Value) → field_bytes (LeafHead (MarkLeaf m l)) ≡ 0 ∷ 0 ∷ value_bytes l ++ replicate 5 0
  pub declined : (i : Interpretation) (l : Value) → kind_bytes (card_of i (Atom (Mark IsDeclined l))) ≡ 9 ∷ []
  pub not_declined : (i : Interpretation) (l : Value) → kind_bytes (card_of i (Atom (Mark NotDeclined l))) ≡ 10 ∷ []
  pub swaps : (i : Interpretation) (l : Value) → card_of i (Apply Not (Atom (Mark IsDeclined l))) ≡ card_of i (Atom (Mark NotDeclined l))
  pub swaps_back : (i : Interpretation) (l : Value) → card_of i (Apply Not (Atom (Mark NotDeclined l))) ≡ card_of i (Atom (Mark IsDeclined l))
  pub asks : (i : Interpretation) (r : Rule) → asks_declined (card_of i r) ≡ parts_ask_declined r

-- the number of a card's entries is what the rule's own definitions count, which is the published sum (PublishedSumClaim of the crate rule)
abbrev pub SumClaim : Type 0
SumClaim = (r : Rule) → entries (rule_card r) ≡ entry_sum r

-- the worked card, in a buffer of two bytes more: its 19 bytes, their number, and the two last bytes untouched
abbrev pub WorkedCardClaim : Type 0
WorkedCardClaim = card_call worked_text worked_tables (replicate 21 7) ≡ record { result = Given 19; buffer = worked_card ++ (7 ∷ 7 ∷ []) }

-- a card with each of the kinds 1 to 8; 3 + 3 + 15 × 16 bytes
abbrev pub FullCardClaim : Type 0
FullCardClaim = card_call full_text case_tables (replicate 246 7) ≡ record { result = Given 246; buffer = full_card }

-- the card of IS UNKNOWN around one comparison, 3 + 1 + 15 × 3 bytes; and a card with every truth test, 3 + 3 + 15 × 11 bytes
pub record WorkedTruthCardsClaim : Type 0 where
  pub unknown : card_call unknown_text worked_tables (replicate 49 7) ≡ record { result = Given 49; buffer = unknown_bytes }
  pub every : card_call truth_text case_tables (replicate 171 7) ≡ record { result = Given 171; buffer = truth_bytes }

-- the cards of IS DECLINED and of NOT before it, 3 + 1 + 15 × 1 bytes; and one with both kinds, 3 + 1 + 15 × 5 bytes
pub record WorkedDeclinedCardsClaim : Type 0 where
  pub declined : card_call declined_text worked_tables (replicate 20 7) ≡ record { result = Given 19; buffer = mark_card 9 ++ (7 ∷ []) }
  pub not_declined : card_call not_declined_text worked_tables (replicate 20 7) ≡ record { result = Given 19; buffer = mark_card 10 ++ (7 ∷ []) }
  pub both : card_call both_text worked_tables (replicate 79 7) ≡ record { result = Given 79; buffer = both_bytes }

-- case 3 through RUN and LIST: with room for three rows, for two and for one
pub record GateCaseClaim : Type 0 where
  pub runs : map (run_call third_card case_tables) (0 ∷ 1 ∷ 2 ∷ 3 ∷ []) ≡ Given true ∷ Given false ∷ Given true ∷ Refused 11 ∷ []
  pub lists_3 : list_call third_card case_tables (9 ∷ 9 ∷ 9 ∷ []) ≡ record { result = Given 2; buffer = 0 ∷ 2 ∷ 9 ∷ [] }
  pub lists_2 : list_call third_card case_tables (9 ∷ 9 ∷ []) ≡ record { result = Given 2; buffer = 0 ∷ 2 ∷ [] }
  pub lists_1 : list_call third_card case_tables (9 ∷ []) ≡ record { result = Refused 12; buffer = 9 ∷ [] }

-- the examples of the refusal table, together
abbrev pub RefusalsClaim : Type 0
RefusalsClaim = refusal_examples ≡ refusal_numbers

-- 'the value bytes of a blank cell may be anything and affect no answer', nor do those of a declined one: with two files that differ in such bytes alone, every call of document 01 answers the
-- same, and leaves the same in every lent buffer
pub record SameAnswers (file other : List ℕ) : Type 0 where
  pub read : (text : List ℕ) (buffer : List Part) → read_call text file buffer ≡ read_call text other buffer
  pub judge : (text : List ℕ) (row : ℕ) → judge_call text file row ≡ judge_call text other row
  pub card : (text buffer : List ℕ) → card_call text file buffer ≡ card_call text other buffer
  pub run : (card : List ℕ) (row : ℕ) → run_call card file row ≡ run_call card other row
  pub list : (card buffer : List ℕ) → list_call card file buffer ≡ list_call card other buffer
  pub admit : (text buffer : List ℕ) → admit_call text file buffer ≡ admit_call text other buffer

abbrev pub BlanksClaim : Type 0
BlanksClaim = (file other : List ℕ) → BlanksDiffer file other → SameAnswers file other

-- document 02, Point 4: declined 'is blank in every respect'. Whether the rule that a text is, if it is one, has a part of kind 16 or 17; and whether the card that some bytes hold, if they
-- hold one, has an entry of kind 9 or 10
abbrev pub text_asks_declined : List ℕ → List ℕ → Bool
text_asks_declined text file = with_rule (rule_of text (columns_of file)) false parts_ask_declined

abbrev pub held_asks_declined : Option Card → Bool
held_asks_declined none = false
held_asks_declined (some c) = asks_declined c

abbrev pub bytes_ask_declined : List ℕ → Bool
bytes_ask_declined card = held_asks_declined (card_from card)

-- with two files that are the same but for marks 1 in the place of marks 2, or the other way round, anywhere, and for the value bytes below such marks, every call of document 01 answers the same and leaves the same in every lent
-- buffer: READ and CARD whatever the text is, the others where nothing asks whether cells are declined
pub record SameUnlessAsked (file other : List ℕ) : Type 0 where
  pub read : (text : List ℕ) (buffer : List Part) → read_call text file buffer ≡ read_call text other buffer
  pub card : (text buffer : List ℕ) → card_call text file buffer ≡ card_call text other buffer
  pub judge : (text : List ℕ) (row : ℕ) → text_asks_declined text file ≡ false → judge_call text file row ≡ judge_call text other row
  pub admit : (text buffer : List ℕ) → text_asks_declined text file ≡ false → admit_call text file buffer ≡ admit_call text other buffer
  pub run : (card : List ℕ) (row : ℕ) → bytes_ask_declined card ≡ false → run_call card file row ≡ run_call card other row
  pub list : (card buffer : List ℕ) → bytes_ask_declined card ≡ false → list_call card file buffer ≡ list_call card other buffer

abbrev pub DeclinedClaim : Type 0
DeclinedClaim = (file other : List ℕ) → DeclinedDiffer file other → SameUnlessAsked file other

-- CARD passes a refusal of reading up unchanged, with the buffer as it was
abbrev pub CardRefusedClaim : Type 0
CardRefusedClaim = (text file buffer : List ℕ) (n : ℕ) → first_applying (reading_refusals text file) ≡ some n
    → card_call text file buffer ≡ record { result = Refused n; buffer = buffer }

-- CARD tries its refusals in the published order, whatever it is given, and so the first in that order is given (FirstClaim of the crate tables)
abbrev pub OrderClaim : Type 0
OrderClaim = (text file answer buffer : List ℕ) → numbers (lend_refusals (reading_refusals text file) answer buffer) ≡ card_order

-- an order with 13 left out
abbrev pub without13 : List ℕ → List ℕ
without13 ns = keep (λ n. not (eqb n 13)) ns

-- the published orders of CHECK, RUN and LIST rise, and so the first that applies is the lowest (LowestClaim of the crate tables); those of READ, JUDGE and
-- CARD do but for 13, which comes before 11 and 12
pub record RisingClaim : Type 0 where
  pub reading : IsChain ◌<◌ (without13 read_order)
  pub judging : IsChain ◌<◌ (without13 judge_order)
  pub making : IsChain ◌<◌ (without13 card_order)
  pub checking : IsChain ◌<◌ check_order
  pub running : IsChain ◌<◌ run_order
  pub listing : IsChain ◌<◌ list_order

-- other row counts, values and marks make a later file: the tables of the proved cases, and three with one, no and two rows
abbrev pub LaterCaseClaim : Type 0
LaterCaseClaim = Later case_tables later_tables

-- what demand 3 compares, whole: one claim over all rules, files, rows and lent buffers
abbrev pub Demand3Claim : Type 0
Demand3Claim = (text file : List ℕ) → Accepted text file → Demand3For text file

-- with so much room as include/roskudla.h names, a call that lends gives its answer where nothing else refuses it: 64 parts, 2,891 bytes of a card, 1,000 rows
pub record RoomClaim : Type 0 where
  pub numbers : (most_parts ≡ 64) × (most_card_bytes ≡ 2891) × (most_rows ≡ 1000)
  pub reading : (text file : List ℕ) (parts : List Part) → Accepted text file → most_parts ≤ length parts → is_given (read_call text file parts).result ≡ true
  pub making : (text file card : List ℕ) → Accepted text file → most_card_bytes ≤ length card → is_given (card_call text file card).result ≡ true
  pub listing : (card file rows : List ℕ) → first_applying (gate_refusals card file) ≡ none → most_rows ≤ length rows → is_given (list_call card file rows).result ≡ true

-- each of the six calls of document 01: 0 is returned only where there is an answer
pub record StatusClaim : Type 0 where
  pub reading : (text file : List ℕ) (parts : List Part) → ZeroIsSuccess (read_call text file parts).result
  pub judging : (text file : List ℕ) (row : ℕ) → ZeroIsSuccess (judge_call text file row)
  pub making : (text file card : List ℕ) → ZeroIsSuccess (card_call text file card).result
  pub checking : (card : List ℕ) → ZeroIsSuccess (check_call card)
  pub running : (card file : List ℕ) (row : ℕ) → ZeroIsSuccess (run_call card file row)
  pub listing : (card file rows : List ℕ) → ZeroIsSuccess (list_call card file rows).result
