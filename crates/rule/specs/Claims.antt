-- What proofs/ shows of these definitions.
use Rattle.std.specs.Prelude.{◌≡◌, true, false, ◌↔◌, ◌⊎◌, ℕ, ◌+◌, ◌-◌, ◌≤◌, ◌<◌, min, max, ℤ, pos, length, get_or, drop}
use mathlib.Core.List.{List, [], ◌∷◌, ◌++◌, map, Memᴰ}
use Rattle.std.proofs.Math.Option.{none, some}
use Rattle.tables.specs.Tables.{Cell, Declined, Tables, sizes_fit, marks_fit, columns_of, row_count, tables_of}
use Rattle.tables.specs.Refusals.{Refused, Given, numbers, first_applying, lend_refusals}
use Rattle.tables.specs.Values.{Env, most_entries, judged_levels}
use Rattle.tables.specs.declared.Value.{Value}
use Rattle.tables.specs.declared.Value.TheVariants.{Constant, Column}
use Rattle.tables.specs.declared.Comparison.{Comparison}
use Rattle.tables.specs.declared.Connective.{Connective}
use Rattle.tables.specs.declared.Connective.TheVariants.{And, Or}
use Rattle.tables.specs.declared.MarkTest.{MarkTest}
use Rattle.tables.specs.declared.MarkTest.TheVariants.{Null, NotNull, IsDeclined, NotDeclined}
use Rattle.tables.specs.Claims.{as_blank, tables_as_blank}
use Rattle.rule.specs.Tokens.{tokens_of, opens_fit}
use Rattle.rule.specs.Truth.{truth_number, is_unknown, not3, and3, or3, join3, deciding}
use Rattle.rule.specs.declared.Truth.{Truth}
use Rattle.rule.specs.declared.Truth.TheVariants.{False, Unknown, True}
use Rattle.rule.specs.Condition.{Atom, Join, Apply, WrittenCondition, Rule, parts, froms_deep}
use Rattle.rule.specs.declared.Test.TheVariants.{Compare, Mark}
use Rattle.rule.specs.declared.Unary.TheVariants.{Not, Is, IsNot}
use Rattle.rule.specs.Grammar.{Tokens, Reads}
use Rattle.rule.specs.Reader.{read_all}
use Rattle.rule.specs.Names.{most_parts, most_froms, outermost, rule_in, Fits, Scoped}
use Rattle.rule.specs.Parts.{tagged_of, parts_from, parts_of, rule_of_parts, asks_declined}
use Rattle.rule.specs.Sum.{entry_sum, published_sum}
use Rattle.rule.specs.declared.Part.{Part}
use Rattle.rule.specs.Meaning.{compare3, test3, unary3, meaning, judged}
use Rattle.rule.specs.Calls.{most_bytes, rule_of, reading_refusals, Accepted, read_call, judge_refusals, judge_call, read_order, judge_order}
use Rattle.rule.specs.Cases.{truth_tests, truth_values, truth_test_table, mark_tests, marked_cells, mark_test_table, not_table, and_table, or_table, cases, judged_at, expected_at, test_cases, declined_cases, declined_at, unused, part_by, parts_cases, parts_read, parts_given, every_word, every_token, edges, refusal_at}

-- the reader finds a reading exactly when the grammar has one, and no tokens have two
pub record ReadingClaim : Type 0 where
  pub finds : (ts : Tokens) (a : WrittenCondition) → Reads ts a → read_all ts ≡ some a
  pub finds_only : (ts : Tokens) (a : WrittenCondition) → read_all ts ≡ some a → Reads ts a
  pub finds_none : (ts : Tokens) → read_all ts ≡ none → (a : WrittenCondition) → ¬ Reads ts a
  pub single : (ts : Tokens) (a b : WrittenCondition) → Reads ts a → Reads ts b → a ≡ b

-- demand 2, first half: a text is a rule just when grammar, names and limits allow it. What the refusals 1 to 8 leave, with the tables of a file:
pub record UpToNames (text file : List ℕ) : Type 0 where
  pub tables_sized : sizes_fit file ≡ true
  pub tables_marked : marks_fit file ≡ true
  pub short : length text ≤ most_bytes
  pub tokens : Tokens
  pub are_tokens : tokens_of text ≡ some tokens
  pub brackets : opens_fit (pos 0) tokens ≡ true
  pub condition : WrittenCondition
  pub reads : Reads tokens condition
  pub few_parts : parts condition ≤ most_parts
  pub few_froms : froms_deep condition ≤ most_froms
  pub rule : Rule
  pub names : rule_in (columns_of file) outermost condition ≡ some rule

-- and of these what is allowed: the sum is at most 192
pub record Allowed (text file : List ℕ) : Type 0 where
  pub up_to_names : UpToNames text file
  pub few_entries : entry_sum up_to_names.rule ≤ most_entries

abbrev pub AcceptedClaim : Type 0
AcceptedClaim = (text file : List ℕ) → Accepted text file ↔ Allowed text file

-- 13 is given exactly when none of 1 to 8 applies and the sum is over 192
pub record TooManyEntries (text file : List ℕ) : Type 0 where
  pub up_to_names : UpToNames text file
  pub many_entries : most_entries < entry_sum up_to_names.rule

abbrev pub ManyEntriesClaim : Type 0
ManyEntriesClaim = (text file : List ℕ) → (first_applying (reading_refusals text file) ≡ some 13) ↔ TooManyEntries text file

-- an accepted text is a rule: what it names exists, it keeps to the limits, its card has no more entries than a card may have (SumClaim of the crate
-- translation says that `entry_sum` counts them), it has one record for each part, and it can be had back from them
pub record AcceptedAs (text file : List ℕ) : Type 0 where
  pub rule : Rule
  pub is_rule : rule_of text (columns_of file) ≡ some rule
  pub fits : Fits (columns_of file) judged_levels rule
  pub scoped : Scoped 1 rule
  pub few_parts : parts rule ≤ most_parts
  pub few_froms : froms_deep rule ≤ most_froms
  pub few_entries : entry_sum rule ≤ most_entries
  pub records : length (parts_of rule) ≡ parts rule
  pub back : rule_of_parts (parts_of rule) ≡ some rule

abbrev pub PartsClaim : Type 0
PartsClaim = (text file : List ℕ) → Accepted text file → AcceptedAs text file

-- the end of a rule's first part, which has the number k, is the number of the first part behind all of them; by the definition of
-- `parts_from` inner parts are the parts of inner rules, numbered on from k + 1
abbrev pub EndsClaim : Type 0
EndsClaim = (r : Rule) (k : ℕ) (d : Part) → (get_or (parts_from k r) 0 d).end ≡ k + length (parts_from k r)

-- the number of entries is the sum that is published: document 01's, counted over the kinds of the rule's parts, and what document 02, Point 1, adds to it
abbrev pub PublishedSumClaim : Type 0
PublishedSumClaim = (r : Rule) → entry_sum r ≡ published_sum r

-- NOT, AND and OR by Meaning, on each value and each pair, are those of the tables; no arithmetic is in this, so that the next claim compares two things
pub record ConnectivesClaim : Type 0 where
  pub not_table_lem : map not3 truth_values ≡ not_table
  pub and_table_lem : map (λ a. map (and3 a) truth_values) truth_values ≡ and_table
  pub or_table_lem : map (λ a. map (or3 a) truth_values) truth_values ≡ or_table

-- document 02, Point 3: arithmetic is 'proved, for each value and pair, to be what document 01's Meaning gives'
pub record ArithmeticClaim : Type 0 where
  -- 'false, unknown, true as 0, 1, 2'
  pub numbers_are : map truth_number (False ∷ Unknown ∷ True ∷ []) ≡ 0 ∷ 1 ∷ 2 ∷ []
  -- 'NOT is 2 minus the value, and the other two are the smaller and the greater'
  pub not_is : (a : Truth) → truth_number (not3 a) ≡ 2 - truth_number a
  pub and_is : (a b : Truth) → truth_number (and3 a b) ≡ min (truth_number a) (truth_number b)
  pub or_is : (a b : Truth) → truth_number (or3 a b) ≡ max (truth_number a) (truth_number b)
  -- where one side decides, both come to its value, whatever the other one is; so the other need not be evaluated
  pub left_decides : (j : Connective) (b : Truth) → join3 j (deciding j) b ≡ deciding j
  pub right_decides : (j : Connective) (a : Truth) → join3 j a (deciding j) ≡ deciding j

-- and so of every condition that has NOT, AND or OR outermost, whatever the tables hold and at whatever rows
pub record RuleArithmeticClaim : Type 0 where
  pub not_meant : (ts : Tables) (env : Env) (a : Rule) → truth_number (meaning ts env (Apply Not a)) ≡ 2 - truth_number (meaning ts env a)
  pub and_meant : (ts : Tables) (env : Env) (a b : Rule)
      → truth_number (meaning ts env (Join And a b)) ≡ min (truth_number (meaning ts env a)) (truth_number (meaning ts env b))
  pub or_meant : (ts : Tables) (env : Env) (a b : Rule)
      → truth_number (meaning ts env (Join Or a b)) ≡ max (truth_number (meaning ts env a)) (truth_number (meaning ts env b))

-- the six truth tests on each of the three values, by SQL-92; and their outcome is never unknown
pub record TruthTestsClaim : Type 0 where
  pub table : map (λ u. map (unary3 u) truth_values) truth_tests ≡ truth_test_table
  pub is_known : (t a : Truth) → is_unknown (unary3 (Is t) a) ≡ false
  pub is_not_known : (t a : Truth) → is_unknown (unary3 (IsNot t) a) ≡ false

-- document 02, Point 4: the four tests by the mark on each sort of cell; and of whatever value at whatever rows
pub record MarkTestsClaim : Type 0 where
  pub table : map (λ m. map (λ x. test3 ((x ∷ []) ∷ []) (Mark m (Column 0 1))) marked_cells) mark_tests ≡ mark_test_table
  -- they are 'true or false by the mark', never unknown
  pub known : (env : Env) (m : MarkTest) (l : Value) → is_unknown (test3 env (Mark m l)) ≡ false
  -- IS NOT DECLINED is NOT of IS DECLINED, and IS NOT NULL of IS NULL
  pub negated : (env : Env) (l : Value) → test3 env (Mark NotDeclined l) ≡ not3 (test3 env (Mark IsDeclined l))
  pub null_negated : (env : Env) (l : Value) → test3 env (Mark NotNull l) ≡ not3 (test3 env (Mark Null l))
  -- 'a number is never declined', nor blank
  pub number : (env : Env) (k : ℤ) → test3 env (Mark IsDeclined (Constant k)) ≡ False
  pub number_blank : (env : Env) (k : ℤ) → test3 env (Mark Null (Constant k)) ≡ False
  -- what is declined is blank, 'IS NULL included', and a comparison with it is unknown
  pub blank : (env : Env) (l : Value) → test3 env (Mark IsDeclined l) ≡ True → test3 env (Mark Null l) ≡ True
  pub left_declined : (op : Comparison) (y : Cell) → compare3 op Declined y ≡ Unknown
  pub right_declined : (op : Comparison) (x : Cell) → compare3 op x Declined ≡ Unknown
  pub left_unknown : (env : Env) (op : Comparison) (l r : Value) → test3 env (Mark IsDeclined l) ≡ True → test3 env (Compare op l r) ≡ Unknown
  pub right_unknown : (env : Env) (op : Comparison) (l r : Value) → test3 env (Mark IsDeclined r) ≡ True → test3 env (Compare op l r) ≡ Unknown

-- the parts of IS DECLINED and IS NOT DECLINED: 'the parts get kinds 16 and 17', and use the left value alone
pub record DeclinedPartsClaim : Type 0 where
  pub declined : (l : Value) → parts_of (Atom (Mark IsDeclined l)) ≡ part_by 16 0 0 1 (tagged_of l) unused ∷ []
  pub not_declined : (l : Value) → parts_of (Atom (Mark NotDeclined l)) ≡ part_by 17 0 0 1 (tagged_of l) unused ∷ []

-- a rule asks whether cells are declined exactly where one of its parts has kind 16 or kind 17
abbrev pub AsksClaim : Type 0
AsksClaim = (r : Rule) → (asks_declined r ≡ true) ↔ (Memᴰ 16 (map (λ p. p.kind) (parts_of r)) ⊎ Memᴰ 17 (map (λ p. p.kind) (parts_of r)))

-- declined 'is blank in every respect': a rule without parts of kinds 16 and 17 has the same value when every declined cell is taken for a blank one, whatever the tables hold and
-- at whatever rows
abbrev pub DeclinedBlankClaim : Type 0
DeclinedBlankClaim = (ts : Tables) (env : Env) (r : Rule) → asks_declined r ≡ false → meaning ts env r ≡ meaning (tables_as_blank ts) (map (map as_blank) env) r

-- READ and JUDGE by cases: a refusal of reading is passed up unchanged, with the buffer as it was; of an accepted text, READ gives the parts
-- unless the buffer has fewer elements, and JUDGE the value unless table 1 has no such row
pub record CallsClaim : Type 0 where
  pub read_refused : (text file : List ℕ) (buffer : List Part) (n : ℕ) → first_applying (reading_refusals text file) ≡ some n
      → read_call text file buffer ≡ record { result = Refused n; buffer = buffer }
  pub read_short : (text file : List ℕ) (buffer : List Part) → Accepted text file → (r : Rule) → rule_of text (columns_of file) ≡ some r
      → length buffer < parts r → read_call text file buffer ≡ record { result = Refused 12; buffer = buffer }
  pub read_given : (text file : List ℕ) (buffer : List Part) → Accepted text file → (r : Rule) → rule_of text (columns_of file) ≡ some r
      → parts r ≤ length buffer → read_call text file buffer ≡ record { result = Given (parts r); buffer = parts_of r ++ drop (parts r) buffer }
  pub judge_refused : (text file : List ℕ) (row n : ℕ) → first_applying (reading_refusals text file) ≡ some n → judge_call text file row ≡ Refused n
  pub judge_no_row : (text file : List ℕ) (row : ℕ) → Accepted text file → row_count file 1 ≤ row → judge_call text file row ≡ Refused 11
  pub judge_given : (text file : List ℕ) (row : ℕ) → Accepted text file → (r : Rule) → rule_of text (columns_of file) ≡ some r
      → row < row_count file 1 → judge_call text file row ≡ Given (judged (tables_of file) row r)

-- READ and JUDGE try their refusals in the published order, whatever they are given, and so the first in that order is given (FirstClaim of the
-- crate tables)
pub record OrderClaim : Type 0 where
  pub reading : (text file : List ℕ) (answer buffer : List Part) → numbers (lend_refusals (reading_refusals text file) answer buffer) ≡ read_order
  pub judging : (text file : List ℕ) (row : ℕ) → numbers (judge_refusals text file row) ≡ judge_order

-- cases 1 to 12, together
abbrev pub CasesClaim : Type 0
CasesClaim = map judged_at cases ≡ map expected_at cases

-- READ with room for two parts more than each rule has: its parts, their number, and the two last elements untouched
abbrev pub PartsCasesClaim : Type 0
PartsCasesClaim = map parts_read parts_cases ≡ map parts_given parts_cases

-- comparisons at less, equal and greater, negative numbers, blanks, precedence, AND and OR of each pair, and truth tests
abbrev pub TestsClaim : Type 0
TestsClaim = map judged_at test_cases ≡ map expected_at test_cases

-- a number, a blank and a declined cell, tested and compared
abbrev pub DeclinedTestsClaim : Type 0
DeclinedTestsClaim = map declined_at declined_cases ≡ map expected_at declined_cases

-- the words and signs, as they are numbered
abbrev pub WordsClaim : Type 0
WordsClaim = tokens_of every_word ≡ some every_token

-- the texts at the edges of the refusals, together
abbrev pub EdgesClaim : Type 0
EdgesClaim = map refusal_at edges ≡ map (λ e. e.refusal) edges
