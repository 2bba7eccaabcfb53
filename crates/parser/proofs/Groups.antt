-- The refusals of reading in three groups, each of which is tried where none of those before it applies: tables, bytes and tokens.
use mathlib.Core.Path.{◌≡◌, refl, sym, ap, ◌∙◌}
use Rattle.std.specs.Prelude.{Ok, Err}
use mathlib.Core.Bool.{true, false}
use mathlib.Core.List.{List, [], ◌++◌}
use mathlib.Core.Option.{Option, none, some}
use Prim.Native.Nat.{ℕ, ◌≤◌, ◌<◌}
use native.Mathlib.Omega.{arith}
use borrow.Author.Tests.{lt-ltb, le-ltb, le-leb, lt-leb}
use lib.Dec.{ltb}
use lib.IntN.{pos}
use lib.ListN.{length, take}
use Rattle.tables.specs.Lists.{is_missing}
use Rattle.tables.specs.Tables.{columns_of}
use Rattle.tables.specs.Values.{most_entries}
use Rattle.tables.specs.Refusals.{first_applying, Refused, Given, tables_refusals, tables_call}
use Rattle.tables.proofs.Refusals.{first_nil, first_one, first_none, first_append, first_found, unless_none, unless_some}
use Rattle.cells.specs.Reasons.{reason_number}
use Rattle.cells.specs.Code.{Sized}
use Rattle.cells.specs.declared.Reason.{Reason}
use Rattle.cells.proofs.Valid.{tables_refuse, tables_pass, checked_sized}
use Rattle.rule.specs.Tokens.{tokens_of, opens_fit}
use Rattle.rule.specs.Condition.{WrittenCondition, Rule, parts, froms_deep}
use Rattle.rule.specs.declared.Head.{Head}
use Rattle.rule.specs.declared.WrittenValue.{WrittenValue}
use Rattle.rule.specs.declared.Source.{Source}
use Rattle.rule.specs.Grammar.{Tokens}
use Rattle.rule.specs.Reader.{read_all}
use Rattle.rule.specs.Names.{most_parts, most_froms, limits_fit, outermost, rule_in}
use Rattle.rule.specs.Calls.{most_bytes, condition_of, rule_of, text_refusals, tokens_refusals, reading_refusals, Accepted, with_rule}
use Rattle.rule.proofs.Accepted.{limits_of}
use Rattle.rule.proofs.Sum.{sum_fits_lem, sum_unfits}
use Rattle.grammar.specs.Code.{WholeReading}
use Rattle.names.specs.Code.{Nameable, NamedAt}
use Rattle.names.specs.declared.RulePart.{RulePart}
use Rattle.parts.specs.Code.{Capped, exact, over, Countable, CountedTo}
use Rattle.parts.proofs.Parts.{rule_stands}
use Rattle.parser.specs.Code.{TextReady, TokensParsing, TokensParsedTo, parsed_answer, parse_call, Parsing, ParsedTo}
use Rattle.parser.proofs.Sizes.{written_count}
use Rattle.parser.specs.declared.Parsed.{Parsed}
use Rattle.parser.specs.declared.Parsed.TheVariants.{Rule as ParsedRule, Refused as ParsedRefused}

-- ---- bytes: refusals 3 and 4

module _ (text : List ℕ) where
  too_long : most_bytes < length text → first_applying (text_refusals text) ≡ some 3
  too_long h = first_one 3 (ltb most_bytes (length text)) _ (lt-ltb most_bytes (length text) h)

  module _ (short : length text ≤ most_bytes) where
    short_enough : ltb most_bytes (length text) ≡ false
    short_enough = le-ltb most_bytes (length text) short

    no_tokens : tokens_of text ≡ none → first_applying (text_refusals text) ≡ some 4
    unfolding first_applying
    no_tokens e = rw (short_enough, e)

    scan_passes : (ts : Tokens) → tokens_of text ≡ some ts → first_applying (text_refusals text) ≡ none
    scan_passes ts e = first_none 3 _ _ short_enough (first_none 4 _ [] (ap is_missing e) first_nil)

-- ---- tokens: refusals 5 to 8, and 13

limits_count : (a : WrittenCondition) → most_parts < parts a → limits_fit a ≡ false
unfolding limits_fit
limits_count a h = rw (lt-leb (parts a) most_parts h)

limits_deep : (a : WrittenCondition) → parts a ≤ most_parts → most_froms < froms_deep a → limits_fit a ≡ false
unfolding limits_fit
limits_deep a h d = rw (le-leb (parts a) most_parts h, lt-leb (froms_deep a) most_froms d)

abbrev pub FirstOfTokens : Tokens → List ℕ → ℕ → Type 0
FirstOfTokens s file n = first_applying (tokens_refusals (columns_of file) (some s)) ≡ some n

module _ (s : Tokens) (file : List ℕ) where
  pub unfit_brackets : opens_fit (pos 0) s ≡ false → FirstOfTokens s file 5
  unfolding first_applying
  unfit_brackets b = rw b

  module _ (b : opens_fit (pos 0) s ≡ true) where
    pub ungrammatical : read_all s ≡ none → FirstOfTokens s file 6
    unfolding first_applying
    ungrammatical e = rw (b, e)

    module _ {notes : List (Head WrittenValue Source)} {n deep : ℕ} (w : WholeReading s notes n deep) where
      over_limits : limits_fit w.tree ≡ false → FirstOfTokens s file 7
      unfolding first_applying
      over_limits e = rw (b, w.reads, e)

      pub too_many : most_parts < n → FirstOfTokens s file 7
      too_many h = over_limits (limits_count w.tree (omega (arith, w.count)))

      pub too_deep : n ≤ most_parts → most_froms < deep → FirstOfTokens s file 7
      too_deep few h = over_limits (limits_deep w.tree (omega (arith, w.count)) (omega (arith, w.froms)))

-- a count within the limit is exact, and one over it is of more than the limit
few_counted : {r n : ℕ} → Capped r n → r ≤ most_entries → r ≡ n
few_counted (exact e) l = e
few_counted (over a b) l = absurd (omega arith)

many_counted : {r n : ℕ} → Capped r n → most_entries < r → most_entries < n
many_counted (exact e) l = omega arith
many_counted (over a b) l = b

-- the tokens read as a condition within the limits, whose notes are there, and whose names are still to be found
pub record Limited (s : Tokens) (file : List ℕ) (notes : List (Head WrittenValue Source)) (n deep : ℕ) : Type 0 where
  pub brackets : opens_fit (pos 0) s ≡ true
  pub sized : Sized file
  pub whole : WholeReading s notes n deep
  pub room : length notes ≡ most_parts
  pub few : n ≤ most_parts
  pub shallow : deep ≤ most_froms

pub limited : {s : Tokens} {file : List ℕ} {notes : List (Head WrittenValue Source)} {n deep : ℕ} → opens_fit (pos 0) s ≡ true → Sized file → WholeReading s notes n deep
    → length notes ≡ most_parts → n ≤ most_parts → deep ≤ most_froms → Limited s file notes n deep
limited b sized w room few shallow = record { brackets = b; sized = sized; whole = w; room = room; few = few; shallow = shallow }

module _ {s : Tokens} {file : List ℕ} {notes : List (Head WrittenValue Source)} {n deep : ℕ} (q : Limited s file notes n deep) where
  abbrev tree : WrittenCondition
  tree = q.whole.tree

  abbrev pub nameable : Nameable file notes n
  nameable =
      record {
        sized = q.sized;
        notes_room = omega (arith, q.room, q.few);
        few_notes = q.few;
        tree = tree;
        count = q.whole.count;
        shallow = omega (arith, q.whole.froms, q.shallow);
        notes_are = q.whole.notes q.few;
      }

  limits : limits_fit tree ≡ true
  limits = limits_of tree (omega (arith, q.whole.count, q.few)) (omega (arith, q.whole.froms, q.shallow))

  pub unnamed : ((h : Nameable file notes n) → rule_in (columns_of file) outermost h.tree ≡ none) → FirstOfTokens s file 8
  unfolding first_applying
  unnamed f = rw (q.brackets, q.whole.reads, limits, f nameable)

  -- the names are found: the first parts are those of the rule, whose entries can be counted
  module _ {new : List RulePart} (l : length new ≡ most_parts) (f : (h : Nameable file notes n) → NamedAt file h.tree n new) where
    is_named : NamedAt file tree n new
    is_named = f nameable

    has_count : n ≡ parts is_named.rule
    has_count = written_count new n is_named.rule (omega (arith, q.few)) is_named.written

    pub countable : Countable new 0 n
    countable =
        record {
          rule = is_named.rule;
          count = omega (arith, has_count);
          few = q.few;
          stands = rule_stands new is_named.rule (sym (ap (λ (k : ℕ). take k new) has_count) ∙ is_named.written);
        }

    -- and their number decides: there is a rule, or 13 applies
    module _ {m : ℕ} (c : CountedTo new 0 n m) where
      pub few_entries : m ≤ most_entries → TokensParsing s file new n m
      unfolding countable
      few_entries h =
          let sum = few_counted (c countable) h in
          record {
            brackets = q.brackets;
            tree = tree;
            reads = q.whole.reads;
            limits = limits;
            rule = is_named.rule;
            named = is_named.named;
            count = has_count;
            written = is_named.written;
            sum = sum;
            few_entries = omega arith;
          }

      pub many_entries : most_entries < m → FirstOfTokens s file 13
      unfolding first_applying countable
      many_entries h = rw (q.brackets, q.whole.reads, limits, is_named.named, sum_unfits is_named.rule (many_counted (c countable) h))

-- ---- all of them

module _ (text file : List ℕ) where
  in_groups : (ts : Tokens) → tokens_of text ≡ some ts → reading_refusals text file ≡ tables_refusals file ++ (text_refusals text ++ tokens_refusals (columns_of file) (some ts))
  unfolding reading_refusals condition_of
  in_groups ts e = rw e

  refused_first : {n : ℕ} → first_applying (reading_refusals text file) ≡ some n → Refused n ≡ parse_call text file
  unfolding parse_call
  refused_first e = sym (unless_some _ _ e)

  pub parse_tables : (x : Reason) → Refused (reason_number x) ≡ tables_call file → Refused (reason_number x) ≡ parse_call text file
  unfolding reading_refusals
  parse_tables x p = refused_first (first_found (tables_refusals file) _ (tables_refuse file (Err x) x refl p))

  module _ (pass : first_applying (tables_refusals file) ≡ none) where
    bytes_decide : {n : ℕ} → first_applying (text_refusals text) ≡ some n → Refused n ≡ parse_call text file
    unfolding reading_refusals
    bytes_decide f = refused_first (first_append (tables_refusals file) _ pass ∙ first_found (text_refusals text) _ f)

  -- tables that were found valid
  module _ (p : Given tt ≡ tables_call file) where
    pub parse_long : most_bytes < length text → Refused 3 ≡ parse_call text file
    parse_long h = bytes_decide (tables_pass file (Ok tt) refl p) (too_long text h)

    pub text_ready : length text ≤ most_bytes → TextReady text file
    text_ready short = record { short = short; sized = checked_sized file (Ok tt) refl p; tables_pass = tables_pass file (Ok tt) refl p }

  module _ (ready : TextReady text file) where
    pub parse_untokenized : tokens_of text ≡ none → Refused 4 ≡ parse_call text file
    parse_untokenized e = bytes_decide ready.tables_pass (no_tokens text ready.short e)

    module _ (s : Tokens) (are : tokens_of text ≡ some (s)) where
      tokens_decide : first_applying (reading_refusals text file) ≡ first_applying (tokens_refusals (columns_of file) (some s))
      tokens_decide =
          ap first_applying (in_groups _ are)
          ∙ first_append (tables_refusals file) _ ready.tables_pass
          ∙ first_append (text_refusals text) _ (scan_passes text ready.short _ are)

      module _ {written : List RulePart} {n m : ℕ} (q : TokensParsing s file written n m) where
        accepted : Accepted text file
        unfolding first_applying
        accepted = tokens_decide ∙ rw (q.brackets, q.reads, q.limits, q.named, sum_fits_lem q.rule q.few_entries)

        is_rule : rule_of text (columns_of file) ≡ some q.rule
        unfolding rule_of condition_of
        is_rule = rw (are, q.reads, q.named)

        parsing : Parsing text file written n m
        parsing = record { accepted = accepted; rule = q.rule; is_rule = is_rule; count = q.count; written = q.written; sum = q.sum }

        parse_given : Given n ≡ parse_call text file
        unfolding parse_call
        parse_given = ap Given (q.count ∙ sym (ap (λ (o : Option Rule). with_rule o 0 parts) is_rule)) ∙ sym (unless_none _ _ accepted)

      pub brackets_refused : opens_fit (pos 0) s ≡ false → Refused 5 ≡ parse_call text file
      brackets_refused b = refused_first (tokens_decide ∙ unfit_brackets s file b)

      pub tokens_answered : (written : List RulePart) (t : Parsed) → TokensParsedTo s file written t → parsed_answer t ≡ parse_call text file
      tokens_answered written (ParsedRule n m) q = parse_given q
      tokens_answered written (ParsedRefused x) q = refused_first (tokens_decide ∙ q)

      pub tokens_parsed : (written : List RulePart) (t : Parsed) → TokensParsedTo s file written t → ParsedTo text file written t
      tokens_parsed written (ParsedRule n m) q = parsing q
      tokens_parsed written (ParsedRefused x) q = tt

pub ruleset tokens_rules = (ungrammatical, too_many, too_deep, limited, nameable, unnamed, countable, few_entries, many_entries)

pub ruleset text_rules = (parse_untokenized, brackets_refused, tokens_answered, tokens_parsed)

pub ruleset parse_rules = (parse_tables, parse_long)
