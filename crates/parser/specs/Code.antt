-- What the functions of src/ promise one another and their callers. The contract of a public call cites nothing of this file.
use Rattle.std.specs.Prelude.{◌≡◌, true, List, ℕ, ◌≤◌, pos, length, take}
use Rattle.std.proofs.Math.Option.{none, some}
use Rattle.tables.specs.Tables.{columns_of}
use Rattle.tables.specs.Values.{most_entries}
use Rattle.tables.specs.Refusals.{first_applying, Answer, Refused, Given, unless, tables_refusals}
use Rattle.cells.specs.Reasons.{reason_number}
use Rattle.cells.specs.declared.Reason.{Reason}
use Rattle.cells.specs.declared.Reason.TheVariants.{Short}
use Rattle.cells.specs.Code.{Sized}
use Rattle.rule.specs.Tokens.{opens_fit}
use Rattle.rule.specs.Condition.{WrittenCondition, Rule, parts}
use Rattle.rule.specs.Grammar.{Tokens}
use Rattle.rule.specs.Reader.{read_all}
use Rattle.rule.specs.Names.{limits_fit, outermost, rule_in}
use Rattle.rule.specs.Sum.{entry_sum}
use Rattle.rule.specs.Calls.{most_bytes, tokens_refusals, rule_of, reading_refusals, Accepted, with_rule}
use Rattle.names.specs.Code.{placed_of}
use Rattle.names.specs.declared.RulePart.{RulePart}
use Rattle.parser.specs.declared.Parsed.{Parsed}
use Rattle.parser.specs.declared.Parsed.TheVariants.{Rule as ParsedRule, Refused as ParsedRefused}

-- ---- reading step by step

-- a text that is not too long, with tables that are not refused
pub record TextReady (text file : List ℕ) : Type 0 where
  pub short : length text ≤ most_bytes
  pub sized : Sized file
  pub tables_pass : first_applying (tables_refusals file) ≡ none

-- the rule of some tokens, its n parts at the front of an array, and m, how many entries its card has
pub record TokensParsing (s : Tokens) (file : List ℕ) (new : List RulePart) (n m : ℕ) : Type 0 where
  pub brackets : opens_fit (pos 0) s ≡ true
  pub tree : WrittenCondition
  pub reads : read_all s ≡ some tree
  pub limits : limits_fit tree ≡ true
  pub rule : Rule
  pub named : rule_in (columns_of file) outermost tree ≡ some rule
  pub count : n ≡ parts rule
  pub written : take n new ≡ placed_of rule
  pub sum : m ≡ entry_sum rule
  pub few_entries : entry_sum rule ≤ most_entries

abbrev pub TokensParsedTo : (s : Tokens) (file : List ℕ) (new : List RulePart) → Parsed → Type 0
TokensParsedTo s file new (ParsedRule n m) = TokensParsing s file new n m
TokensParsedTo s file new (ParsedRefused x) = first_applying (tokens_refusals (columns_of file) (some s)) ≡ some (reason_number x)

-- ---- reading as a whole

-- how many parts a rule has, or a refusal of reading
abbrev pub parsed_answer : Parsed → Answer ℕ
parsed_answer (ParsedRule n m) = Given n
parsed_answer (ParsedRefused x) = Refused (reason_number x)

-- why there is no rule; of a rule, which nothing refuses, some reason
abbrev pub refusal_in : Parsed → Reason
refusal_in (ParsedRule n m) = Short
refusal_in (ParsedRefused x) = x

unfoldable pub parse_call : List ℕ → List ℕ → Answer ℕ
parse_call text file = unless (first_applying (reading_refusals text file)) (λ _. with_rule (rule_of text (columns_of file)) 0 parts)

-- the rule of a text, its n parts at the front of an array, and m, how many entries its card has
pub record Parsing (text file : List ℕ) (new : List RulePart) (n m : ℕ) : Type 0 where
  pub accepted : Accepted text file
  pub rule : Rule
  pub is_rule : rule_of text (columns_of file) ≡ some rule
  pub count : n ≡ parts rule
  pub written : take n new ≡ placed_of rule
  pub sum : m ≡ entry_sum rule

abbrev pub ParsedTo : (text file : List ℕ) (new : List RulePart) → Parsed → Type 0
ParsedTo text file new (ParsedRule n m) = Parsing text file new n m
ParsedTo text file new (ParsedRefused x) = Unit {0}
