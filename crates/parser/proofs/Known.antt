-- What is known of a text that was read, for whoever goes on with its rule.
use mathlib.Core.Path.{◌≡◌, sym, ap, subst, ◌∙◌}
use mathlib.Core.List.{List, map}
use mathlib.Core.Option.{some}
use Prim.Native.Nat.{ℕ, ◌≤◌}
use native.Mathlib.Omega.{arith}
use lib.ListN.{get_or, take}
use Rattle.std.proofs.lemmas.List.{get_or-take}
use Rattle.tables.specs.Tables.{columns_of}
use Rattle.tables.specs.Values.{most_entries, judged_levels}
use Rattle.tables.specs.Refusals.{first_applying}
use Rattle.cells.specs.Code.{Sized}
use Rattle.cells.specs.Reasons.{reason_number}
use Rattle.cells.specs.declared.Reason.{Reason}
use Rattle.cells.proofs.Cells.{sized_is}
use Rattle.cells.proofs.Valid.{refused_some}
use Rattle.rule.specs.Condition.{Rule, parts, froms_deep}
use Rattle.rule.specs.Names.{most_parts, Fits}
use Rattle.rule.specs.Sum.{entry_sum}
use Rattle.rule.specs.Calls.{rule_of, reading_refusals, Accepted}
use Rattle.rule.proofs.Accepted.{accepted_named, parts_claim}
use Rattle.rule.specs.Parts.{parts_of}
use Rattle.names.specs.Code.{placed_of, published}
use Rattle.names.proofs.Published.{published_from, placed_length}
use Rattle.parts.specs.Parts.{parts_in, SmallPart, SmallParts}
use Rattle.parser.proofs.Small.{each_at, rule_small, few_columns}
use Rattle.names.specs.declared.RulePart.{RulePart}
use Rattle.parser.specs.Code.{parsed_answer, refusal_in, parse_call, Parsing, ParsedTo}
use Rattle.parser.specs.declared.Parsed.{Parsed}

-- the rule of an accepted text
pub record Known (file : List ℕ) (rule : Rule) : Type 0 where
  pub sized : Sized file
  pub fits : Fits (columns_of file) judged_levels rule
  pub few_parts : parts rule ≤ most_parts
  pub few_froms : froms_deep rule ≤ 3
  pub few_entries : entry_sum rule ≤ most_entries

pub known : (text file : List ℕ) (rule : Rule) → Accepted text file → rule_of text (columns_of file) ≡ some rule → Known file rule
known text file rule a e =
    let w = parts_claim text file a in
    let f = w.is_rule in
    let same : w.rule ≡ rule = some_same w.rule rule (sym f ∙ e) in
    subst (Known file) same record {
      sized = sized_is file (accepted_named text file a).tables_sized;
      fits = w.fits;
      few_parts = w.few_parts;
      few_froms = w.few_froms;
      few_entries = w.few_entries;
    }
  where
    some_same : (x y : Rule) → some x ≡ some y → x ≡ y
    some_same x y e = cc

-- what `parse` gave
module _ (text file : List ℕ) (r : Parsed) where
  pub parse_refused : (x y : Reason) → parsed_answer r ≡ parse_call text file → r ≡ Parsed.Refused x → y ≡ refusal_in r
      → first_applying (reading_refusals text file) ≡ some (reason_number y)
  unfolding parse_call
  parse_refused x y p e u = rw (u ∙ ap refusal_in e) (refused_some _ (first_applying (reading_refusals text file)) (sym (ap parsed_answer e) ∙ p))

  pub parse_given : (new : List RulePart) (n m : ℕ) → ParsedTo text file new r → r ≡ Parsed.Rule n m → Parsing text file new n m
  parse_given new n m told e = rw e at told

-- a rule that it gave, with its n parts at the front of an array and the m entries of its card
pub record Read (text file : List ℕ) (new : List RulePart) (n m : ℕ) : Type 0 where
  pub accepted : Accepted text file
  pub rule : Rule
  pub is_rule : rule_of text (columns_of file) ≡ some rule
  pub count : n ≡ parts rule
  pub written : take (parts rule) new ≡ placed_of rule
  pub sum : m ≡ entry_sum rule
  pub sized : Sized file
  pub fits : Fits (columns_of file) judged_levels rule
  pub few_parts : n ≤ most_parts
  pub few_froms : froms_deep rule ≤ 3
  pub few_entries : m ≤ most_entries

pub rule_read : (text file : List ℕ) (new : List RulePart) {r : Parsed} {n m : ℕ} → r ≡ Parsed.Rule n m → ParsedTo text file new r → Read text file new n m
rule_read text file new {r} {n} {m} e told =
    let q = parse_given text file r new n m told e in
    let k = known text file q.rule q.accepted q.is_rule in
    let few = k.few_parts in
    let card = k.few_entries in
    record {
      accepted = q.accepted;
      rule = q.rule;
      is_rule = q.is_rule;
      count = q.count;
      written = sym (ap (λ (k : ℕ). take k new) q.count) ∙ q.written;
      sum = q.sum;
      sized = k.sized;
      fits = k.fits;
      few_parts = omega (arith, q.count);
      few_froms = k.few_froms;
      few_entries = omega (arith, q.sum);
    }

-- the parts of a rule that fits its tables, as READ publishes them
pub rule_parts : (file : List ℕ) (p : List RulePart) (rule : Rule) → Sized file → parts rule ≤ most_parts → Fits (columns_of file) judged_levels rule
    → take (parts rule) p ≡ placed_of rule → SmallParts p (parts rule) × (parts_in p (parts rule) ≡ parts_of rule)
rule_parts file p rule sized few fits written = (
  λ i h d.
      let each = each_at (placed_of rule) (rule_small (columns_of file) (few_columns file sized) rule 0 judged_levels (omega arith) fits) in
      subst SmallPart (ap (λ (l : List RulePart). get_or l i d) (sym written) ∙ get_or-take (parts rule) p i d h) (each i (omega (arith, placed_length 0 rule)) d),
  ap (map published) written ∙ published_from 0 rule,
)
