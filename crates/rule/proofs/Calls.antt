-- READ and JUDGE by cases.
use mathlib.Core.Path.{◌≡◌, ap, ◌∙◌}
use mathlib.Core.Bool.{not}
use mathlib.Core.List.{List, [], ◌++◌}
use mathlib.Core.Option.{Option}
use Prim.Native.Nat.{ℕ}
use borrow.Author.Tests.{lt-ltb, le-ltb}
use lib.ListN.{drop}
use Rattle.tables.specs.Tables.{columns_of, row_count, tables_of}
use Rattle.tables.specs.Refusals.{Given, lend, row_refusal}
use Rattle.tables.proofs.Refusals.{first_nil, first_one, first_none, first_append, first_found, lend_short, lend_long, lend_refused, unless_none, unless_some}
use Rattle.rule.specs.Condition.{Rule}
use Rattle.rule.specs.Parts.{parts_of}
use Rattle.rule.specs.declared.Part.{Part}
use Rattle.rule.specs.declared.Truth.TheVariants.{Unknown}
use Rattle.rule.specs.Meaning.{judged}
use Rattle.rule.specs.Calls.{rule_of, reading_refusals, with_rule, read_call, judge_refusals, judge_call}
use Rattle.rule.specs.Claims.{CallsClaim}
use Rattle.rule.proofs.Parts.{parts_length}

-- the answer of a call with a rule
reads : (text file : List ℕ) (buffer : List Part) (r : Rule) → rule_of text (columns_of file) ≡ Option.some r → read_call text file buffer ≡ lend (reading_refusals text file) (parts_of r) buffer
unfolding read_call
reads text file buffer r e = ap (λ (o : Option Rule). lend (reading_refusals text file) (with_rule o [] parts_of) buffer) e

pub calls_claim : CallsClaim
unfolding read_call judge_call judge_refusals row_refusal
calls_claim = record {
  read_refused = λ text file buffer n e. lend_refused (reading_refusals text file) _ buffer e;
  read_short = λ text file buffer a r e h. reads text file buffer r e ∙ lend_short (reading_refusals text file) (parts_of r) buffer a (rw (parts_length r 0) h);
  read_given = λ text file buffer a r e h.
      reads text file buffer r e ∙ lend_long (reading_refusals text file) (parts_of r) buffer a (rw (parts_length r 0) h)
      ∙ ap (λ (n : ℕ). record { result = Given n; buffer = parts_of r ++ drop n buffer }) (parts_length r 0);
  judge_refused = λ text file row n e. unless_some _ _ (first_found (reading_refusals text file) _ e);
  judge_no_row = λ text file row a h. unless_some _ _ (first_append (reading_refusals text file) _ a ∙ first_one 11 _ [] (ap not (le-ltb row (row_count file 1) h)));
  judge_given = λ text file row a r e h.
      unless_none _ _ (first_append (reading_refusals text file) _ a ∙ first_none 11 _ [] (ap not (lt-ltb row (row_count file 1) h)) first_nil)
      ∙ ap (λ (o : Option Rule). Given (with_rule o Unknown (judged (tables_of file) row))) e;
}
