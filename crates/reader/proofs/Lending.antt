-- What `parse` gave makes READ's answer: a refusal of reading, a list that is too short, or the parts.
use mathlib.Core.Path.{◌≡◌, sym, ap, ◌∙◌}
use mathlib.Core.List.{List, ◌++◌}
use Prim.Native.Nat.{ℕ, ◌≤◌, ◌<◌}
use native.Mathlib.Omega.{arith}
use lib.ListN.{drop}
use Rattle.std.specs.Prelude.{Ok, Err}
use Rattle.tables.specs.Refusals.{Given}
use Rattle.cells.specs.declared.Reason.{Reason}
use Rattle.rule.specs.Condition.{parts}
use Rattle.rule.specs.Parts.{parts_of}
use Rattle.rule.specs.declared.Part.{Part}
use Rattle.rule.proofs.Calls.{calls_claim}
use Rattle.parser.specs.Code.{parsed_answer, refusal_in, parse_call}
use Rattle.names.specs.declared.RulePart.{RulePart}
use Rattle.parts.specs.Parts.{parts_in, SmallParts}
use Rattle.parser.specs.declared.Parsed.{Parsed}
use Rattle.parser.proofs.Known.{Read, parse_refused, rule_parts}
use Rattle.reader.specs.Code.{ReadTo}

module _ (text file : List ℕ) (room : ℕ) (new : List RulePart) where
  pub read_refused : (r : Parsed) (x y : Reason) → parsed_answer r ≡ parse_call text file → r ≡ Parsed.Refused x → y ≡ refusal_in r
      → ReadTo text file room new (Err y)
  read_refused r x y p e u = λ old _. calls_claim.read_refused text file old _ (parse_refused text file r x y p e u)

  -- a rule was read
  module _ {n m : ℕ} (q : Read text file new n m) where
    pub read_short : room < n → ReadTo text file room new (Err Reason.Short)
    read_short h = λ old l. calls_claim.read_short text file old q.accepted q.rule q.is_rule (omega (arith, q.count))

    parts_written : SmallParts new (parts q.rule) × (parts_in new (parts q.rule) ≡ parts_of q.rule)
    parts_written = rule_parts file new q.rule q.sized (omega (arith, q.count, q.few_parts)) q.fits q.written

    pub read_given : n ≤ room → ReadTo text file room new (Ok n)
    read_given h =
        record {
          few = q.few_parts;
          fits = h;
          small = rw q.count parts_written.0;
          answered = λ old l.
              calls_claim.read_given text file old q.accepted q.rule q.is_rule (omega (arith, q.count))
              ∙ rw q.count (ap (λ (ps : List Part). record { result = Given (parts q.rule); buffer = ps ++ drop (parts q.rule) old }) (sym parts_written.1));
        }
