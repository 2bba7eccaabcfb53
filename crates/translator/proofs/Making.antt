-- CARD by cases: a refusal of reading, a buffer that is too short, and the card.
use mathlib.Core.Path.{◌≡◌, sym, ap, subst, ◌∙◌}
use mathlib.Core.List.{List, ◌++◌}
use mathlib.Core.Option.{some}
use Prim.Native.Nat.{ℕ, ◌<◌, ◌≤◌}
use native.Mathlib.Omega.{arith}
use lib.ListN.{length, drop}
use Rattle.tables.specs.Tables.{table_count, columns_of}
use Rattle.tables.specs.Refusals.{Answer, Refused, Given, Lent}
use Rattle.tables.proofs.Placed.{placed_start}
use Rattle.cells.specs.Reasons.{reason_number}
use Rattle.cells.specs.declared.Reason.{Reason}
use Rattle.card.specs.Card.{entries}
use Rattle.card.specs.Layout.{card_length}
use Rattle.rule.specs.Condition.{Rule}
use Rattle.rule.specs.Calls.{rule_of}
use Rattle.names.specs.declared.RulePart.{RulePart}
use Rattle.parser.specs.Code.{parsed_answer, refusal_in, parse_call}
use Rattle.parser.specs.declared.Parsed.{Parsed}
use Rattle.parser.proofs.Known.{Read, parse_refused}
use Rattle.translation.specs.Translation.{rule_card}
use Rattle.translation.specs.Calls.{rule_bytes, card_call}
use Rattle.translation.specs.Demand3.{published_length, CardClaim}
use Rattle.translation.proofs.Sums.{sum_claim}
use Rattle.translation.proofs.Demand3.{demand_3_claim, card_refused_claim}
use Rattle.translator.specs.Code.{CardReady, CardWritten}

module _ (text file out : List ℕ) where
  abbrev pub Makes : Answer ℕ → List ℕ → Type 0
  Makes a after = (a ≡ (card_call text file out).result) × (after ≡ (card_call text file out).buffer)

  lent : (l : Lent ℕ) → card_call text file out ≡ l → Makes l.result l.buffer
  lent l e = (ap (λ (a : Lent ℕ). a.result) (sym e), ap (λ (a : Lent ℕ). a.buffer) (sym e))

  pub card_refused : (r : Parsed) (x y : Reason) → parsed_answer r ≡ parse_call text file → r ≡ Parsed.Refused x → y ≡ refusal_in r
      → Makes (Refused (reason_number y)) out
  card_refused r x y p e u = lent _ (card_refused_claim text file out (reason_number y) (parse_refused text file r x y p e u))

  same_rule : (x y : Rule) → rule_of text (columns_of file) ≡ some x → rule_of text (columns_of file) ≡ some y → x ≡ y
  same_rule x y e f = cc

  -- a rule was read
  module _ {p : List RulePart} {m n : ℕ} (q : Read text file p m n) where
    claim : CardClaim text file q.rule out
    claim =
        let w = demand_3_claim text file q.accepted in
        subst (λ (x : Rule). CardClaim text file x out) (same_rule w.rule q.rule w.is_rule q.is_rule) (w.cards out)

    count : n ≡ entries (rule_card q.rule)
    count = q.sum ∙ sym (sum_claim q.rule)

    -- with so many tables
    module _ {t : ℕ} (tables : t ≡ table_count file) where
      long : card_length t n ≡ published_length file q.rule
      long = omega (arith, q.sum)

      pub card_short : length out < card_length t n → Makes (Refused 12) out
      card_short h = lent _ (claim.short (omega (arith, long)))

      module _ (room : card_length t n ≤ length out) where
        pub card_ready : CardReady p file n out
        card_ready =
            record {
              sized = q.sized;
              rule = q.rule;
              few = omega (arith, q.count, q.few_parts);
              written = q.written;
              count = count;
              most = q.few_entries;
              room = omega arith;
            }

        pub card_given : (after : List ℕ) → CardWritten p file n out after → Makes (Given (card_length t n)) after
        unfolding rule_bytes card_ready
        card_given after w =
            let bytes = rule_bytes file q.rule in
            let l = lent _ (claim.long (omega (arith, long))) in (
              ap Given long ∙ l.0,
              w card_ready ∙ placed_start out bytes ∙ ap (λ (k : ℕ). bytes ++ drop k out) claim.length_is ∙ l.1,
            )
