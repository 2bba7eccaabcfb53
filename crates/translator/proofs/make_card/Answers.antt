-- `translator::make_card` meets its contract: a refusal of reading, a buffer that is too short, and the card.
use native.Mathlib.Omega.{arith}
use borrow.Author.Rules.{rules}
use Rattle.parser.proofs.Known.{rule_read}
use Rattle.translator.proofs.Making.{card_refused, card_short, card_ready, card_given}
use Rattle.translator.proofs.make_card.Goals as goal

pub returns-in_default : goal.returns-in_default
returns-in_default c =
    let p = card_refused _ _ _ c.parse-parsed.result _ _ c.parse-parsed.ensures.answer c.in_default.is c.refusal.ensures in
    record { answer = p.0; written = p.1 }

-- in what follows, read is the rule that was read
pub byte-requires : goal.byte-requires
byte-requires c =
    let read = rule_read _ _ _ c.in-Rule.is c.parse-parsed.ensures.parsed in
    omega (arith, read.sized.long)

pub overflow_mul-length : goal.overflow_mul-length
overflow_mul-length c =
    let read = rule_read _ _ _ c.in-Rule.is c.parse-parsed.ensures.parsed in
    let few = read.few_entries in
    search rules

pub overflow_add-length-3 : goal.overflow_add-length-3
overflow_add-length-3 c =
    let read = rule_read _ _ _ c.in-Rule.is c.parse-parsed.ensures.parsed in
    let few = read.few_entries in
    search rules

pub returns-then-out-length : goal.returns-then-out-length
returns-then-out-length c =
    let read = rule_read _ _ _ c.in-Rule.is c.parse-parsed.ensures.parsed in
    let p = card_short _ _ _ read c.byte.ensures.is c.if-out-length.true in
    record { answer = p.0; written = p.1 }

pub write_card-requires : goal.write_card-requires
write_card-requires c =
    let read = rule_read _ _ _ c.in-Rule.is c.parse-parsed.ensures.parsed in
    card_ready _ _ _ read c.byte.ensures.is (omega arith)

pub returns : goal.returns
returns c =
    let read = rule_read _ _ _ c.in-Rule.is c.parse-parsed.ensures.parsed in
    let p = card_given _ _ _ read c.byte.ensures.is (omega arith) _ c.write_card.ensures in
    record { answer = p.0; written = p.1 }
