use Rattle.parser.proofs.Known.{rule_read}
use Rattle.reader.proofs.Lending.{read_refused, read_short, read_given}
use Rattle.reader.proofs.read_parts.Goals as goal

pub returns-in_default : goal.returns-in_default
returns-in_default c = read_refused _ _ c.args.room c.parse-parsed.new.parts c.parse-parsed.result _ _ c.parse-parsed.ensures.answer c.in_default.is c.refusal.ensures

pub returns-then-room-count : goal.returns-then-room-count
returns-then-room-count c = read_short _ _ _ _ (rule_read _ _ _ c.in-Rule.is c.parse-parsed.ensures.parsed) c.if-room-count.true

pub returns : goal.returns
returns c = read_given _ _ _ _ (rule_read _ _ _ c.in-Rule.is c.parse-parsed.ensures.parsed) c.if-room-count.false
