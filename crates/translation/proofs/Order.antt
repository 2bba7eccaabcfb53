-- The order of CARD's refusals, and that the orders of all calls rise, those of READ, JUDGE and CARD but for 13.
use mathlib.Core.Path.{refl}
use Rattle.tables.proofs.Rising.{rising}
use Rattle.card.specs.Calls.{check_order, run_order, list_order}
use Rattle.rule.specs.Calls.{read_order, judge_order}
use Rattle.rule.proofs.Opened.{opened as rule-opened}
use Rattle.translation.specs.Calls.{card_order}
use Rattle.translation.specs.Claims.{OrderClaim, without13, RisingClaim}

pub order_claim : OrderClaim
unfolding rule-opened
order_claim text file answer buffer = refl

pub rising_claim : RisingClaim
rising_claim = record {
  reading = rising (without13 read_order) tt;
  judging = rising (without13 judge_order) tt;
  making = rising (without13 card_order) tt;
  checking = rising check_order tt;
  running = rising run_order tt;
  listing = rising list_order tt;
}
