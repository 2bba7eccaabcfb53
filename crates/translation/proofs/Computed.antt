-- The worked card of document 01 and the examples of its refusal table, each as one computed fact.
use mathlib.Core.Path.{refl}
use Rattle.card.proofs.Opened.{opened as card-opened}
use Rattle.rule.proofs.Opened.{opened as rule-opened}
use Rattle.rule.specs.Cases.{chained, unknown_of}
use Rattle.translation.specs.Translation.{negated, card_of}
use Rattle.translation.specs.Calls.{rule_bytes, card_call}
use Rattle.translation.specs.Cases.{worked_text, full_text, unknown_text, truth_text, declined_text, not_declined_text, both_text, third_card, read_refusal, refusal_examples}
use Rattle.translation.specs.Claims.{WorkedCardClaim, FullCardClaim, WorkedTruthCardsClaim, WorkedDeclinedCardsClaim, LaterCaseClaim, GateCaseClaim, RefusalsClaim}

pub worked_card_claim : WorkedCardClaim
unfolding card-opened rule-opened negated card_of rule_bytes card_call worked_text
worked_card_claim = refl

pub full_card_claim : FullCardClaim
unfolding card-opened rule-opened negated card_of rule_bytes card_call full_text
full_card_claim = refl

pub worked_truth_cards_claim : WorkedTruthCardsClaim
unfolding card-opened rule-opened negated card_of rule_bytes card_call unknown_text truth_text
worked_truth_cards_claim = record { unknown = refl; every = refl }

pub worked_declined_cards_claim : WorkedDeclinedCardsClaim
unfolding card-opened rule-opened negated card_of rule_bytes card_call declined_text not_declined_text both_text
worked_declined_cards_claim = record { declined = refl; not_declined = refl; both = refl }

pub later_case_claim : LaterCaseClaim
unfolding card-opened rule-opened
later_case_claim = record { no_refusal = refl; same_columns_lem = refl }

pub gate_case_claim : GateCaseClaim
unfolding card-opened rule-opened negated card_of rule_bytes card_call third_card
gate_case_claim = record { runs = refl; lists_3 = refl; lists_2 = refl; lists_1 = refl }

pub refusals_claim : RefusalsClaim
unfolding card-opened rule-opened negated card_of rule_bytes card_call worked_text chained unknown_of read_refusal refusal_examples
refusals_claim = refl
