-- The proved cases of document 01 and the texts at the edges of the refusals, each as one computed fact.
use mathlib.Core.Path.{◌≡◌, refl}
use mathlib.Core.Bool.{Bool, true, false, not}
use Rattle.rule.specs.Truth.{truth, is_unknown, is_that}
use Rattle.rule.specs.Cases.{judged_at, declined_at, parts_read, every_word, chained, unknown_of, edges}
use Rattle.rule.specs.Claims.{CasesClaim, PartsCasesClaim, TestsClaim, DeclinedTestsClaim, OrderClaim, WordsClaim, EdgesClaim, ConnectivesClaim, TruthTestsClaim}
use Rattle.rule.proofs.Opened.{opened}

-- "Cases 1 to 12 are proved together, as one tabulated fact over the definitions": from texts and bytes, through what JUDGE answers
pub cases_claim : CasesClaim
unfolding opened judged_at
cases_claim = refl

pub connectives_claim : ConnectivesClaim
connectives_claim = record { not_table_lem = refl; and_table_lem = refl; or_table_lem = refl }

pub truth_tests_claim : TruthTestsClaim
truth_tests_claim = record { table = refl; is_known = λ t a. known (is_that t a); is_not_known = λ t a. known (not (is_that t a)) }
  where
    known : (b : Bool) → is_unknown (truth b) ≡ false
    known true = refl
    known false = refl

pub parts_cases_claim : PartsCasesClaim
unfolding opened parts_read
parts_cases_claim = refl

pub words_claim : WordsClaim
unfolding opened every_word
words_claim = refl

pub tests_claim : TestsClaim
unfolding opened judged_at
tests_claim = refl

pub declined_tests_claim : DeclinedTestsClaim
unfolding opened declined_at
declined_tests_claim = refl

pub order_claim : OrderClaim
unfolding opened
order_claim = record { reading = λ text file answer buffer. refl; judging = λ text file row. refl }

pub edges_claim : EdgesClaim
unfolding opened chained unknown_of edges
edges_claim = refl
