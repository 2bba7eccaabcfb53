-- The claims of specs/Claims.antt.
use mathlib.Core.Path.{refl, ap, ◌∙◌}
use borrow.Author.Tests.{lt-ltb, le-ltb}
use Rattle.tables.specs.Tables.{row_count}
use Rattle.tables.specs.Refusals.{row_refusal}
use Rattle.tables.proofs.Refusals.{first_nil, first_one, first_none, first_append, first_found, unless_none, unless_some, lend_short, lend_long, lend_refused}
use Rattle.card.specs.Calls.{yes_rows, check_refusals, gate_refusals, run_refusals, check_call, run_call, list_call}
use mathlib.Core.Bool.{not}
use mathlib.Core.List.{[]}
use Rattle.card.specs.Layout.{columns_in}
use Rattle.card.specs.Cases.{nested, chained, edges, gate_edges, kind_cases}
use Rattle.card.specs.Claims.{SoundClaim, LengthClaim, CallsClaim, OrderClaim, GateEdgesClaim, EdgesClaim, KindsClaim}
use Rattle.card.proofs.Opened.{opened}
use Rattle.card.proofs.Walk.{card_length_lem, columns_back}
use Rattle.card.proofs.Back.{sound_true, sound_holds}
use Rattle.card.proofs.Exact.{sound_exact}

pub sound_claim : SoundClaim
sound_claim = record {
  passes = sound_true;
  passes_only = λ bs b e. sound_exact bs b (rw e tt);
  holds_card = sound_holds;
  holds_columns = λ bs s. ap columns_in s.bytes ∙ columns_back s.columns s.card;
}

pub length_claim : LengthClaim
length_claim = card_length_lem

pub edges_claim : EdgesClaim
unfolding opened nested chained edges
edges_claim = refl

pub order_claim : OrderClaim
unfolding opened
order_claim = record { checking = λ card. refl; running = λ card file row. refl; listing = λ card file buffer. refl }

pub gate_edges_claim : GateEdgesClaim
unfolding opened gate_edges
gate_edges_claim = refl

pub kinds_claim : KindsClaim
unfolding opened kind_cases
kinds_claim = refl

pub calls_claim : CallsClaim
unfolding check_call check_refusals run_call run_refusals row_refusal list_call
calls_claim = record {
  check_sound = λ card e. unless_none _ _ (first_none 9 _ [] (ap not e) first_nil);
  check_unsound = λ card e. unless_some _ _ (first_one 9 _ [] (ap not e));
  run_refused = λ card file row n e. unless_some _ _ (first_found (gate_refusals card file) _ e);
  run_no_row = λ card file row e h. unless_some _ _ (first_append (gate_refusals card file) _ e ∙ first_one 11 _ [] (ap not (le-ltb row (row_count file 1) h)));
  run_given = λ card file row e h. unless_none _ _ (first_append (gate_refusals card file) _ e ∙ first_none 11 _ [] (ap not (lt-ltb row (row_count file 1) h)) first_nil);
  list_refused = λ card file buffer n e. lend_refused (gate_refusals card file) _ buffer e;
  list_short = λ card file buffer e h. lend_short (gate_refusals card file) (yes_rows card file) buffer e h;
  list_given = λ card file buffer e h. lend_long (gate_refusals card file) (yes_rows card file) buffer e h;
}
