-- `unfolding opened` opens every definition of specs/ that computes, for a fact that is closed by computing it.
use Rattle.tables.proofs.Opened.{opened as tables-opened}
use Rattle.card.specs.Card.{answer, entries, card_fits}
use Rattle.card.specs.Layout.{kind_bytes, records_from, card_bytes, columns_in, zeros, record_fits, head_from, entry_from, card_from}
use Rattle.card.specs.Sound.{laid, sound}
use Rattle.card.specs.Calls.{says_yes, check_refusals, fits_tables, gate_refusals, run_refusals, check_call, run_call, list_call}

unfoldable pub opened : Unit {0}
unfolding tables-opened answer entries card_fits kind_bytes records_from card_bytes columns_in zeros record_fits head_from entry_from card_from laid sound says_yes check_refusals fits_tables gate_refusals run_refusals check_call run_call list_call
opened = tt
