use Rattle.std.proofs.Common.{rules, tests, arith, refl, sym, ◌∙◌}
use Rattle.std.proofs.lemmas.Iterator.{YieldsList-from_range}
use Rattle.std.proofs.lemmas.Iterator.Search.{all_from_yields_List}
use borrow.Author.Tests.{ne_eqb}
use Rattle.gate.proofs.Calls.{column_fits, fits_count, fits_each}
use Rattle.gate.proofs.fits_tables.Goals as goal

pub returns-then-byte-n : goal.returns-then-byte-n
returns-then-byte-n c =
    all_from_yields_List (column_fits c.args.card.now c.args.file.now) _ _ _ c.all.ensures.ran (YieldsList-from_range 0 c.byte-n.result c.byte-n.result refl (omega arith)) (λ x b q k. search (rules, tests))
    ∙ fits_each _ _ _ (sym c.byte.ensures.is ∙ c.if-byte-n.true) c.byte-n.ensures.is

pub returns-else-byte-n : goal.returns-else-byte-n
returns-else-byte-n c = ne_eqb _ _ c.if-byte-n.false ∙ fits_count _ _ (λ e. c.if-byte-n.false (c.byte.ensures.is ∙ e ∙ sym c.byte-n.ensures.is))
