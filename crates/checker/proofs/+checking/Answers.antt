use mathlib.Core.Bool.{true≢false}
use native.Mathlib.Omega.{arith}
use Rattle.std.proofs.Common.{◌≡◌, sym, ◌∙◌, rules}
use Rattle.std.proofs.Math.Option.{some}
use Rattle.card.specs.Layout.{tables_in}
use Rattle.card.specs.declared.Head.TheVariants.{LeafHead}
use Rattle.decoder.specs.Code.{head_at}
use Rattle.tables.specs.Bytes.{between}
use Rattle.tables.proofs.Tests.{is_so, bounds, between_yes}
use Rattle.decoder.proofs.Coded.{coded_less}
use Rattle.checker.proofs.Checking.{leaf_checks, pair_short, pair_left_no, pair_last, rows_no, rows_last}
use Rattle.checker.proofs.+checking.Goals.{check_rows-then-e-s-via-then-e-s, check_rows-then-e-s-via-else-e-s+then-not-contains, check_rows-then-e-s-via-else-e-s+else-not-contains+then-levels-gt-MOST_ROW_ENTRIES}
use Rattle.checker.proofs.+checking.Goals as goal

pub check_entry-returns-then-e-s : goal.check_entry-returns-then-e-s
check_entry-returns-then-e-s t c =
    let says : head_at c.args.d.now c.args.s ≡ some (LeafHead c.in-Some-LeafHead.leaf) = search rules in
    leaf_checks _ says c.if-d-s.false c.if-e-s.true c.leaf_fits.ensures

pub check_pair-returns-then-e-s : goal.check_pair-returns-then-e-s
check_pair-returns-then-e-s t c = pair_short c.requires.fact_2.1 (λ l r. omega arith)

pub check_pair-returns-then-m-s : goal.check_pair-returns-then-m-s
check_pair-returns-then-m-s t c = pair_short c.requires.fact_2.1 (λ l r. omega (arith, c.then-m-s.either))

pub check_pair-returns-then-check_entry : goal.check_pair-returns-then-check_entry
check_pair-returns-then-check_entry t c =
    pair_last c.requires.fact_2.1 c.check_entry.ensures c.if-check_entry.true c.requires.fact_3 c.check_entry-then-check_entry.ensures

pub check_pair-returns-else-check_entry : goal.check_pair-returns-else-check_entry
check_pair-returns-else-check_entry t c = pair_left_no c.requires.fact_2.1 c.check_entry.ensures c.if-check_entry.false

-- the tests of a row entry, where they pass
pub check_rows-returns : goal.check_rows-returns
check_rows-returns t c =
    let there : c.contains.result ≡ between 1 (tables_in c.args.card.now) c.args.table = search rules in
    let (low, high) = bounds 1 (tables_in c.args.card.now) c.args.table (is_so _ (sym there ∙ c.if-not-contains.false)) in
    rows_last c.requires.fact_2.1 (omega arith) c.requires.fact_1.levels_in low high c.if-levels-gt-MOST_ROW_ENTRIES.false c.requires.fact_3 c.deeper.ensures c.check_entry.ensures

-- and where one of them fails
pub check_rows-returns-then-e-s : goal.check_rows-returns-then-e-s
check_rows-returns-then-e-s t c =
    rows_no c.requires.fact_2.1 (omega arith) c.requires.fact_1.levels_in (λ x.
    elim c.then-e-s.branch [
      | check_rows-then-e-s-via-then-e-s w ↦ omega (arith, coded_less x.inner.coded)
      | check_rows-then-e-s-via-else-e-s+then-not-contains w ↦
          let there : w.contains.result ≡ between 1 (tables_in c.args.card.now) c.args.table = search rules in
          true≢false (sym (between_yes 1 _ c.args.table x.table_low x.table_high) ∙ sym there ∙ w.if-not-contains.true)
      | check_rows-then-e-s-via-else-e-s+else-not-contains+then-levels-gt-MOST_ROW_ENTRIES w ↦ omega (arith, x.few)
    ])
