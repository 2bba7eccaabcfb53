use Rattle.std.proofs.Common.{◌≡◌, ◌*◌, ◌<◌, arith}
use Rattle.tables.specs.Tables.{most_rows}
use Rattle.importer.proofs.Lines.{table_begun, table_goes_on, table_unread, table_read_lem}
use Rattle.importer.proofs.read_lines.Goals as goal
use Rattle.importer.proofs.read_lines.Goals.{then-rows-lt-MOST_ROWS, else-rows-lt-MOST_ROWS}

pub loop-at-init : goal.loop-at-init
loop-at-init c = table_begun _ _ _ _ c.requires.fact_2

-- the cells of a row that is kept stand behind those of the rows before it
place : (c : goal.In_ok-at) → c.loop-at.rows < most_rows → c.if-rows-lt-MOST_ROWS.k ≡ c.loop-at.rows * c.args.columns
place c h =
    elim c.if-rows-lt-MOST_ROWS.branch [
      | then-rows-lt-MOST_ROWS w ↦ w.k-is
      | else-rows-lt-MOST_ROWS w ↦ absurd (omega (arith, w.if-rows-lt-MOST_ROWS.false))
    ]

pub loop-at-smaller : goal.loop-at-smaller
loop-at-smaller c =
    let (higher, rest) = table_goes_on c.loop-at.invariant c.loop-at-test.true c.requires.fact_1.0 c.read_line.ensures (place c) _ c.in_ok-at.was in
    omega arith

pub loop-at-preserved : goal.loop-at-preserved
loop-at-preserved c = (table_goes_on c.loop-at.invariant c.loop-at-test.true c.requires.fact_1.0 c.read_line.ensures (place c) _ c.in_ok-at.was).1

pub returns-in_err-at : goal.returns-in_err-at
returns-in_err-at c =
    rw c.from_residual.ensures (table_unread c.loop-at.invariant c.loop-at-test.true c.requires.fact_1.0 c.read_line.ensures c.in_err-at.was _)

pub returns : goal.returns
returns c = table_read_lem c.loop-at.invariant c.loop-at-test.false _
