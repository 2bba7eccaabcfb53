-- A refusal, or the file of what was kept.
use Rattle.std.proofs.Common.{ℕ, ◌+◌, ◌*◌, ◌≤◌, length, sym, subst, arith}
use Rattle.tables.specs.Refusals.{Refused}
use Rattle.importer.proofs.Calls.{Imports, rows_refused, cells_refused, room_refused, file_given, read_told, cells_kept}
use Rattle.importer.proofs.import_kept.Goals as goal
use Rattle.importer.proofs.import_kept.Goals.{then-rows-gt-MOST_ROWS-via-then-rows-gt-MOST_ROWS, then-rows-gt-MOST_ROWS-via-else-rows-gt-MOST_ROWS+then-rows-columns-gt-MOST_CELLS}

pub returns-then-rows-gt-MOST_ROWS : goal.returns-then-rows-gt-MOST_ROWS
returns-then-rows-gt-MOST_ROWS c =
    let told = read_told _ _ _ _ c.read_lines.ensures.counted c.in_ok-rows.ensures.value in
    let p : Imports c.args.text.now c.args.columns c.args.out.now (Refused 15) c.args.out.now = elim c.then-rows-gt-MOST_ROWS.branch [
      | then-rows-gt-MOST_ROWS-via-then-rows-gt-MOST_ROWS w ↦
          rows_refused c.args.text.now c.args.columns c.args.out.now c.requires.fact_1.0 c.requires.fact_1.1 told.0 told.1 _ told.2 w.if-rows-gt-MOST_ROWS.true
      | then-rows-gt-MOST_ROWS-via-else-rows-gt-MOST_ROWS+then-rows-columns-gt-MOST_CELLS w ↦
          cells_refused c.args.text.now c.args.columns c.args.out.now c.requires.fact_1.0 c.requires.fact_1.1 told.0 told.1 _ told.2 w.if-rows-gt-MOST_ROWS.false w.if-rows-columns-gt-MOST_CELLS.true
    ] in
    record { answer = p.0; written = p.1 }

pub returns-then-out-length : goal.returns-then-out-length
returns-then-out-length c =
    let told = read_told _ _ _ _ c.read_lines.ensures.counted c.in_ok-rows.ensures.value in
    let p = room_refused c.args.text.now c.args.columns c.args.out.now c.requires.fact_1.0 c.requires.fact_1.1 told.0 told.1 _ told.2 (omega arith) (omega arith) c.if-out-length.true in
    record { answer = p.0; written = p.1 }

pub returns : goal.returns
returns c =
    let kept = c.read_lines.ensures in
    let told = read_told _ _ _ _ kept.counted c.in_ok-rows.ensures.value in
    -- there was room for all of their cells
    let bound = subst (λ (n : ℕ). n * c.args.columns ≤ length c.args.text.now + 1) (sym told.2) (kept.bound told.0 told.1) in
    let room = cells_kept c.args.text.now _ _ c.requires.fact_3 bound (omega arith) in
    let p = file_given c.args.text.now c.args.columns c.args.out.now c.requires.fact_1.0 c.requires.fact_1.1 told.0 told.1 _ told.2 (omega arith) (omega arith) _ _ _ (omega arith)
    (kept.kept told.0 told.1 (omega (arith, told.2)) (subst (λ (n : ℕ). n * c.args.columns ≤ length c.args.marks.now) told.2 room)) c.write_table.ensures in
    record { answer = p.0; written = p.1 }
