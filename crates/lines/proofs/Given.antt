-- With the room that the header names both calls give their answer, and a status of 0 means that there is one.
use mathlib.Core.Path.{◌≡◌, refl, sym, ap, ◌∙◌}
use mathlib.Core.Bool.{true, not}
use mathlib.Core.List.{List, []}
use mathlib.Core.Option.{none}
use Prim.Native.Nat.{ℕ, ◌≤◌}
use native.Mathlib.Omega.{arith}
use borrow.Author.Tests.{not-false}
use lib.ListN.{length}
use Rattle.tables.specs.Refusals.{first_applying, Lent, lend, tables_refusals}
use Rattle.tables.specs.Exports.{is_given}
use Rattle.tables.proofs.Refusals.{none_first, lend_long}
use Rattle.tables.proofs.Status.{also_above, lent, room_above}
use Rattle.lines.specs.Lines.{lines_of, table_read}
use Rattle.lines.specs.Calls.{fields_fit, counts_fit, import_refusals, imported_file, import_call, exported_lines, export_call}
use Rattle.lines.specs.Claims.{most_imported, LinesRoomClaim, LinesStatusClaim}
use Rattle.lines.proofs.Grammar.{line_grammar_claim}
use Rattle.lines.proofs.Importing.{fit_told, file_is, lines_fit, table_most}
use Rattle.lines.proofs.Written.{accepted_fits, table_most as lines_most}

-- no refusal of IMPORT's own: so its file has no more than the most bytes
imported_most : (text : List ℕ) (columns : ℕ) → first_applying (import_refusals text columns) ≡ none → length (imported_file text columns) ≤ most_imported
unfolding import_refusals
imported_most text columns e =
    let (fields, rest) = none_first 14 (not (fields_fit columns (table_read text))) _ e in
    let (counts, nothing) = none_first 15 (not (counts_fit columns (length (lines_of text)))) [] rest in
    let (rows, lines) = fit_told text columns (not-false _ fields) in
    let n = line_grammar_claim.counted text rows lines.lines in
    let small : counts_fit columns (length rows) ≡ true = ap (counts_fit columns) (sym n) ∙ not-false _ counts in
    omega (arith, ap length (file_is text columns rows lines), table_most columns rows lines.allowed lines.counted (lines_fit text rows lines.lines) small)

pub lines_room_claim : LinesRoomClaim
unfolding import_call export_call exported_lines
lines_room_claim = record {
  numbers = (refl, refl);
  importing = λ text buffer columns e h.
      ap (λ (l : Lent ℕ). is_given l.result) (lend_long (import_refusals text columns) (imported_file text columns) buffer e (omega (arith, imported_most text columns e)));
  exporting = λ file buffer e h.
      ap (λ (l : Lent ℕ). is_given l.result) (lend_long (tables_refusals file) (exported_lines file) buffer e (omega (arith, lines_most file (accepted_fits file e))));
}

pub lines_status_claim : LinesStatusClaim
unfolding import_call export_call lend import_refusals tables_refusals
lines_status_claim = record {
  importing = λ text buffer columns. lent _ _ buffer (also_above 14 _ _ (omega arith) (also_above 15 _ _ (omega arith) (room_above _)));
  exporting = λ file buffer. lent _ _ buffer (also_above 1 _ _ (omega arith) (also_above 2 _ _ (omega arith) (room_above _)));
}
