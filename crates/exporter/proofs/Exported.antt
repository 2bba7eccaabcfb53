-- The answers of EXPORT: a refusal that is passed up, a buffer that is too short, and the lines.
use mathlib.Core.Path.{◌≡◌, refl, sym, ap, ◌∙◌}
use mathlib.Core.Bool.{true, false}
use mathlib.Core.List.{List}
use mathlib.Core.Option.{none, some}
use Prim.Native.Nat.{ℕ}
use borrow.Author.Tests.{leb-true, leb-false}
use lib.Dec.{leb}
use lib.ListN.{length}
use Rattle.tables.specs.Lists.{placed}
use Rattle.tables.specs.Refusals.{Refused, Given, Lent, first_applying, refused_with, tables_refusals, tables_call}
use Rattle.tables.proofs.Placed.{placed_start}
use Rattle.tables.proofs.Refusals.{lend_short, lend_long, lend_refused}
use Rattle.lines.specs.Lines.{lines_text}
use Rattle.lines.specs.Calls.{exported_lines, export_call}
use Rattle.lines.proofs.Written.{accepted_fits}
use Rattle.cells.specs.Code.{Sized, Places, place_in}
use Rattle.cells.specs.Reasons.{reason_number}
use Rattle.cells.specs.declared.Reason.{Reason}
use Rattle.cells.specs.declared.Place.{Place}
use Rattle.std.specs.Prelude.{Ok, Err}
use Rattle.cells.specs.declared.Layout.{Layout}
use Rattle.cells.proofs.Cells.{sized_is}
use Rattle.cells.proofs.Valid.{tables_refuse, tables_pass}
use Rattle.window.proofs.Shown.{window_claim}
use Rattle.exporter.specs.Code.{FirstTableAt, first_rows}

-- what the call does: the answer, and the buffer
abbrev Exports : List ℕ → List ℕ → Lent ℕ → Type 0
Exports file buffer does = (does.result ≡ (export_call file buffer).result) × (does.buffer ≡ (export_call file buffer).buffer)

exports : (file buffer : List ℕ) (does : Lent ℕ) → export_call file buffer ≡ does → Exports file buffer does
exports file buffer does e = (sym (ap (λ (l : Lent ℕ). l.result) e), sym (ap (λ (l : Lent ℕ). l.buffer) e))

export_refused : (file buffer : List ℕ) (n : ℕ) → first_applying (tables_refusals file) ≡ some n → Exports file buffer (refused_with n buffer)
unfolding export_call
export_refused file buffer n e = exports file buffer _ (lend_refused (tables_refusals file) (exported_lines file) buffer e)

module _ (file : List ℕ) (accepted : first_applying (tables_refusals file) ≡ none) where
  pub export_sized : Sized file
  export_sized = sized_is file (accepted_fits file accepted)

  -- the place of table 1, by the layout that `cells::layout_of` gives
  pub first_table : (g : Layout) (at : Place) → Places file g → at ≡ place_in g 1 → FirstTableAt file at
  first_table g at p e = record { fits = accepted_fits file accepted; place = e ∙ window_claim.made file g 0 p export_sized.tables_low }

  module _ (buffer : List ℕ) where
    pub export_short : leb (length (lines_text (first_rows file))) (length buffer) ≡ false → Exports file buffer (refused_with 12 buffer)
    unfolding export_call exported_lines
    export_short h = exports file buffer _ (lend_short (tables_refusals file) (exported_lines file) buffer accepted (leb-false _ _ h))

    pub export_put : (after : List ℕ) (n : ℕ) → leb (length (lines_text (first_rows file))) (length buffer) ≡ true
        → after ≡ placed buffer 0 (lines_text (first_rows file)) → n ≡ length (lines_text (first_rows file))
        → Exports file buffer (record { result = Given n; buffer = after })
    unfolding export_call exported_lines
    export_put after n h e f =
        let is = exports file buffer _ (lend_long (tables_refusals file) (exported_lines file) buffer accepted (leb-true _ _ h)) in
        (ap Given f ∙ is.0, e ∙ placed_start buffer (lines_text (first_rows file)) ∙ is.1)

-- what the test of the file tells
pub file_refused : (file buffer : List ℕ) (x : Reason) → Refused (reason_number x) ≡ tables_call file → Exports file buffer (refused_with (reason_number x) buffer)
file_refused file buffer x e = export_refused file buffer (reason_number x) (tables_refuse file (Err x) x refl e)

pub file_passed : (file : List ℕ) (u : Unit {0}) → Given u ≡ tables_call file → first_applying (tables_refusals file) ≡ none
file_passed file u e = tables_pass file (Ok u) refl e

pub ruleset table_exported = (export_sized, first_table, export_short, export_put)

pub ruleset lines_exported = (file_refused, file_passed)
