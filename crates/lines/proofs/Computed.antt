-- The cases, by computing them.
use mathlib.Core.Path.{refl}
use Rattle.lines.specs.Claims.{LinesCasesClaim}
use Rattle.lines.specs.Cases.{import_given, import_refused, import_edges, export_cases}
use Rattle.lines.proofs.Opened.{opened}

pub lines_cases_claim : LinesCasesClaim
unfolding opened import_given import_refused import_edges export_cases
lines_cases_claim = record { imported = refl; refused = refl; edges = refl; exported = refl }
