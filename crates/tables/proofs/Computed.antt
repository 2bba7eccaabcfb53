-- The sample file, and the files at the edges of the refusals, each as one computed fact.
use mathlib.Core.Path.{refl}
use Rattle.tables.specs.Cases.{edges, size_edges}
use Rattle.tables.specs.Claims.{SampleClaim, ComparisonsClaim, MarksClaim, ValuesClaim, SizesClaim, EdgesClaim}
use Rattle.tables.proofs.Opened.{opened}

pub sample_claim : SampleClaim
unfolding opened
sample_claim = refl

pub edges_claim : EdgesClaim
unfolding opened edges
edges_claim = refl

pub sizes_claim : SizesClaim
unfolding opened size_edges
sizes_claim = refl

pub comparisons_claim : ComparisonsClaim
comparisons_claim = refl

pub values_claim : ValuesClaim
values_claim = refl

pub marks_claim : MarksClaim
marks_claim = refl
