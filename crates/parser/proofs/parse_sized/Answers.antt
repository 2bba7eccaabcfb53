use native.Mathlib.Omega.{arith}
use Rattle.parser.proofs.Groups.{text_ready}
use Rattle.parser.proofs.parse_sized.Goals as goal

pub parse_text-requires-clause-fact_1 : goal.parse_text-requires-clause-fact_1
parse_text-requires-clause-fact_1 g c = text_ready _ _ c.requires.fact_1 (omega arith)
