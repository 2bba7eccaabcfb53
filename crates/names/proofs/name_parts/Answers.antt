-- All the notes are those of one condition, around which m alone is bound.
use Rattle.names.proofs.Placing.{whole_run, whole_result}
use Rattle.names.proofs.name_parts.Goals as goal

pub place-requires : goal.place-requires
place-requires c = whole_run c.requires c.outermost.ensures

pub returns : goal.returns
returns c = λ q. rw c.is_some.ensures (whole_result q c.outermost.ensures _ _ c.place.result (c.place.ensures (whole_run q c.outermost.ensures)))
