-- A `!` is a declined cell; any other byte, and the end of the text, leave the field empty.
use Rattle.importer.proofs.Fields.{ended_field, blank_field, declined_field_lem}
use Rattle.importer.proofs.other_field.Goals as goal
use Rattle.importer.proofs.other_field.Goals.{else-i-text-via-then-i-text+else-text-i-eq33, else-i-text-via-else-i-text}

pub returns-then-text-i-eq33 : goal.returns-then-text-i-eq33
returns-then-text-i-eq33 c = declined_field_lem _ _ c.requires.fact_2 c.if-i-text.true c.if-text-i-eq33.true

pub returns-else-i-text : goal.returns-else-i-text
returns-else-i-text c =
    elim c.else-i-text.branch [
      | else-i-text-via-then-i-text+else-text-i-eq33 w ↦ blank_field _ _ c.requires.fact_2 w.if-i-text.true w.if-text-i-eq33.false
      | else-i-text-via-else-i-text w ↦ ended_field _ _ c.requires.fact_2 w.if-i-text.false c.requires.fact_1
    ]
