-- One NOT after another.
use Rattle.std.proofs.Common.{refl, ap, ◌∙◌}
use Rattle.rule.specs.declared.Head.TheVariants.{UnaryHead}
use Rattle.entries.proofs.Nots.{under_none, under_more}
use Rattle.entries.proofs.under_nots.Goals as goal

pub loop-part-init : goal.loop-part-init
loop-part-init c = rw c.part_under-under.ensures (under_none, refl)

pub loop-part-preserved : goal.loop-part-preserved
loop-part-preserved c =
    let x = c.in-UnaryHead-Not in
    let is_not = x.is ∙ ap UnaryHead (rw x.is at x.field-0-is) in
    (rw c.other.ensures (under_more _ c.loop-part.invariant.0 c.loop-part.part c.loop-part.invariant.1 is_not), refl)
