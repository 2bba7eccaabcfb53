use Rattle.std.proofs.Common.{◌≡◌, sym, ◌∙◌, rules}
use Rattle.card.specs.Sound.{sound}
use Rattle.card.proofs.Claims.{calls_claim}
use Rattle.checker.proofs.check.Goals as goal

pub returns-then-with_room : goal.returns-then-with_room
returns-then-with_room c =
    let is : c.with_room.result ≡ sound c.args.card.now = search rules in
    sym (calls_claim.check_sound _ (sym is ∙ c.if-with_room.true))

pub returns-else-with_room : goal.returns-else-with_room
returns-else-with_room c =
    let is : c.with_room.result ≡ sound c.args.card.now = search rules in
    sym (calls_claim.check_unsound _ (sym is ∙ c.if-with_room.false))
