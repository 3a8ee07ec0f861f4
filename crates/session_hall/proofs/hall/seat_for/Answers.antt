use Rattle.std.proofs.Common.{refl, ap, ◌∙◌}
use Rattle.block_machine.specs.Knowledge.{Knowledge}
use Rattle.session_hall.proofs.Opening.{seated_new}
use Rattle.session_hall.proofs.hall.seat_for.Goals as goal

pub returns : goal.returns
returns c =
    let new = c.in_ok-new.ensures in
    seated_new c.args.level c.args.client _ new.empty new.stage new.level (ap (λ (k : Knowledge). k.tables) new.known) new.fit
    (c.new-2.ensures ∙ c.from_vec.ensures) refl refl c.new-3.ensures.items refl
