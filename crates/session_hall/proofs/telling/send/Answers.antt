use Rattle.std.proofs.Common.{◌++◌, ℕ, List, refl, ap, ◌∙◌}
use Rattle.block_machine.specs.Runners.{knowledge_of}
use Rattle.session_core.specs.Stands.{reply_of, served_of}
use Rattle.session_core.proofs.Knowing.{served_kept, tables_kept}
use Rattle.session_core.proofs.Serving.{sits_kept, sits_same}
use Rattle.session_hall.proofs.Turning.{turn_sent, turn_unsent}
use Rattle.session_hall.proofs.telling.send.Goals as goal

pub returns-in-Ok-clause-grows : goal.returns-in-Ok-clause-grows
returns-in-Ok-clause-grows c =
    let old = c.args.seat.now.session in
    let new = c.sent.new.self in
    turn_sent c.args.seat.now _ (reply_of old.stage old.runner old.startup.items) (record { words = refl; stream = refl }) refl
    (c.in-Ok.ensures.items ∙ ap (λ (x : List ℕ). c.args.seat.now.sent.items ++ x) c.reply.ensures.reply)
    c.requires.holding c.sent.ensures.grown (served_kept (knowledge_of old.runner) (knowledge_of new.runner) c.sent.ensures.known)
    (λ p sits. sits_same old new p sits c.sent.ensures.owed (tables_kept (knowledge_of old.runner) (knowledge_of new.runner) c.sent.ensures.known)
    c.sent.ensures.fit) c.sent.ensures.outer c.sent.ensures.lacks c.sent.ensures.last

pub returns-in-Err-clause-grows : goal.returns-in-Err-clause-grows
returns-in-Err-clause-grows c =
    let old = c.args.seat.now.session in
    let new = c.unsent.new.self in
    turn_unsent c.args.seat.now _ (reply_of old.stage old.runner old.startup.items) (record { words = refl; stream = refl }) refl
    c.in-Err.ensures.items
    c.requires.holding c.unsent.ensures.grown (ap served_of c.unsent.ensures.runner)
    (λ p sits. sits_kept old new p sits c.unsent.ensures.owed c.unsent.ensures.runner) c.unsent.ensures.outer c.unsent.ensures.lacks c.unsent.ensures.last
