use Rattle.std.proofs.Common.{refl}
use Rattle.block_machine.specs.Runners.{knowledge_of}
use Rattle.session_core.proofs.Knowing.{served_kept, tables_kept}
use Rattle.session_core.proofs.Serving.{sits_same}
use Rattle.session_hall.proofs.Turning.{turn_taken}
use Rattle.session_hall.proofs.telling.take.Goals as goal

pub returns-clause-grows : goal.returns-clause-grows
returns-clause-grows c =
    let old = c.args.seat.now.session in
    let new = c.take.new.self in
    turn_taken c.args.seat.now _ (record { words = refl; stream = refl }) refl refl c.requires.wanted c.take.ensures.grown
    (served_kept (knowledge_of old.runner) (knowledge_of new.runner) c.take.ensures.known)
    (λ p sits. sits_same old new p sits c.take.ensures.owed (tables_kept (knowledge_of old.runner) (knowledge_of new.runner) c.take.ensures.known)
    c.take.ensures.fit) c.take.ensures.outer c.take.ensures.lacks
