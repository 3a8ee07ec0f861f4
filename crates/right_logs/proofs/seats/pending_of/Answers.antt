use Rattle.std.proofs.Common.{refl}
use Rattle.right_logs.proofs.Still.{some_pending}
use Rattle.right_logs.proofs.seats.pending_of.Goals as goal

pub returns-in-Some : goal.returns-in-Some
returns-in-Some c = some_pending c.args.notes.now c.args.session c.in-Some.note c.in-Some.note.pending c.in-Some.ensures refl
