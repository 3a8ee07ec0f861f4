use Rattle.std.proofs.Common.{◌<◌, All}
use Rattle.session_hall.specs.declared.client.Client.{Client as Known}
use Rattle.hall_cases.proofs.playing.clients.Given as goal

abbrev pub invariant-loop-session : goal.invariant-loop-session
invariant-loop-session l = All (λ (c : Known). 0 < c.piece) l.out.items
