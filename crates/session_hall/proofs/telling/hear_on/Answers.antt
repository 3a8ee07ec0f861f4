use Rattle.session_hall.proofs.Turning.{alone_same, alone_then}
use Rattle.session_hall.proofs.telling.hear_on.Goals as goal

pub returns-then-not-wants_bytes-clause-grows : goal.returns-then-not-wants_bytes-clause-grows
returns-then-not-wants_bytes-clause-grows c = alone_same c.args.seat.now

pub returns-in_err-settle-clause-grows : goal.returns-in_err-settle-clause-grows
returns-in_err-settle-clause-grows c = alone_then _ _ _ c.hear.ensures.grows c.settle.ensures.grows

pub returns-clause-grows : goal.returns-clause-grows
returns-clause-grows c = alone_then _ _ _ c.hear.ensures.grows c.settle.ensures.grows
