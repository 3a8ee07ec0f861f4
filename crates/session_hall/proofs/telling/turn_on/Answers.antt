use Rattle.session_hall.proofs.Turning.{alone_then}
use Rattle.session_hall.proofs.telling.turn_on.Goals as goal

pub returns-in_err-send_on-clause-grows : goal.returns-in_err-send_on-clause-grows
returns-in_err-send_on-clause-grows c = alone_then _ _ _ c.turn.ensures.grows c.send_on.ensures.grows

pub returns-clause-grows : goal.returns-clause-grows
returns-clause-grows c = alone_then _ _ _ c.turn.ensures.grows c.send_on.ensures.grows
