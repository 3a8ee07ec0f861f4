use Rattle.history_log.proofs.Spelled.{residual}
use Rattle.history_log.proofs.Misreads.{from_end, tail}
use Rattle.history_log.proofs.shapes.session_of.Goals as goal

pub returns-in_err-take_end : goal.returns-in_err-take_end
returns-in_err-take_end c = residual _ _ _ _ c.from_residual-in_err-take_end.ensures.1 (from_end _ _ _ _ c.in_err-take_end.ensures (λ y is. tail c.in_ok-session.ensures.1 is.1))
