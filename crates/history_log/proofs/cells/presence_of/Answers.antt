use Rattle.history_log.proofs.Spelled.{residual}
use Rattle.history_log.proofs.Misreads.{from_end, presence_parts, tail}
use Rattle.history_log.proofs.cells.presence_of.Goals as goal

pub returns-in_err-take_end : goal.returns-in_err-take_end
returns-in_err-take_end c = residual _ _ _ _ c.from_residual-in_err-take_end.ensures.1 (from_end _ _ _ _ c.in_err-take_end.ensures (λ y is. let f = presence_parts y _ is in tail c.in_ok-key.ensures.1 (tail c.in_ok-table.ensures.1 f.4)))
