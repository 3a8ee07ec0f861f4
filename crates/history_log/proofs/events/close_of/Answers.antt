use Rattle.history_log.proofs.Spelled.{residual}
use Rattle.history_log.proofs.Misreads.{from_reads}
use Rattle.history_log.proofs.EventForms.{found_close}
use Rattle.history_log.proofs.events.close_of.Goals as goal

pub returns-in_err-session : goal.returns-in_err-session
returns-in_err-session c = residual _ _ _ _ c.from_residual.ensures.1 (from_reads _ _ _ _ _ c.in_err-session.ensures (found_close c.args._version c.args._head c.args.words.now))
