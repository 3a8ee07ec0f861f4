use Rattle.history_log.proofs.Spelled.{residual, misread_value}
use Rattle.history_log.proofs.words.value_of.Goals as goal

pub returns-in_err-text_of-in-None : goal.returns-in_err-text_of-in-None
returns-in_err-text_of-in-None c = residual _ _ _ _ c.from_residual.ensures.1 (misread_value _ _ c.in_err-text_of-in-None.ensures c.in-None.ensures c.in_default.ensures)
