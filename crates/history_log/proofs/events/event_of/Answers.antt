use Rattle.std.proofs.Common.{◌∙◌}
use Rattle.history_log.proofs.EventForms.{not_initial, not_order, not_end}
use Rattle.history_log.proofs.events.event_of.Goals as goal

pub returns-in-Initial : goal.returns-in-Initial
returns-in-Initial c = λ e is. not_initial c.args.version c.args.head c.args.words.now e (is.0, is.1, is.2 ∙ c.in-Initial.is, is.3)

pub returns-in-Order : goal.returns-in-Order
returns-in-Order c = λ e is. not_order c.args.version c.args.head c.args.words.now e (is.0, is.1, is.2 ∙ c.in-Order.is, is.3)

pub returns-in-End : goal.returns-in-End
returns-in-End c = λ e is. not_end c.args.version c.args.head c.args.words.now e (is.0, is.1, is.2 ∙ c.in-End.is, is.3)
