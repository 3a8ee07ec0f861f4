use Rattle.history_log.proofs.GoesOn.{nothing_after}
use Rattle.history_log.proofs.lines.take_line.Goals as goal

pub returns-in-Done-clause-form : goal.returns-in-Done-clause-form
returns-in-Done-clause-form c = λ err g. nothing_after c.args.draft.now c.requires c.in-Done.is c.args.line.now g
