use Rattle.std.proofs.Common.{◌∙◌}
use Rattle.std.specs.Vec.Iter.{into_iter_items}
use Rattle.block_machine.specs.Messages.{before}
use Rattle.block_machine.proofs.driving.go_on.Goals as goal

pub returns-in-Some-clause-goes : goal.returns-in-Some-clause-goes
returns-in-Some-clause-goes c = λ outside said es from. c.sent.ensures.goes (before (into_iter_items c.args.rest.now) outside) outside said es

pub returns-in-None-clause-goes : goal.returns-in-None-clause-goes
returns-in-None-clause-goes c = λ outside said es from.
    c.sent.ensures.goes (before (into_iter_items c.args.rest.now) outside) outside said _ ∙ c.after_statement.ensures.goes outside said es from
