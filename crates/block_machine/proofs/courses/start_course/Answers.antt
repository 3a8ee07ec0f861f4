use Rattle.std.proofs.Common.{arith}
use Rattle.block_machine.proofs.Pursuing.{start_goes, at_rest_some}
use Rattle.block_machine.proofs.courses.start_course.Goals as goal

pub returns-in-Begun-clause-goes : goal.returns-in-Begun-clause-goes
returns-in-Begun-clause-goes c = λ known.
    start_goes c.args.plan c.args.description c.args.answer c.in-Begun.field-0 c.settle-stage.result c.or_short.result.stage c.or_short.result.out_of_memory c.settle-stage.new.built.items known
    c.in-Begun.is c.settle-stage.ensures.goes c.or_short.ensures.goes

pub returns-in-Begun-clause-work : goal.returns-in-Begun-clause-work
returns-in-Begun-clause-work c = c.or_short.ensures.work 4 (omega arith) c.settle-stage.ensures.work

pub returns-in-Refused-clause-some : goal.returns-in-Refused-clause-some
returns-in-Refused-clause-some c = at_rest_some c.at_rest.result c.fail.result c.args.built.now.items c.at_rest.ensures c.fail.ensures.constant
