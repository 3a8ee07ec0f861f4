use Rattle.std.proofs.Common.{arith}
use Rattle.block_machine.specs.Settings.{value_of}
use Rattle.block_machine.proofs.Carried.{quiet_running, work_still}
use Rattle.block_machine.proofs.Pursuing.{at_rest_some}
use Rattle.block_machine.proofs.Taking.{leads_value}
use Rattle.block_machine.proofs.actions.show_value.Goals as goal

pub returns-in-Some-clause-goes : goal.returns-in-Some-clause-goes
returns-in-Some-clause-goes c =
    leads_value c.args.description c.args.name.now c.in-Some.value.now (value_of c.args.level c.args.name.now) c.args.block c.tell_setting.result c.or_short.result.stage c.or_short.result.out_of_memory c.tell_setting.new.built.items
    c.in-Some.ensures.some c.tell_setting.ensures.goes c.or_short.ensures.goes

pub returns-in-Some-clause-work : goal.returns-in-Some-clause-work
returns-in-Some-clause-work c =
    work_still 3 c.tell_setting.result c.or_short.result.stage (omega arith) c.tell_setting.ensures.work c.or_short.ensures.work
    (quiet_running c.or_short.result.stage (c.or_short.ensures.quiet c.tell_setting.ensures.quiet))

pub returns-in-None-clause-some : goal.returns-in-None-clause-some
returns-in-None-clause-some c = at_rest_some c.at_rest.result c.fail.result c.args.built.now.items c.at_rest.ensures c.fail.ensures.constant
