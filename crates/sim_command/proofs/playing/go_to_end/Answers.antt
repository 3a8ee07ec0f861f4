use Rattle.std.proofs.Common.{◌∙◌, subst}
use Rattle.session_hall.specs.declared.client.Stepped.{Stepped}
use Rattle.session_hall.specs.declared.client.Stepped.TheVariants.{Called, Ended}
use Rattle.sim_command.specs.Simulations.{GoesOn, GoesToEnd}
use Rattle.sim_command.specs.Playing.{Goes, IsStepOf, AreNone}
use Rattle.sim_command.proofs.Plays.{plays_on, goes_on, ends, with_none}
use Rattle.sim_command.proofs.playing.go_to_end.Goals as goal

pub returns-in-Err-clause-cut : goal.returns-in-Err-clause-cut
returns-in-Err-clause-cut c = λ is.
    let cut = c.in-Err.ensures.cut is in (
      cut.0,
      plays_on (GoesOn c.args.client) AreNone (GoesOn c.args.client) (with_none (GoesOn c.args.client)) c.args.left.now c.loop-fault.left c.step.new.left c.args.hall.now c.loop-fault.hall c.step.new.hall
          c.loop-fault.invariant.goes cut.1,
    )

pub loop-fault-preserved : goal.loop-fault-preserved
loop-fault-preserved c =
    let ok =
    subst (λ (s : Stepped). Goes (IsStepOf c.args.client s) c.loop-fault.left c.loop-fault.hall c.step.new.left c.step.new.hall) c.in-Ok-Called.field-0-is
    c.in-Ok-Called.ensures.ok in
    record {
      goes = plays_on (GoesOn c.args.client) (IsStepOf c.args.client Called) (GoesOn c.args.client) (goes_on c.args.client) c.args.left.now c.loop-fault.left
          c.step.new.left c.args.hall.now c.loop-fault.hall c.step.new.hall c.loop-fault.invariant.goes ok;
      hall = c.step.ensures.hall;
      range = c.step.ensures.range ∙ c.loop-fault.invariant.range;
    }

pub returns-in-Ok-Ended-clause-ok : goal.returns-in-Ok-Ended-clause-ok
returns-in-Ok-Ended-clause-ok c =
    let ok =
    subst (λ (s : Stepped). Goes (IsStepOf c.args.client s) c.loop-fault.left c.loop-fault.hall c.step.new.left c.step.new.hall) c.in-Ok-Ended.field-0-is
    c.in-Ok-Ended.ensures.ok in
    plays_on (GoesOn c.args.client) (IsStepOf c.args.client Ended) (GoesToEnd c.args.client) (ends c.args.client) c.args.left.now c.loop-fault.left
    c.step.new.left c.args.hall.now c.loop-fault.hall c.step.new.hall c.loop-fault.invariant.goes ok
