use Rattle.std.proofs.Common.{sym, subst}
use Rattle.client_framing.specs.declared.frontend_message.FrontendMessage.TheVariants as fronts
use Rattle.session_core.specs.declared.phase.Phase.TheVariants as phases
use Rattle.session_core.specs.declared.turns.SessionStep.{SessionStep}
use Rattle.session_core.specs.Steps.{Meets}
use Rattle.session_core.proofs.Meeting.{meets_function}
use Rattle.session_core.proofs.messages.call_function.Goals as goal

pub returns-clause-goes : goal.returns-clause-goes
returns-clause-goes c =
    subst (λ (x : SessionStep). Meets fronts.FunctionCall (phases.Normal c.args.state) c.args.runner.now x.stage c.fail.new.runner x.out_of_memory)
    (sym c.at_rest.ensures)
    (meets_function c.args.state c.args.runner.now c.fail.new.runner c.fail.ensures.goes)
