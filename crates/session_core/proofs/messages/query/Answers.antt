use Rattle.std.proofs.Common.{sym, subst}
use Rattle.client_framing.specs.declared.frontend_message.FrontendMessage.TheVariants as fronts
use Rattle.session_core.specs.declared.phase.Phase.TheVariants as phases
use Rattle.session_core.specs.declared.stage.SessionStage.{SessionStage}
use Rattle.session_core.specs.Steps.{Meets}
use Rattle.session_core.proofs.Meeting.{meets_query, meets_unread}
use Rattle.session_core.proofs.messages.query.Goals as goal

pub returns-in-Ok-clause-goes : goal.returns-in-Ok-clause-goes
returns-in-Ok-clause-goes c =
    subst (λ (x : SessionStage). Meets (fronts.Query c.args.text.now)
    (phases.Normal c.args.state) c.args.runner.now x c.run.new.runner c.run.result.out_of_memory) (sym c.run.ensures.stage)
    (meets_query c.args.text.now c.in-Ok.message c.args.state c.args.runner.now c.run.new.runner c.run.result.out_of_memory
    c.in-Ok.ensures.message c.run.ensures.passing c.run.ensures.goes)

pub returns-in-Err-clause-goes : goal.returns-in-Err-clause-goes
returns-in-Err-clause-goes c = meets_unread c.args.text.now c.args.state c.args.runner.now c.fail.new.runner c.fail.ensures.goes
