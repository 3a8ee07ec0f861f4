-- What is left to show of `answer_own`.
use Rattle.std.proofs.Common.{sym, subst}
use Rattle.block_machine.specs.declared.call.Answer.{Answer}
use Rattle.session_core.specs.declared.stage.SessionStage.{SessionStage}
use Rattle.session_core.specs.declared.stage.SessionStage.TheVariants as stages
use Rattle.session_core.specs.declared.turns.SessionStep.{SessionStep}
use Rattle.session_core.specs.Stands.{HasReply}
use Rattle.session_core.specs.Steps.{Advances}
use Rattle.session_core.proofs.Somes.{plain_some}
use Rattle.session_core.proofs.answers.answer_own.Goals as goal

pub returns-in-Opening-Opened-clause-goes : goal.returns-in-Opening-Opened-clause-goes
returns-in-Opening-Opened-clause-goes c = λ r.
    subst (λ (x : SessionStage). Advances x r c.args.answer c.tell_startup.result.stage r c.tell_startup.result.out_of_memory c.tell_startup.new.startup.items)
    (sym c.in-Opening-Opened.is-0)
    (subst (λ (x : Answer). Advances stages.Opening r x c.tell_startup.result.stage r c.tell_startup.result.out_of_memory c.tell_startup.new.startup.items)
    (sym c.in-Opening-Opened.is-1)
    (c.tell_startup.ensures.goes r))

pub returns-in_default-clause-goes : goal.returns-in_default-clause-goes
returns-in_default-clause-goes c = λ r.
    subst (λ (x : SessionStep). Advances c.args.stage r c.args.answer x.stage r x.out_of_memory c.args.startup.now.items) (sym c.at_rest.ensures)
    (c.advance.ensures.goes r c.args.startup.now.items)

pub returns-in_default-clause-some : goal.returns-in_default-clause-some
returns-in_default-clause-some c = λ r.
    subst (λ (x : SessionStep). HasReply x.stage r c.args.startup.now.items) (sym c.at_rest.ensures)
    (plain_some c.advance.result r c.args.startup.now.items c.advance.ensures.constant)
