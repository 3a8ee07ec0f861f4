-- What is left to show of `discard`.
use Rattle.std.proofs.Common.{[], None, refl, sym, ◌∙◌, subst}
use Rattle.client_framing.specs.declared.frontend_message.FrontendMessage.{FrontendMessage}
use Rattle.block_machine.specs.Messages.{owed_between}
use Rattle.block_machine.specs.declared.block.Owed.{Owed}
use Rattle.block_machine.specs.declared.end.End.TheVariants as ends
use Rattle.session_core.specs.declared.phase.Phase.TheVariants as phases
use Rattle.session_core.specs.declared.stage.SessionReply.TheVariants as replies
use Rattle.session_core.specs.declared.stage.SessionStage.TheVariants as stages
use Rattle.session_core.specs.Told.{ending}
use Rattle.session_core.specs.Steps.{LeadsTo, Meets}
use Rattle.session_core.proofs.Meeting.{drops_terminate, drops_sync, drops_query, drops_flush, drops_extended, drops_function, drops_copy, leads_own}
use Rattle.session_core.proofs.messages.discard.Goals as goal

pub returns-in-Terminate-clause-goes : goal.returns-in-Terminate-clause-goes
returns-in-Terminate-clause-goes c = λ r.
    subst (λ (x : FrontendMessage). Meets x (phases.Discarding c.args.state) r c.leave.result r None) (sym c.in-Terminate.is)
    (drops_terminate c.args.state c.leave.result r (subst
    (λ (x : Owed). LeadsTo c.leave.result (ending x ends.Terminated)) c.owed_between.ensures c.leave.ensures.leads))

pub returns-in-Terminate-clause-leads : goal.returns-in-Terminate-clause-leads
returns-in-Terminate-clause-leads c = λ r fit.
    leads_own (owed_between c.args.state) c.leave.result r (c.leave.ensures.owed r ∙ c.owed_between.ensures)
    (c.leave.ensures.under r) c.leave.ensures.outer
    (c.leave.ensures.lacks [] refl refl) c.leave.ensures.constant fit

pub returns-in-Sync-clause-goes : goal.returns-in-Sync-clause-goes
returns-in-Sync-clause-goes c = λ r.
    subst (λ (x : FrontendMessage). Meets x (phases.Discarding c.args.state) r (stages.Telling (replies.Ready c.args.state)) r None)
    (sym c.in-Sync.is) (drops_sync c.args.state r)

pub returns-in-Sync-clause-leads : goal.returns-in-Sync-clause-leads
returns-in-Sync-clause-leads c =
    λ r fit. leads_own (owed_between c.args.state) (stages.Telling (replies.Ready c.args.state)) r refl refl refl refl tt fit

pub returns-in-Query-clause-goes : goal.returns-in-Query-clause-goes
returns-in-Query-clause-goes c = λ r.
    subst (λ (x : FrontendMessage). Meets x (phases.Discarding c.args.state) r (stages.Taking (phases.Discarding c.args.state)) r None)
    (sym c.in-Query.is)
    (drops_query c.in-Query.field-0 c.args.state r)

pub returns-in-Flush-clause-goes : goal.returns-in-Flush-clause-goes
returns-in-Flush-clause-goes c = λ r.
    subst (λ (x : FrontendMessage). Meets x (phases.Discarding c.args.state) r (stages.Taking (phases.Discarding c.args.state)) r None)
    (sym c.in-Flush.is)
    (drops_flush c.args.state r)

pub returns-in-Extended-clause-goes : goal.returns-in-Extended-clause-goes
returns-in-Extended-clause-goes c = λ r.
    subst (λ (x : FrontendMessage). Meets x (phases.Discarding c.args.state) r (stages.Taking (phases.Discarding c.args.state)) r None)
    (sym c.in-Extended.is)
    (drops_extended c.in-Extended.field-0 c.args.state r)

pub returns-in-FunctionCall-clause-goes : goal.returns-in-FunctionCall-clause-goes
returns-in-FunctionCall-clause-goes c = λ r.
    subst (λ (x : FrontendMessage). Meets x (phases.Discarding c.args.state) r (stages.Taking (phases.Discarding c.args.state)) r None)
    (sym c.in-FunctionCall.is)
    (drops_function c.args.state r)

pub returns-in-Copy-clause-goes : goal.returns-in-Copy-clause-goes
returns-in-Copy-clause-goes c = λ r.
    subst (λ (x : FrontendMessage). Meets x (phases.Discarding c.args.state) r (stages.Taking (phases.Discarding c.args.state)) r None)
    (sym c.in-Copy.is)
    (drops_copy c.in-Copy.field-0 c.args.state r)
