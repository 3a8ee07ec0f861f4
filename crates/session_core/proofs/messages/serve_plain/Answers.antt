-- What is left to show of `serve_plain`.
use Rattle.std.proofs.Common.{[], None, refl, sym, ◌∙◌, subst}
use Rattle.client_framing.specs.declared.frontend_message.FrontendMessage.{FrontendMessage}
use Rattle.block_machine.specs.Messages.{owed_between}
use Rattle.block_machine.specs.declared.block.Owed.{Owed}
use Rattle.block_machine.specs.declared.end.End.TheVariants as ends
use Rattle.session_core.specs.declared.phase.Phase.TheVariants as phases
use Rattle.session_core.specs.declared.stage.SessionReply.TheVariants as replies
use Rattle.session_core.specs.declared.stage.SessionStage.TheVariants as stages
use Rattle.session_core.specs.Told.{ending}
use Rattle.session_core.specs.Steps.{LeadsTo, Meets}
use Rattle.session_core.proofs.Meeting.{meets_terminate, meets_sync, meets_extended, meets_flush, meets_copy, leads_own}
use Rattle.session_core.proofs.messages.serve_plain.Goals as goal

pub returns-in-Terminate-clause-goes : goal.returns-in-Terminate-clause-goes
returns-in-Terminate-clause-goes c = λ r.
    subst (λ (x : FrontendMessage). Meets x (phases.Normal c.args.state) r c.leave.result r None) (sym c.in-Terminate.is)
    (meets_terminate c.args.state c.leave.result r (subst
    (λ (x : Owed). LeadsTo c.leave.result (ending x ends.Terminated)) c.owed_between.ensures c.leave.ensures.leads))

pub returns-in-Terminate-clause-leads : goal.returns-in-Terminate-clause-leads
returns-in-Terminate-clause-leads c = λ r fit.
    leads_own (owed_between c.args.state) c.leave.result r (c.leave.ensures.owed r ∙ c.owed_between.ensures)
    (c.leave.ensures.under r) c.leave.ensures.outer
    (c.leave.ensures.lacks [] refl refl) c.leave.ensures.constant fit

pub returns-in-Sync-clause-goes : goal.returns-in-Sync-clause-goes
returns-in-Sync-clause-goes c = λ r.
    subst (λ (x : FrontendMessage). Meets x (phases.Normal c.args.state) r (stages.Telling (replies.Ready c.args.state)) r None) (sym c.in-Sync.is)
    (meets_sync c.args.state r)

pub returns-in-Sync-clause-leads : goal.returns-in-Sync-clause-leads
returns-in-Sync-clause-leads c =
    λ r fit. leads_own (owed_between c.args.state) (stages.Telling (replies.Ready c.args.state)) r refl refl refl refl tt fit

pub returns-in-Extended-clause-goes : goal.returns-in-Extended-clause-goes
returns-in-Extended-clause-goes c = λ r.
    subst (λ (x : FrontendMessage). Meets x (phases.Normal c.args.state) r c.refuse.result r None) (sym c.in-Extended.is)
    (meets_extended c.in-Extended.field-0 c.args.state c.refuse.result r c.refuse.ensures.busy (c.refuse.ensures.goes r))

pub returns-in-Extended-clause-leads : goal.returns-in-Extended-clause-leads
returns-in-Extended-clause-leads c = λ r fit.
    leads_own (owed_between c.args.state) c.refuse.result r (c.refuse.ensures.owed r)
    (c.refuse.ensures.under r) c.refuse.ensures.outer c.refuse.ensures.lacks
    c.refuse.ensures.constant fit

pub returns-in-Flush-clause-goes : goal.returns-in-Flush-clause-goes
returns-in-Flush-clause-goes c = λ r.
    subst (λ (x : FrontendMessage). Meets x (phases.Normal c.args.state) r (stages.Taking (phases.Normal c.args.state)) r None) (sym c.in-Flush.is)
    (meets_flush c.args.state r)

pub returns-in-Copy-clause-goes : goal.returns-in-Copy-clause-goes
returns-in-Copy-clause-goes c = λ r.
    subst (λ (x : FrontendMessage). Meets x (phases.Normal c.args.state) r (stages.Taking (phases.Normal c.args.state)) r None) (sym c.in-Copy.is)
    (meets_copy c.in-Copy.field-0 c.args.state r)
