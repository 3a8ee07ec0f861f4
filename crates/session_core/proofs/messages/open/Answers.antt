-- What is left to show of `open`.
use Rattle.std.proofs.Common.{List, ℕ, None, refl, sym, subst}
use Rattle.client_framing.specs.declared.frontend_message.FrontendMessage.{FrontendMessage}
use Rattle.block_machine.specs.declared.block.Owed.TheVariants as owed_kinds
use Rattle.session_core.specs.declared.phase.Phase.TheVariants as phases
use Rattle.session_core.specs.declared.stage.Fatal.TheVariants as fatals
use Rattle.session_core.specs.declared.stage.Finish.TheVariants as finishes
use Rattle.session_core.specs.declared.stage.SessionReply.TheVariants as replies
use Rattle.session_core.specs.declared.stage.SessionStage.TheVariants as stages
use Rattle.session_core.specs.Users.{HasUser}
use Rattle.session_core.specs.Steps.{Meets}
use Rattle.session_core.proofs.Meeting.{meets_ssl, meets_gss, meets_cancel, meets_start, meets_userless, meets_version, leads_own}
use Rattle.session_core.proofs.messages.open.Goals as goal

pub returns-in-Ssl-clause-goes : goal.returns-in-Ssl-clause-goes
returns-in-Ssl-clause-goes c = λ r.
    subst (λ (x : FrontendMessage). Meets x phases.Startup r (stages.Telling replies.NoEncryption) r None) (sym c.in-Ssl.is) (meets_ssl r)

pub returns-in-Gss-clause-goes : goal.returns-in-Gss-clause-goes
returns-in-Gss-clause-goes c = λ r.
    subst (λ (x : FrontendMessage). Meets x phases.Startup r (stages.Telling replies.NoEncryption) r None) (sym c.in-Gss.is) (meets_gss r)

pub returns-in-Cancel-clause-goes : goal.returns-in-Cancel-clause-goes
returns-in-Cancel-clause-goes c = λ r.
    subst (λ (x : FrontendMessage). Meets x phases.Startup r (stages.Ended finishes.Cancelled) r None) (sym c.in-Cancel.is)
    (meets_cancel c.in-Cancel.field-0 c.in-Cancel.field-1 r)

pub returns-then-has_user-clause-goes : goal.returns-then-has_user-clause-goes
returns-then-has_user-clause-goes c = λ r.
    subst (λ (x : FrontendMessage). Meets x phases.Startup r stages.Opening r None) (sym c.in-Startup.is)
    (meets_start c.in-Startup.pairs r (subst (λ (x : List ((List ℕ) × (List ℕ))). HasUser x) c.as_slice.ensures
    (c.has_user.ensures.0 c.if-has_user.true)))

pub returns-else-has_user-clause-goes : goal.returns-else-has_user-clause-goes
returns-else-has_user-clause-goes c = λ r.
    subst (λ (x : FrontendMessage). Meets x phases.Startup r (stages.Parting fatals.NoUser) r None) (sym c.in-Startup.is)
    (meets_userless c.in-Startup.pairs r (λ has.
    let yes = c.has_user.ensures.1 (subst (λ (x : List ((List ℕ) × (List ℕ))). HasUser x) (sym c.as_slice.ensures) has) in
    let no = c.if-has_user.false in cc))

pub returns-else-has_user-clause-leads : goal.returns-else-has_user-clause-leads
returns-else-has_user-clause-leads c = λ r fit. leads_own owed_kinds.Nothing (stages.Parting fatals.NoUser) r refl refl refl refl tt fit

pub returns-in-Version-clause-goes : goal.returns-in-Version-clause-goes
returns-in-Version-clause-goes c = λ r.
    subst (λ (x : FrontendMessage). Meets x phases.Startup r (stages.Parting fatals.OtherVersion) r None) (sym c.in-Version.is)
    (meets_version c.in-Version.field-0 r)

pub returns-in-Version-clause-leads : goal.returns-in-Version-clause-leads
returns-in-Version-clause-leads c = λ r fit. leads_own owed_kinds.Nothing (stages.Parting fatals.OtherVersion) r refl refl refl refl tt fit
