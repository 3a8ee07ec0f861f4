-- What is left to show of `break_off`.
use Rattle.std.proofs.Common.{[], ◌≤◌, ap, refl, sym, ◌∙◌, subst}
use Rattle.block_machine.specs.declared.block.Owed.{Owed}
use Rattle.block_machine.specs.declared.end.End.TheVariants as ends
use Rattle.session_core.specs.declared.turns.SessionStep.{SessionStep}
use Rattle.session_core.specs.Told.{ending, owed_by}
use Rattle.session_core.specs.Stands.{InPhase, work_at}
use Rattle.session_core.specs.Steps.{Leads, LeadsTo}
use Rattle.session_core.proofs.Meeting.{leads_own}
use Rattle.session_core.proofs.messages.break_off.Goals as goal

pub returns-in-Memory-clause-leads : goal.returns-in-Memory-clause-leads
returns-in-Memory-clause-leads c = λ r fit.
    leads_own (owed_by c.args.phase) c.leave.result r (c.leave.ensures.owed r ∙ c.owed_by.ensures)
    (c.leave.ensures.under r) c.leave.ensures.outer
    (c.leave.ensures.lacks [] refl refl) c.leave.ensures.constant fit

pub returns-in_default : goal.returns-in_default
returns-in_default c = record {
  memory = λ is. absurd (c.in_default.not-Memory is);
  protocol = λ other. (
    ap (λ (x : SessionStep). x.out_of_memory) c.at_rest.ensures,
    subst (λ (x : SessionStep). LeadsTo x.stage (ending (owed_by c.args.phase) (ends.Protocol c.args.fault))) (sym c.at_rest.ensures)
        (subst (λ (x : Owed). LeadsTo c.leave-in_default.result (ending x (ends.Protocol c.args.fault))) c.owed_by-in_default.ensures
        c.leave-in_default.ensures.leads),
  );
  leads = λ r fit.
      subst (λ (x : SessionStep). Leads (owed_by c.args.phase) r x.stage r) (sym c.at_rest.ensures)
      (leads_own (owed_by c.args.phase) c.leave-in_default.result r (c.leave-in_default.ensures.owed r ∙ c.owed_by-in_default.ensures)
      (c.leave-in_default.ensures.under r)
      c.leave-in_default.ensures.outer (c.leave-in_default.ensures.lacks [] refl refl) c.leave-in_default.ensures.constant fit);
  work = subst (λ (x : SessionStep). work_at x.stage ≤ 3) (sym c.at_rest.ensures) c.leave-in_default.ensures.work;
  phase = λ started. subst (λ (x : SessionStep). InPhase x.stage started) (sym c.at_rest.ensures) (c.leave-in_default.ensures.phase started);
}
