-- What is kept is the hall that was played.
use Rattle.std.proofs.Common.{◌≡◌, ℕ, List, refl, sym, subst}
use Rattle.std.specs.Prelude.{Some, Result, Ok, Err, IfOk, OnOk, IfErr}
use Rattle.history_core.specs.Chronicle.{Chronicle}
use Rattle.session_hall.specs.declared.hall.Hall.{Hall}
use Rattle.session_hall.specs.Halls.{IsHall}
use Rattle.sim_command.specs.Simulations.{IsSimulation, IsCutOff}
use Rattle.sim_command.specs.declared.playing.SimFault.{SimFault}
use Rattle.sim_command.specs.declared.playing.SimFault.TheVariants as faults
use Rattle.sim_command.proofs.command.played.Goals as goal

held : (P : Hall → Type 0) (hall : Hall) (step : Result (Unit {0}) SimFault) (result : Result Hall SimFault) → IfOk result (λ kept. kept ≡ hall) →
    OnOk result (step ≡ Ok tt) → OnOk step (P hall) → IfOk result P
held P hall step (Ok kept) same taken holds =
    subst P (sym same) (subst (λ (s : Result (Unit {0}) SimFault). OnOk s (P hall)) taken holds)
held P hall step (Err fault) same taken holds = tt

refused : (P : SimFault → Type 0) (step : Result (Unit {0}) SimFault) (result : Result Hall SimFault) → IfErr result (λ fault. step ≡ Err fault) →
    IfErr step P → IfErr result P
refused P step (Ok kept) is holds = tt
refused P step (Err fault) is holds = subst (λ (s : Result (Unit {0}) SimFault). IfErr s P) is holds

all : (P : Hall → Type 0) (hall : Hall) (result : Result Hall SimFault) → IfOk result (λ kept. kept ≡ hall) → P hall → IfOk result P
all P hall (Ok kept) same holds = subst P (sym same) holds
all P hall (Err fault) same holds = tt

pub returns-clause-ok : goal.returns-clause-ok
returns-clause-ok c =
    held
    (λ (hall : Hall). (history : Chronicle) → hall.store ≡ Some history → IsSimulation c.args.plan.level c.args.plan.seed c.args.plan.sessions
    c.args.plan.queries history)
    c.play_out-step.new.hall c.play_out-step.result c.kept.result c.kept.ensures.same c.kept.ensures.taken c.play_out-step.ensures.ok

pub returns-clause-hall : goal.returns-clause-hall
returns-clause-hall c = all IsHall c.play_out-step.new.hall c.kept.result c.kept.ensures.same c.play_out-step.ensures.hall

pub returns-clause-cut : goal.returns-clause-cut
returns-clause-cut c =
    refused (λ (e : SimFault). e ≡ faults.Steps → IsCutOff c.args.plan.level c.args.plan.seed c.args.plan.sessions c.args.plan.queries)
    c.play_out-step.result c.kept.result c.kept.ensures.refused c.play_out-step.ensures.cut
