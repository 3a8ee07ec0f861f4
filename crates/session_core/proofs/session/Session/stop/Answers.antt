use Rattle.std.proofs.Common.{ℕ, ap, sym, ◌∙◌, subst, refl}
use Rattle.block_machine.specs.declared.block.Owed.{Owed}
use Rattle.block_machine.specs.Script.{stop}
use Rattle.session_core.specs.declared.stage.SessionStage.{SessionStage}
use Rattle.session_core.specs.Told.{ending, stop_end}
use Rattle.session_core.specs.Stands.{StandsFor, end_of}
use Rattle.session_core.specs.Steps.{LeadsTo}
use Rattle.session_core.proofs.Somes.{plain_some}
use Rattle.session_core.proofs.Grows.{StandsFor-stopped}
use Rattle.session_core.proofs.Flags.{flag-kept, number-stopped}
use Rattle.session_core.proofs.session.Session.stop.Goals as goal

pub returns-clause-grown : goal.returns-clause-grown
returns-clause-grown c =
    λ taken es asked sent s. record {
      stage =
          StandsFor-stopped c.phase_at-phase.result c.args.self.now.runner c.args.self.now.startup.items c.args.self.now.frames taken es
          asked sent c.leave-self.result c.args.cause (end_of c.finish_of-finish.result)
          (subst (λ (x : SessionStage). StandsFor x c.args.self.now.runner c.args.self.now.startup.items c.args.self.now.frames taken es asked
          sent) c.phase_at-phase.ensures s.stage)
          (subst (λ (o : Owed). LeadsTo c.leave-self.result (ending o (end_of c.finish_of-finish.result))) c.owed_by.ensures
          c.leave-self.ensures.leads)
          (plain_some c.leave-self.result c.args.self.now.runner c.args.self.now.startup.items c.leave-self.ensures.constant)
          (sym (c.finish_of-finish.ensures.end ∙ ap (λ (n : ℕ). stop_end c.args.cause n) c.rest.ensures));
      short = flag-kept c.args.self.now.short es (stop c.args.cause) s.short refl;
      number = number-stopped c.args.self.now.number es (stop c.args.cause) refl s.number;
    }
