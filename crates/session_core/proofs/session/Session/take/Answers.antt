use Rattle.std.proofs.Common.{Bool, ap, [], ◌∙◌, subst}
use Rattle.std.specs.Prelude.{◌||◌}
use Rattle.block_machine.specs.Runners.{knowledge_of}
use Rattle.session_core.specs.declared.stage.SessionStage.{SessionStage}
use Rattle.session_core.specs.Stands.{StandsFor}
use Rattle.session_core.specs.Steps.{with_out_of_memory}
use Rattle.session_core.proofs.Knowing.{served_kept}
use Rattle.session_core.proofs.Passes.{IsShort-with_out_of_memory}
use Rattle.session_core.proofs.Grows.{StandsFor-taken}
use Rattle.session_core.proofs.Flags.{flag-fed, number-fed}
use Rattle.session_core.proofs.session.Session.take.Goals as goal

pub returns-clause-grown : goal.returns-clause-grown
returns-clause-grown c =
    λ taken es asked sent s. (
      with_out_of_memory c.take_message-step.result.out_of_memory sent [],
      IsShort-with_out_of_memory c.take_message-step.result.out_of_memory sent,
      record {
        stage =
            StandsFor-taken c.phase_taking-phase.result c.args.self.now.runner c.take_message-step.new.runner c.args.self.now.startup.items
            c.args.self.now.frames c.take_message-step.new.frames taken es asked sent
            c.take_message-step.result.stage c.take_message-step.result.out_of_memory
            (subst (λ (x : SessionStage). StandsFor x c.args.self.now.runner c.args.self.now.startup.items c.args.self.now.frames taken es asked
            sent) c.phase_taking-phase.ensures s.stage)
            c.take_message-step.ensures.goes
            (served_kept (knowledge_of c.args.self.now.runner) (knowledge_of c.take_message-step.new.runner)
            c.take_message-step.ensures.leads.known)
            (c.take_message-step.ensures.leads.some c.args.self.now.startup.items);
        short = flag-fed c.args.self.now.short c.either-self.result c.take_message-step.result.out_of_memory es sent s.short
            (c.either-self.ensures ∙ ap (λ (b : Bool). c.args.self.now.short || b) c.is_some.ensures);
        number = number-fed c.args.self.now.number c.take_message-step.result.out_of_memory es sent s.number;
      },
    )
