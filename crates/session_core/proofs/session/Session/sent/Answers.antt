use Rattle.std.proofs.Common.{ℕ, Bool, List, [], ◌++◌, ap, ◌∙◌}
use Rattle.std.specs.Prelude.{◌||◌}
use Rattle.block_machine.specs.Runners.{knowledge_of}
use Rattle.session_core.specs.Stands.{reply_of}
use Rattle.session_core.specs.Steps.{with_out_of_memory}
use Rattle.session_core.proofs.Knowing.{served_kept}
use Rattle.session_core.proofs.Passes.{IsShort-with_out_of_memory}
use Rattle.session_core.proofs.Grows.{StandsFor-sent}
use Rattle.session_core.proofs.Flags.{flag-fed, number-fed}
use Rattle.session_core.proofs.session.Session.sent.Goals as goal

pub returns-clause-grown : goal.returns-clause-grown
returns-clause-grown c =
    λ taken es asked sent s.
    let now : List ℕ = sent ++ reply_of c.args.self.now.stage c.args.self.now.runner c.args.self.now.startup.items in (
      with_out_of_memory c.after_sent-step.result.out_of_memory now [],
      IsShort-with_out_of_memory c.after_sent-step.result.out_of_memory now,
      record {
        stage =
            StandsFor-sent c.args.self.now.stage c.after_sent-step.result.stage c.args.self.now.runner c.after_sent-step.new.runner
            c.args.self.now.startup.items c.args.self.now.frames taken es asked sent
            c.after_sent-step.result.out_of_memory c.after_sent-step.ensures.sends c.requires.holding c.after_sent-step.ensures.last
            c.after_sent-step.ensures.awake
            (served_kept (knowledge_of c.args.self.now.runner) (knowledge_of c.after_sent-step.new.runner) c.after_sent-step.ensures.known)
            (c.after_sent-step.ensures.some c.args.self.now.startup.items) s.stage;
        short = flag-fed c.args.self.now.short c.either-self.result c.after_sent-step.result.out_of_memory es now s.short (c.either-self.ensures
            ∙ ap (λ (b : Bool). c.args.self.now.short || b) c.is_some.ensures);
        number = number-fed c.args.self.now.number c.after_sent-step.result.out_of_memory es now s.number;
      },
    )
