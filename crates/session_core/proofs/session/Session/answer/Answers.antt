use Rattle.std.proofs.Common.{Bool, ap, [], ◌∙◌}
use Rattle.std.specs.Prelude.{◌||◌}
use Rattle.block_machine.specs.Runners.{knowledge_of}
use Rattle.session_core.specs.Steps.{with_out_of_memory}
use Rattle.session_core.proofs.Knowing.{served_answered}
use Rattle.session_core.proofs.Passes.{IsShort-with_out_of_memory}
use Rattle.session_core.proofs.Grows.{StandsFor-answered}
use Rattle.session_core.proofs.Flags.{flag-answered, number-answered}
use Rattle.session_core.proofs.session.Session.answer.Goals as goal

pub returns-clause-grown : goal.returns-clause-grown
returns-clause-grown c =
    λ taken es asked sent k e s w. (
      with_out_of_memory c.answered-step.result.out_of_memory sent [],
      IsShort-with_out_of_memory c.answered-step.result.out_of_memory sent,
      record {
        stage =
            StandsFor-answered c.args.self.now.stage c.answered-step.result.stage c.args.self.now.runner c.answered-step.new.runner
            c.args.self.now.startup.items c.answered-step.new.startup.items c.args.self.now.frames taken es asked sent k
            c.args.answer e c.answered-step.result.out_of_memory s.stage c.answered-step.ensures.goes w
            (served_answered (knowledge_of c.args.self.now.runner) c.args.answer (knowledge_of c.answered-step.new.runner)
            c.answered-step.ensures.known)
            c.answered-step.ensures.some;
        short = flag-answered c.args.self.now.short c.either-self.result c.either.result c.lacks_memory-lacks.result
            c.answered-step.result.out_of_memory es c.args.answer e sent s.short c.either-self.ensures
            (c.either.ensures ∙ ap (λ (b : Bool). c.lacks_memory-lacks.result || b) c.is_some.ensures) c.lacks_memory-lacks.ensures;
        number = number-answered c.args.self.now.number c.number_after-number.result c.answered-step.result.out_of_memory es c.args.answer e sent
            s.number c.number_after-number.ensures;
      },
    )

pub returns-clause-last : goal.returns-clause-last
returns-clause-last c = c.answered-step.ensures.goes.last
