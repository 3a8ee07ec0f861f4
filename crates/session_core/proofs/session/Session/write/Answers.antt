use Rattle.std.proofs.Common.{Bool, ap, sym, subst, [], ◌∙◌}
use Rattle.std.specs.Prelude.{◌||◌}
use Rattle.block_machine.specs.Runners.{knowledge_of}
use Rattle.session_core.specs.Steps.{Advances, with_out_of_memory}
use Rattle.session_core.specs.Stands.{HasReply}
use Rattle.session_core.specs.declared.stage.SessionStage.{SessionStage}
use Rattle.session_core.proofs.Knowing.{known_kept, served_answered}
use Rattle.session_core.proofs.Passes.{IsShort-with_out_of_memory}
use Rattle.session_core.proofs.Grows.{StandsFor-answered}
use Rattle.session_core.proofs.Flags.{flag-answered, number-answered}
use Rattle.session_core.proofs.Writing.{write_number}
use Rattle.session_core.proofs.session.Session.write.Goals as goal

pub returns-clause-grown : goal.returns-clause-grown
returns-clause-grown g c =
    λ taken es asked sent k e s w.
    let (cell, value, is, made) = c.write_cell-answer.ensures.made in (
      with_out_of_memory c.write_cell-answer.result.out_of_memory sent [],
      IsShort-with_out_of_memory c.write_cell-answer.result.out_of_memory sent,
      record {
        stage =
            StandsFor-answered c.args.self.now.stage c.args.self.now.stage c.args.self.now.runner c.write_cell-answer.new.runner
            c.args.self.now.startup.items c.args.self.now.startup.items c.args.self.now.frames taken es asked sent k
            c.write_cell-answer.result.answer e c.write_cell-answer.result.out_of_memory s.stage
            (subst (λ (x : SessionStage). Advances x c.args.self.now.runner c.write_cell-answer.result.answer x c.write_cell-answer.new.runner
            c.write_cell-answer.result.out_of_memory c.args.self.now.startup.items) (sym c.requires.running)
            (c.write_cell-answer.ensures.goes c.args.self.now.startup.items)) w
            (served_answered (knowledge_of c.args.self.now.runner) c.write_cell-answer.result.answer (knowledge_of c.write_cell-answer.new.runner)
            (known_kept (knowledge_of c.args.self.now.runner) c.write_cell-answer.result.answer (knowledge_of c.write_cell-answer.new.runner)
            c.write_cell-answer.ensures.known))
            (subst (λ (x : SessionStage). HasReply x c.write_cell-answer.new.runner c.args.self.now.startup.items) (sym c.requires.running)
            (c.write_cell-answer.ensures.some c.args.self.now.startup.items));
        short = flag-answered c.args.self.now.short c.either-self.result c.either.result c.lacks_memory-lacks.result
            c.write_cell-answer.result.out_of_memory es c.write_cell-answer.result.answer e sent s.short c.either-self.ensures
            (c.either.ensures ∙ ap (λ (b : Bool). c.lacks_memory-lacks.result || b) c.is_some.ensures) c.lacks_memory-lacks.ensures;
        number = number-answered c.args.self.now.number c.args.self.now.number c.write_cell-answer.result.out_of_memory es c.write_cell-answer.result.answer e sent
            s.number (write_number c.args.self.now.number _ cell value c.write_cell-answer.result.answer _ made);
      },
    )
