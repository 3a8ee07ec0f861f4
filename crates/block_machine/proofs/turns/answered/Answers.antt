use Rattle.std.proofs.Common.{sym, subst}
use Rattle.block_machine.specs.declared.stage.MessageStage.{MessageStage}
use Rattle.block_machine.specs.Knowledge.{knowledge_in}
use Rattle.block_machine.specs.Stages.{Advances, owed_at}
use Rattle.block_machine.proofs.Advancing.{begin_owed}
use Rattle.block_machine.proofs.OutOfMemory.{not_running}
use Rattle.block_machine.proofs.turns.answered.Goals as goal

pub returns-in-Beginning-clause-goes : goal.returns-in-Beginning-clause-goes
returns-in-Beginning-clause-goes c =
    subst (λ (x : MessageStage). Advances x (knowledge_in c.args.known.now) c.args.answer c.start_course.result.stage c.start_course.result.out_of_memory
    c.start_course.new.built.items (knowledge_in c.args.known.now)) (sym c.in-Beginning.is)
    (c.start_course.ensures.goes (knowledge_in c.args.known.now))

pub returns-in-Beginning-clause-owed : goal.returns-in-Beginning-clause-owed
returns-in-Beginning-clause-owed c = λ k wanted.
    begin_owed c.args.stage c.in-Beginning.plan c.in-Beginning.description (knowledge_in c.args.known.now) c.args.answer k (owed_at c.start_course.result.stage)
    c.in-Beginning.is c.start_course.ensures.owed wanted

pub returns-in-Running-clause-goes : goal.returns-in-Running-clause-goes
returns-in-Running-clause-goes c =
    subst (λ (x : MessageStage). Advances x (knowledge_in c.args.known.now) c.args.answer c.pursue.result.stage c.pursue.result.out_of_memory
    c.pursue.new.built.items (knowledge_in c.args.known.now)) (sym c.in-Running.is)
    (c.pursue.ensures.goes (knowledge_in c.args.known.now))

pub returns-in_default-clause-left : goal.returns-in_default-clause-left
returns-in_default-clause-left c = λ running. absurd (not_running c.args.stage c.in_default.not-Running running)
