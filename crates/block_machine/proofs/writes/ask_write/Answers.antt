use Rattle.std.proofs.Common.{sym, subst}
use Rattle.block_machine.specs.declared.stage.MessageStage.{MessageStage}
use Rattle.block_machine.specs.Stages.{Advances}
use Rattle.block_machine.proofs.writes.ask_write.Goals as goal

pub returns-clause-goes : goal.returns-clause-goes
returns-clause-goes g c = λ known.
    subst (λ (x : MessageStage). Advances x known c.make_write.result.answer c.make_write.result.step.stage c.make_write.result.step.out_of_memory
    c.make_write.new.built.items known) (sym c.in-Running.is) (c.make_write.ensures.goes known)
