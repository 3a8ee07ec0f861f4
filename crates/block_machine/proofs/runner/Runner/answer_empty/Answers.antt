use Rattle.std.proofs.Common.{ap, sym}
use Rattle.block_machine.specs.declared.block.Block.{Block}
use Rattle.block_machine.specs.declared.reply.Fixed.TheVariants as fixed
use Rattle.block_machine.specs.declared.reply.StatementReply.TheVariants as replies
use Rattle.block_machine.specs.declared.stage.MessageStage.TheVariants as stages
use Rattle.block_machine.specs.Replies.{empty_reply}
use Rattle.block_machine.specs.Statements.{succeeds}
use Rattle.block_machine.specs.StatementRunners.{knowledge_of}
use Rattle.block_machine.proofs.Holding.{holding_some}
use Rattle.block_machine.proofs.runner.Runner.answer_empty.Goals as goal

pub returns-clause-goes : goal.returns-clause-goes
returns-clause-goes c = λ around outside said es.
    ap (λ (b : Block). succeeds empty_reply b (knowledge_of c.args.self.now) around said es) (sym c.block_in-block.ensures.block)

pub returns-clause-some : goal.returns-clause-some
returns-clause-some c = holding_some c.args.self.now.built.items (stages.Telling (replies.Fixed fixed.Empty) c.block_in-block.result) tt
