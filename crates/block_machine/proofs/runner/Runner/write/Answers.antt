use Rattle.std.proofs.Common.{◌≡◌, subst, rules}
use Rattle.block_machine.specs.declared.stage.MessageStage.{MessageStage}
use Rattle.block_machine.specs.Knowledge.{knowledge_in}
use Rattle.block_machine.specs.Writes.{AsksWrite}
use Rattle.block_machine.proofs.Writing.{write_wanted}
use Rattle.block_machine.proofs.runner.Runner.write.Goals as goal

pub ask_write-answer-requires-clause-may : goal.ask_write-answer-requires-clause-may
ask_write-answer-requires-clause-may g c = λ cell value asks.
    let same : c.replace-stage.result ≡ c.args.self.now.stage = search rules in
    c.requires.may cell value
    (write_wanted c.args.self.now.stage (knowledge_in c.args.self.now.known) cell value (subst (λ (x : MessageStage). AsksWrite x cell value) same asks))

pub returns-clause-made : goal.returns-clause-made
returns-clause-made g c =
    let (cell, value, asks, made) = c.ask_write-answer.ensures.made in
    let same : c.replace-stage.result ≡ c.args.self.now.stage = search rules in (
      cell,
      value,
      write_wanted c.args.self.now.stage (knowledge_in c.args.self.now.known) cell value (subst (λ (x : MessageStage). AsksWrite x cell value) same asks),
      made,
    )
