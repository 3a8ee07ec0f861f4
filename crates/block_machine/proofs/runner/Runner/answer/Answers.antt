use Rattle.std.proofs.Common.{◌≡◌, sym, subst, rules}
use Rattle.block_machine.specs.declared.stage.MessageStage.{MessageStage}
use Rattle.block_machine.specs.Knowledge.{knowledge_in}
use Rattle.block_machine.specs.Stages.{Advances, IsBusy}
use Rattle.block_machine.proofs.Succeeding.{asked_busy, busy_driven}
use Rattle.block_machine.proofs.runner.Runner.answer.Goals as goal

pub returns-clause-goes : goal.returns-clause-goes
returns-clause-goes c = λ k around outside said es e wanted from.
    let same : c.replace-stage.result ≡ c.args.self.now.stage = search rules in
    let goes : Advances c.args.self.now.stage (knowledge_in c.args.self.now.known) c.args.answer c.answered-step.result.stage
    c.answered-step.result.out_of_memory c.answered-step.new.built.items (knowledge_in c.answered-step.new.known) =
    subst (λ (x : MessageStage). Advances x (knowledge_in c.args.self.now.known) c.args.answer c.answered-step.result.stage c.answered-step.result.out_of_memory
    c.answered-step.new.built.items (knowledge_in c.answered-step.new.known)) same c.answered-step.ensures.goes in
    goes k c.args.self.now.built.items around outside said es e wanted from

pub returns-clause-busy : goal.returns-clause-busy
returns-clause-busy c =
    let same : c.replace-stage.result ≡ c.args.self.now.stage = search rules in
    subst (λ (x : MessageStage). IsBusy x → IsBusy c.answered-step.result.stage) same c.answered-step.ensures.busy

pub returns-clause-driven : goal.returns-clause-driven
returns-clause-driven c = λ driven.
    let same : c.replace-stage.result ≡ c.args.self.now.stage = search rules in
    busy_driven c.answered-step.result.stage
    (c.answered-step.ensures.busy
    (subst IsBusy (sym same)
    (asked_busy c.args.self.now.stage (knowledge_in c.args.self.now.known) c.args.answer driven c.requires.fits)))
