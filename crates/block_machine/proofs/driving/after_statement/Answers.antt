use Rattle.std.proofs.Common.{◌≡◌, ◌≤◌, ◌∙◌, sym, arith, true, false}
use Rattle.std.specs.Vec.Iter.{into_iter_items}
use Rattle.block_machine.specs.StatementRunners.{knowledge_of}
use Rattle.block_machine.specs.Messages.{before}
use Rattle.block_machine.specs.Stages.{is_skipping, work_at}
use Rattle.block_machine.proofs.Succeeding.{rests, resting_work, skipping_owed, skipping_work, skips}
use Rattle.block_machine.proofs.driving.after_statement.Goals as goal

pub returns-then-skipping-clause-goes : goal.returns-then-skipping-clause-goes
returns-then-skipping-clause-goes c = λ outside said es from.
    let is : is_skipping c.args.runner.now.stage ≡ true = sym c.skipping.ensures ∙ c.if-skipping.true in
    skips c.args.runner.now.stage c.args.runner.now.built.items (knowledge_of c.args.runner.now) (into_iter_items c.args.rest.now) outside said es is
    ∙ c.finish.ensures.goes (before (into_iter_items c.args.rest.now) outside) outside said es

pub returns-then-skipping-clause-work : goal.returns-then-skipping-clause-work
returns-then-skipping-clause-work c =
    let is : is_skipping c.args.runner.now.stage ≡ true = sym c.skipping.ensures ∙ c.if-skipping.true in
    let low : work_at c.finish.new.self.stage ≤ 1 = c.finish.ensures.closed (skipping_owed c.args.runner.now.stage c.requires.between is) in
    let old : work_at c.args.runner.now.stage ≡ 1 = skipping_work c.args.runner.now.stage c.requires.between is in
    omega arith

pub returns-clause-goes : goal.returns-clause-goes
returns-clause-goes c = λ outside said es from.
    let is : is_skipping c.args.runner.now.stage ≡ false = sym c.skipping.ensures ∙ c.if-skipping.false in
    rests c.args.runner.now.stage c.args.runner.now.built.items (knowledge_of c.args.runner.now) (into_iter_items c.args.rest.now) outside said _
    c.requires.between is
    ∙ c.next.ensures.goes outside said es from

pub returns-clause-work : goal.returns-clause-work
returns-clause-work c =
    let is : is_skipping c.args.runner.now.stage ≡ false = sym c.skipping.ensures ∙ c.if-skipping.false in
    let old : work_at c.args.runner.now.stage ≡ 2 = resting_work c.args.runner.now.stage c.requires.between is in
    omega (arith, old, c.next.ensures.work)
