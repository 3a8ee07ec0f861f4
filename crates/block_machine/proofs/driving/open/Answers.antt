use Rattle.std.proofs.Common.{◌≡◌, ◌∷◌, All, subst}
use Rattle.std.proofs.lemmas.List.Elements.{All-tail}
use Rattle.std.specs.Vec.Iter.{into_iter_items}
use Rattle.block_machine.specs.StatementRunners.{knowledge_of}
use Rattle.block_machine.specs.Stages.{IsSoundStatement, block_in}
use Rattle.block_machine.proofs.Succeeding.{opens_more}
use Rattle.block_machine.proofs.driving.open.Goals as goal

pub returns-in-Some-clause-goes : goal.returns-in-Some-clause-goes
returns-in-Some-clause-goes c =
    opens_more c.in-Some.statement (into_iter_items c.args.rest.now) (into_iter_items c.next.new.self) (block_in c.args.runner.now.stage)
    (knowledge_of c.args.runner.now) (knowledge_of c.start.new.self) c.start.new.self.stage c.start.result c.start.new.self.built.items
    c.in-Some.ensures.cases.0 c.start.ensures.busy c.start.ensures.goes

pub returns-in-Some-clause-rest : goal.returns-in-Some-clause-rest
returns-in-Some-clause-rest c =
    let is : into_iter_items c.args.rest.now ≡ c.in-Some.statement ∷ into_iter_items c.next.new.self = c.in-Some.ensures.cases.0 in
    All-tail IsSoundStatement c.in-Some.statement (into_iter_items c.next.new.self) (subst (All IsSoundStatement) is c.requires.rest)
