use Rattle.std.proofs.Common.{refl}
use Rattle.block_machine.specs.Knowledge.{knowledge_in}
use Rattle.block_machine.specs.Statements.{looks}
use Rattle.block_machine.proofs.Taking.{leads_kept, kept_at}
use Rattle.block_machine.proofs.actions.perform.Goals as goal

pub returns-in-None-clause-goes : goal.returns-in-None-clause-goes
returns-in-None-clause-goes c =
    leads_kept c.args.description c.args.statement c.args.block (knowledge_in c.args.known.now) (knowledge_in c.act.new.known) c.or_short.result.stage c.or_short.result.out_of_memory c.act.new.built.items
    (c.in-None.ensures.same refl) (c.in-None.ensures.looks refl)
    (c.or_short.ensures.goes (looks c.args.description c.args.statement c.args.block (knowledge_in c.args.known.now)) c.act.new.built.items (knowledge_in c.args.known.now)
    (kept_at c.args.description c.args.statement c.args.block c.keep.result c.act.new.built.items (knowledge_in c.args.known.now) c.keep.ensures))
