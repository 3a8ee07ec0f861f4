use Rattle.std.specs.Fmt.{decimal}
use Rattle.block_machine.specs.Replies.{show_reply}
use Rattle.block_machine.specs.Settings.{history_name}
use Rattle.block_machine.specs.Statements.{succeeds}
use Rattle.block_machine.proofs.Taking.{show_advances}
use Rattle.block_machine.proofs.OutOfMemory.{ok_at}
use Rattle.block_machine.proofs.actions.show_history.Goals as goal

pub returns-clause-goes : goal.returns-clause-goes
returns-clause-goes c = λ known.
    show_advances c.args.n c.args.description c.args.block c.or_short.result.stage c.or_short.result.out_of_memory c.tell_history.new.built.items known
    (c.or_short.ensures.goes (succeeds (show_reply c.args.description history_name (decimal c.args.n)) c.args.block known) c.tell_history.new.built.items known
    (ok_at c.tell_history.result (succeeds (show_reply c.args.description history_name (decimal c.args.n)) c.args.block) c.tell_history.new.built.items known c.tell_history.ensures.goes))
