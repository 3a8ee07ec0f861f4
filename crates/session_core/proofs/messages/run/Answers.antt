use Rattle.session_core.proofs.Meeting.{message_begins}
use Rattle.session_core.proofs.messages.run.Goals as goal

pub returns-clause-goes : goal.returns-clause-goes
returns-clause-goes c =
    message_begins c.args.message c.args.state c.args.runner.now c.begin-out_of_memory.new.self c.begin-out_of_memory.result c.passing.result
    c.passing.ensures.at_rest c.passing.ensures.short c.begin-out_of_memory.ensures.goes
