-- What is left to show of `run_on`.
use Rattle.std.proofs.Common.{refl}
use Rattle.session_core.proofs.Following.{sends_done, sends_on}
use Rattle.session_core.proofs.answers.run_on.Goals as goal

pub returns-in-Some-clause-sends : goal.returns-in-Some-clause-sends
returns-in-Some-clause-sends c =
    sends_done c.args.runner.now c.sent-out_of_memory.new.self c.in-Some.state c.sent-out_of_memory.result c.passing.result
    c.in-Some.ensures.some
    c.passing.ensures.at_rest c.passing.ensures.short c.sent-out_of_memory.ensures.goes

pub returns-in-None-clause-sends : goal.returns-in-None-clause-sends
returns-in-None-clause-sends c =
    sends_on c.args.runner.now c.sent-out_of_memory.new.self c.sent-out_of_memory.result c.passing-in-None.result
    (c.in-None.ensures.none refl)
    c.passing-in-None.ensures.at_rest c.passing-in-None.ensures.short c.sent-out_of_memory.ensures.goes
