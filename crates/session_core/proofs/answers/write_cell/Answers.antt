-- What is left to show of `write_cell`.
use Rattle.session_core.proofs.Following.{advances_running}
use Rattle.session_core.proofs.answers.write_cell.Goals as goal

pub returns-clause-goes : goal.returns-clause-goes
returns-clause-goes g c = λ startup.
    advances_running c.args.runner.now c.write-answer.new.self c.write-answer.result.answer c.write-answer.result.out_of_memory c.passing.result startup
    c.passing.ensures.at_rest c.passing.ensures.short c.write-answer.ensures.goes
