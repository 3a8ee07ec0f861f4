-- What is left to show of `answer_message`.
use Rattle.block_machine.specs.Runners.{wanted}
use Rattle.session_core.proofs.Following.{advances_running, book_message}
use Rattle.session_core.proofs.answers.answer_message.Goals as goal

pub returns-clause-goes : goal.returns-clause-goes
returns-clause-goes c = λ startup.
    advances_running c.args.runner.now c.answer-out_of_memory.new.self c.args.answer c.answer-out_of_memory.result c.passing.result startup
    c.passing.ensures.at_rest c.passing.ensures.short c.answer-out_of_memory.ensures.goes

pub returns-clause-owed : goal.returns-clause-owed
returns-clause-owed c = λ asked is. c.answer-out_of_memory.ensures.owed asked (book_message (wanted c.args.runner.now) asked is)
