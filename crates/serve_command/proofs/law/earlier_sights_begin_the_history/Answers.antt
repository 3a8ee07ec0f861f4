use Rattle.choice_stream.specs.Seeds.{Draws}
use Rattle.serve_command.proofs.Earlier.{begins_as, before_record, before_visits}
use Rattle.serve_command.proofs.law.earlier_sights_begin_the_history.Goals as goal

pub returns-clause-front : goal.returns-clause-front
returns-clause-front c = begins_as

pub returns-clause-calls : goal.returns-clause-calls
returns-clause-calls c = λ history past left words left_words calls entries valid begins.
    before_record Draws history past left words left_words calls entries valid begins

pub returns-clause-visits : goal.returns-clause-visits
returns-clause-visits c = λ history level past left words left_words visits are begins.
    before_visits Draws history level past left words left_words visits are begins
