use Rattle.history_check.specs.Rules.{shape, source}
use Rattle.history_check.proofs.events.judge_event.Goals as goal

pub note-requires-clause-shape : goal.note-requires-clause-shape
note-requires-clause-shape c = (rw c.in-None.is at c.in_ok-found.ensures) shape

pub note-requires-clause-source : goal.note-requires-clause-source
note-requires-clause-source c = (rw c.in-None.is at c.in_ok-found.ensures) source

pub returns-in-Some-clause-found : goal.returns-in-Some-clause-found
returns-in-Some-clause-found c = rw c.in-Some.is at c.in_ok-found.ensures

pub returns-in_ok-note-in-None-clause-found : goal.returns-in_ok-note-in-None-clause-found
returns-in_ok-note-in-None-clause-found c = rw c.in-None.is at c.in_ok-found.ensures
