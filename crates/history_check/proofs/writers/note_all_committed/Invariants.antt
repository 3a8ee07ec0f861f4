use Rattle.history_check.specs.Notes.{GainAmong}
use Rattle.history_check.proofs.writers.note_all_committed.Given as goal

abbrev pub invariant-loop-place : goal.invariant-loop-place
invariant-loop-place l = GainAmong l.of_events l.places l.place-index l.number l.fn.notes.items l.notes.items
