use Rattle.std.proofs.Common.{get_or}
use Rattle.std.proofs.lemmas.Option.{slice_get-get_or}
use Rattle.history_check.proofs.CellSteps.{gain_ascending, gain_more}
use Rattle.history_check.proofs.writers.note_all_committed.Goals as goal

pub note_committed-requires-clause-ascending : goal.note_committed-requires-clause-ascending
note_committed-requires-clause-ascending c =
    gain_ascending c.args.of_events.now c.args.places.now c.loop-place.place-index c.args.number c.args.notes.now.items c.loop-place.notes.items c.loop-place.invariant

pub loop-place-preserved : goal.loop-place-preserved
loop-place-preserved c =
    gain_more c.args.of_events.now c.args.places.now c.loop-place.place-index c.args.number (get_or c.args.places.now c.loop-place.place-index 0) c.args.notes.now.items
    c.loop-place.notes.items c.note_committed.new.notes.items (slice_get-get_or c.args.places.now c.loop-place.place-index 0 c.loop-place-test.true) c.loop-place.invariant
    c.in_ok-note_committed.ensures
