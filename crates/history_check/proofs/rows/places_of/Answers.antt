use Rattle.history_check.proofs.RowLemmas.{places_none, places_more, places_whole}
use Rattle.history_check.proofs.rows.places_of.Goals as goal

pub loop-at-init : goal.loop-at-init
loop-at-init c = places_none c.args.cells.now c.new_writers-places.result c.new_writers-places.ensures

pub note_place-requires-clause-ascending : goal.note_place-requires-clause-ascending
note_place-requires-clause-ascending c = c.loop-at.invariant.ascending

pub loop-at-preserved : goal.loop-at-preserved
loop-at-preserved c =
    places_more c.args.cells.now c.loop-at.at c.loop-at.places c.note_place.new.places c.note_place.ensures.ascending c.in_ok-note_place.ensures.ok c.loop-at.invariant

pub returns : goal.returns
returns c = places_whole c.args.cells.now c.loop-at.at c.loop-at.places c.loop-at-test.false c.loop-at.invariant
