use Rattle.std.proofs.Common.{length, refl}
use Rattle.std.proofs.lemmas.Option.{slice_get_read}
use Rattle.cycle_report.proofs.pasts.pasts_of.Goals as goal

pub note_row-requires-clause-comes : goal.note_row-requires-clause-comes
note_row-requires-clause-comes c =
    c.requires.orderly c.loop-at.at c.index-events-at.result (slice_get_read c.args.events.now (length c.args.events.now) c.loop-at.at c.index-events-at.result refl c.loop-at-test.true c.index-events-at.is)

pub note_row-requires-clause-within : goal.note_row-requires-clause-within
note_row-requires-clause-within c =
    c.requires.within c.loop-at.at c.index-events-at.result (slice_get_read c.args.events.now (length c.args.events.now) c.loop-at.at c.index-events-at.result refl c.loop-at-test.true c.index-events-at.is)

pub note_row-requires-clause-last : goal.note_row-requires-clause-last
note_row-requires-clause-last c =
    c.requires.owners.each c.loop-at.at c.index-events-at.result (slice_get_read c.args.events.now (length c.args.events.now) c.loop-at.at c.index-events-at.result refl c.loop-at-test.true c.index-events-at.is)
