use Rattle.std.proofs.Common.{length, refl}
use Rattle.std.proofs.lemmas.Option.{slice_get_read}
use Rattle.cycle_report.proofs.records.txns_of.Goals as goal

pub note_record-requires-clause-comes : goal.note_record-requires-clause-comes
note_record-requires-clause-comes c =
    c.requires.orderly c.loop-at.at c.index-events-at.result (slice_get_read c.args.events.now (length c.args.events.now) c.loop-at.at c.index-events-at.result refl c.loop-at-test.true c.index-events-at.is)

pub note_record-requires-clause-owned : goal.note_record-requires-clause-owned
note_record-requires-clause-owned c =
    c.requires.owned c.loop-at.at c.index-events-at.result (slice_get_read c.args.events.now (length c.args.events.now) c.loop-at.at c.index-events-at.result refl c.loop-at-test.true c.index-events-at.is)

pub note_record-requires-clause-owner : goal.note_record-requires-clause-owner
note_record-requires-clause-owner c =
    c.requires.owners.each c.loop-at.at c.index-events-at.result (slice_get_read c.args.events.now (length c.args.events.now) c.loop-at.at c.index-events-at.result refl c.loop-at-test.true c.index-events-at.is)
