use Rattle.std.proofs.Common.{length, refl}
use Rattle.std.proofs.lemmas.Option.{slice_get_read}
use Rattle.order_test.proofs.glance.glance_of.Goals as goal

pub note-requires-clause-comes : goal.note-requires-clause-comes
note-requires-clause-comes c =
    c.requires.orderly c.loop-at.at c.index-events-at.result (slice_get_read c.args.events.now (length c.args.events.now) c.loop-at.at c.index-events-at.result refl c.loop-at-test.true c.index-events-at.is)
