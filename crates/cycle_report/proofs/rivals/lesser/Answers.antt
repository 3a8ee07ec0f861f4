use Rattle.std.proofs.lemmas.Option.{slice_get-get_or}
use Rattle.order_test.proofs.RivalLemmas.{least_first}
use Rattle.cycle_report.proofs.rivals.lesser.Goals as goal

pub returns-in-None : goal.returns-in-None
returns-in-None c =
    least_first c.args.table c.args.keys.now c.args.writes.now c.args.at _ (slice_get-get_or c.args.writes.now c.args.at c.index-writes-at.result c.requires.within)
    (c.is_unlisted.ensures.0 c.if-not-is_unlisted.false) (rw c.in-None.is at c.requires.least)
