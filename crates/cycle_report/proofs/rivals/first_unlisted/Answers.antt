use Rattle.std.proofs.Common.{length, ◌<◌}
use Rattle.std.proofs.lemmas.Option.{slice_get-get_or, slice_get_within}
use Rattle.order_test.proofs.RivalLemmas.{first_unlisted_is, none_unlisted}
use Rattle.cycle_report.proofs.rivals.first_unlisted.Goals as goal

pub returns-in-Some-clause-some : goal.returns-in-Some-clause-some
returns-in-Some-clause-some c =
    let least = c.in-Some.ensures in
    let within : c.in-Some.at < length c.args.writes.now = slice_get_within c.args.writes.now c.in-Some.at least.entry least.is in
    first_unlisted_is c.args.table c.args.keys.now c.args.writes.now c.in-Some.at _ (slice_get-get_or c.args.writes.now c.in-Some.at c.index-writes-at.result within) least

pub returns-in-None-clause-none : goal.returns-in-None-clause-none
returns-in-None-clause-none c = none_unlisted c.args.table c.args.keys.now c.args.writes.now c.in-None.ensures
