use Rattle.std.proofs.Common.{sym, ◌∙◌}
use Rattle.std.proofs.lemmas.Option.{slice_get-get_or}
use Rattle.std.proofs.lemmas.Bool.{false≢true}
use Rattle.order_test.proofs.RivalLemmas.{least_new, least_old}
use Rattle.cycle_report.proofs.rivals.least_of.Goals as goal

pub returns-then-is_below : goal.returns-then-is_below
returns-then-is_below c =
    let here = slice_get-get_or c.args.writes.now c.args.at c.index-writes-at.result c.requires.within in
    let there = slice_get-get_or c.args.writes.now c.args.best c.index-writes-best.result c.requires.best_within in
    least_new c.args.table c.args.keys.now c.args.writes.now c.args.at c.args.best _ _ here there
    (c.requires.unlisted _ here) (c.is_below.ensures.0 c.if-is_below.true) c.requires.best

pub returns-else-is_below : goal.returns-else-is_below
returns-else-is_below c =
    let here = slice_get-get_or c.args.writes.now c.args.at c.index-writes-at.result c.requires.within in
    let there = slice_get-get_or c.args.writes.now c.args.best c.index-writes-best.result c.requires.best_within in
    least_old c.args.table c.args.keys.now c.args.writes.now c.args.at c.args.best _ _ here there
    (λ less. false≢true (sym c.if-is_below.false ∙ c.is_below.ensures.1 less)) c.requires.best
