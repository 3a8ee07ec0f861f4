use Rattle.std.proofs.Common.{◌≡◌, length, arith}
use Rattle.order_test.proofs.SearchLemmas.{kept_all, meets_from_kept, survey_is}
use Rattle.order_test.proofs.search.found_by_glance.Goals as goal

pub first_unreached-start-requires : goal.first_unreached-start-requires
first_unreached-start-requires g c =
    survey_is _ c.requires.few c.requires.orderly c.requires.holds c.requires.places c.requires.writers c.requires.glance c.in_ok-reaches.ensures.reaches c.in_ok-reaches.ensures.firsts

pub returns-then-is_over : goal.returns-then-is_over
returns-then-is_over g c =
    let over = c.is_over.ensures c.if-is_over.true in
    let end : c.first_unreached-start.result ≡ length c.args.events.now = over.1 in
    meets_from_kept c.args.events.now c.args.order.now c.requires.holds (c.requires.glance.keeps over.0)
    (kept_all c.args.events.now c.args.order.now c.first_unreached-start.result (omega arith) c.first_unreached-start.ensures.kept)

pub found_by_records-requires-clause-survey : goal.found_by_records-requires-clause-survey
found_by_records-requires-clause-survey g c =
    survey_is _ c.requires.few c.requires.orderly c.requires.holds c.requires.places c.requires.writers c.requires.glance c.in_ok-reaches.ensures.reaches c.in_ok-reaches.ensures.firsts
