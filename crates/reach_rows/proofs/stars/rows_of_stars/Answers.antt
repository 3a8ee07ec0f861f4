use Rattle.std.proofs.Common.{◌≡◌, length, arith}
use Rattle.reach_rows.proofs.Several.{made_more, made_all}
use Rattle.reach_rows.proofs.stars.rows_of_stars.Goals as goal

pub loop-star-preserved : goal.loop-star-preserved
loop-star-preserved c =
    rw c.in_ok-push.ensures.items
    (made_more c.args.rows.now c.args.stars.now c.loop-star.star-index c.star-item.result c.loop-star.befores.items c.in_ok-row.row
    c.loop-star-test.true c.star-item.is c.in_ok-row.ensures c.loop-star.invariant)

pub returns : goal.returns
returns c =
    let end : c.loop-star.star-index ≡ length c.args.stars.now =
    let past = c.loop-star-test.false in let within = c.loop-star.auto.star-index-end in omega arith in
    made_all c.args.rows.now c.args.stars.now c.loop-star.star-index c.loop-star.befores.items end c.loop-star.invariant
