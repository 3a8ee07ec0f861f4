use Rattle.std.proofs.Common.{true, false}
use Rattle.order_test.proofs.GlanceLemmas.{glance_none}
use Rattle.order_test.proofs.glance.no_glance.Goals as goal

pub returns : goal.returns
returns c =
    glance_none c.args.order.now
    (record { last = c.in_ok-last.last; owners = c.in_ok-owners.owners; limits = c.in_ok-limits.limits; keeps = true; scans = false })
    (c.in_ok-last.ensures.items_if_clones_equal (λ y same. same)) c.in_ok-owners.ensures.items c.in_ok-limits.ensures
