use Rattle.std.proofs.Common.{◌∙◌, arith}
use Rattle.std.proofs.lemmas.List.{length_push}
use Rattle.order_test.proofs.FirstLemmas.{without_push}
use Rattle.order_test.proofs.listed.no_firsts.Goals as goal

pub loop-at-preserved : goal.loop-at-preserved
loop-at-preserved c =
    rw c.in_ok-push.ensures.items (
      without_push c.loop-at.all.items c.new_firsts.result c.new_firsts.ensures c.loop-at.invariant.0,
      length_push c.loop-at.all.items c.new_firsts.result ∙ (let h = c.loop-at.invariant.1 in omega arith),
    )
