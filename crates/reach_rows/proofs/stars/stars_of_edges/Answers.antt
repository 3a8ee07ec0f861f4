use Rattle.std.proofs.Common.{refl, get_or}
use Rattle.graph_base.specs.declared.Edge.{Edge}
use Rattle.reach_rows.specs.Rows.{edge_of}
use Rattle.reach_rows.proofs.Trials.{stars_of_more}
use Rattle.reach_rows.proofs.stars.stars_of_edges.Goals as goal

pub loop-edge-preserved : goal.loop-edge-preserved
loop-edge-preserved c =
    let e : Edge = get_or c.args.trial.now c.loop-edge.edge-index (edge_of 0 0) in
    rw c.in_ok-push.ensures.items
    (stars_of_more c.args.trial.now c.loop-edge.edge-index e c.loop-edge.stars.items c.in_ok-star_of_edge.field-0
    c.loop-edge-test.true refl c.in_ok-star_of_edge.ensures.0 c.in_ok-star_of_edge.ensures.1 c.loop-edge.invariant)
