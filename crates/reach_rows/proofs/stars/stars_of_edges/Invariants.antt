use Rattle.reach_rows.proofs.Trials.{AreStarsOf}
use Rattle.reach_rows.proofs.stars.stars_of_edges.Given as goal

abbrev pub invariant-loop-edge : goal.invariant-loop-edge
invariant-loop-edge l = AreStarsOf l.trial l.edge-index l.stars.items
