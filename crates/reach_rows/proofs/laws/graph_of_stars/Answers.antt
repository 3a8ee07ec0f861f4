use Rattle.reach_rows.proofs.Graph.{cycle_of_stars}
use Rattle.reach_rows.proofs.laws.graph_of_stars.Goals as goal

pub returns : goal.returns
returns c = cycle_of_stars
