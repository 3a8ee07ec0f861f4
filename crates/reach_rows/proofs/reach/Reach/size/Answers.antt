use Rattle.reach_rows.proofs.Pairs.{pairs_in_range, pairs_acyclic}
use Rattle.reach_rows.proofs.reach.Reach.size.Goals as goal

pub returns-clause-in_range : goal.returns-clause-in_range
returns-clause-in_range c = rw (← c.self.view_is) (pairs_in_range c.self.inside.rows c.self.invariant)

pub returns-clause-acyclic : goal.returns-clause-acyclic
returns-clause-acyclic c = rw (← c.self.view_is) (pairs_acyclic c.self.inside.rows c.self.invariant)
