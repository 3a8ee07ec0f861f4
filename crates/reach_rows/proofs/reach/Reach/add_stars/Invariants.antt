use Rattle.reach_rows.proofs.Several.{IsAdding}
use Rattle.reach_rows.proofs.reach.Reach.add_stars.Given as goal

abbrev pub invariant-loop-star : goal.invariant-loop-star
invariant-loop-star l = IsAdding l.initial.self l.stars l.star-index l.self
