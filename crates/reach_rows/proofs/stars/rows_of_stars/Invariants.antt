use Rattle.reach_rows.proofs.Several.{AreMade}
use Rattle.reach_rows.proofs.stars.rows_of_stars.Given as goal

abbrev pub invariant-loop-star : goal.invariant-loop-star
invariant-loop-star l = AreMade l.rows l.stars l.star-index l.befores.items
