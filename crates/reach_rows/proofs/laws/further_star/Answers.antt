use Rattle.reach_rows.proofs.OneStar.{reaches_star_any, reaches_any_star, cycle_star_any, cycle_any_star}
use Rattle.reach_rows.proofs.laws.further_star.Goals as goal

pub returns : goal.returns
returns c = record {
  reaches = λ edges members target a b. (reaches_star_any edges members target a b, reaches_any_star edges members target a b);
  cycle = λ edges members target. (cycle_star_any edges members target, cycle_any_star edges members target);
}
