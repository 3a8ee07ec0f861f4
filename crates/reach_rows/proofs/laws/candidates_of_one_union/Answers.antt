use Rattle.reach_rows.proofs.OneStar.{candidate_cycle}
use Rattle.reach_rows.proofs.laws.candidates_of_one_union.Goals as goal

pub returns : goal.returns
returns c = candidate_cycle
