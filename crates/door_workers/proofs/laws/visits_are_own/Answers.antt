use Rattle.door_workers.proofs.Visiting.{own_of_visits}
use Rattle.door_workers.proofs.laws.visits_are_own.Goals as goal

pub returns : goal.returns
returns g c = own_of_visits g.W.Words.gives
