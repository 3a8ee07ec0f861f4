use Rattle.cycle_report.proofs.Orders.{meets_at_own, own_meets_at}
use Rattle.cycle_report.proofs.laws.own_level_is_judged.Goals as goal

pub returns : goal.returns
returns c = λ level events order own. (meets_at_own level events order own, own_meets_at level events order own)
