use Rattle.cycle_report.proofs.Orders.{cycle_excludes}
use Rattle.cycle_report.proofs.laws.cycle_excludes_order.Goals as goal

pub returns : goal.returns
returns c = λ level events order steps cycle meets. cycle_excludes level events order steps cycle meets
