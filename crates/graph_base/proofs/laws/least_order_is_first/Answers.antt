use Rattle.graph_base.proofs.LeastOrders.{least_first}
use Rattle.graph_base.proofs.laws.least_order_is_first.Goals as goal

pub returns : goal.returns
returns c = least_first
