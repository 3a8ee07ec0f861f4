use Rattle.graph_base.proofs.LeastOrders.{least_one}
use Rattle.graph_base.proofs.laws.least_order_is_unique.Goals as goal

pub returns : goal.returns
returns c = least_one
