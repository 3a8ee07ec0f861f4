use Rattle.graph_base.proofs.LeastOrders.{places_closure, places_pairs, least_from_closure, least_from_pairs}
use Rattle.graph_base.proofs.laws.closure_tells_least_order.Goals as goal

pub returns : goal.returns
returns c = record {
  closure = λ size edges order in_range. (places_closure size edges order, least_from_closure size edges order in_range);
  pairs = λ size edges order in_range. (places_pairs size edges order, least_from_pairs size edges order in_range);
}
