use Rattle.graph_base.proofs.Closures.{same_closure_sym}
use Rattle.graph_base.proofs.LeastOrders.{least_one, least_kept}
use Rattle.graph_base.proofs.laws.one_closure_one_least_order.Goals as goal

pub returns : goal.returns
returns c = record {
  kept = λ size xs ys same order.
      (least_kept size xs ys same order, least_kept size ys xs (same_closure_sym xs ys same) order);
  same = λ size xs ys same order other first second.
      least_one size ys order other (least_kept size xs ys same order first) second;
}
