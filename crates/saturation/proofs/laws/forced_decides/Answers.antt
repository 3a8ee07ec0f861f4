use Rattle.saturation.proofs.Decides.{consistent_no_cycle, consistent_from_no_cycle, meets_from_order, order_from_meets}
use Rattle.saturation.proofs.laws.forced_decides.Goals as goal

pub returns : goal.returns
returns c = record {
  decides = λ events edges list. (consistent_no_cycle events edges list, consistent_from_no_cycle events edges list);
  orders = λ events edges order list. (order_from_meets events edges order list, meets_from_order events edges order list);
}
