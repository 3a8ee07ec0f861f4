use Rattle.std.proofs.Common.{ℕ, sym, subst}
use Rattle.graph_base.specs.Walk.{IsInRange}
use Rattle.order_witness.specs.Verdict.{HasLeastOrder}
use Rattle.cycle_report.proofs.Orders.{order_at}
use Rattle.cycle_report.proofs.levels.found_at.Goals as goal

pub order_or_cycle-requires : goal.order_or_cycle-requires
order_or_cycle-requires c =
    subst (λ (n : ℕ). IsInRange n c.in_ok-graph.graph.edges.items) (sym c.in_ok-graph.ensures.size) c.in_ok-graph.ensures.pairs.in_range

pub returns-in-Order : goal.returns-in-Order
returns-in-Order c =
    order_at c.args.level c.args.view.now.events.now c.args.view.now.pasts.now c.in_ok-graph.graph.edges.items c.in-Order.order.items c.requires.view.orderly
    c.requires.view.pasts_are c.in_ok-graph.ensures.pairs
    (subst (λ (n : ℕ). HasLeastOrder n c.in_ok-graph.graph.edges.items c.in-Order.order.items) c.in_ok-graph.ensures.size
    (rw c.in-Order.is at c.in_ok-verdict.ensures))
