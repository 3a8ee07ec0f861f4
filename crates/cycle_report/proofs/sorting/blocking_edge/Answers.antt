use Rattle.std.proofs.Common.{◌-◌, arith}
use Rattle.cycle_report.proofs.TurnLemmas.{edge_before}
use Rattle.cycle_report.proofs.sorting.blocking_edge.Goals as goal

pub returns-clause-found : goal.returns-clause-found
returns-clause-found c = edge_before c.args.edges.now (c.blocked_turn-turn.result - 1) c.edge_at.result c.edge_at.ensures

pub returns-clause-unmarked : goal.returns-clause-unmarked
returns-clause-unmarked c = c.blocked_turn-turn.ensures.blocked c.edge_at.result (let some = c.if-turn-eq0.false in omega arith) c.edge_at.ensures
