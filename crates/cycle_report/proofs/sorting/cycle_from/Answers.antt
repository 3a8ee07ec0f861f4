use Rattle.std.proofs.Common.{◌≡◌, ◌<◌, Some, None, get_or, length, arith}
use Rattle.order_witness.proofs.Tracing.{IsTrace-push, IsCycle-from_trace, read_some}
use Rattle.cycle_report.proofs.sorting.cycle_from.Goals as goal

pub reversed_from-requires : goal.reversed_from-requires
reversed_from-requires c =
    let trace = c.loop-first.invariant in
    let in_met : c.loop-first.at < length c.loop-first.met.items = let a = trace.unmarked.0 in let b = trace.length_met in omega arith in
    let at_place : get_or c.loop-first.met.items c.loop-first.at None ≡ Some c.in-Some.first =
    read_some c.loop-first.met.items c.loop-first.at c.in-Some.first c.index.result.now in_met c.index.ensures c.in-Some.is in
    let small = trace.within c.loop-first.at c.in-Some.first at_place in
    rw c.deref.ensures.value (omega arith)

pub returns-in-Some : goal.returns-in-Some
returns-in-Some c =
    let trace = c.loop-first.invariant in
    let in_met : c.loop-first.at < length c.loop-first.met.items = let a = trace.unmarked.0 in let b = trace.length_met in omega arith in
    let at_place : get_or c.loop-first.met.items c.loop-first.at None ≡ Some c.in-Some.first =
    read_some c.loop-first.met.items c.loop-first.at c.in-Some.first c.index.result.now in_met c.index.ensures c.in-Some.is in
    rw c.in_ok-reversed_from.ensures
    (rw c.deref.ensures.value
    (IsCycle-from_trace c.args.edges.now c.args.marks.now c.loop-first.path.items c.loop-first.met.items c.loop-first.at c.in-Some.first trace at_place))

pub loop-first-preserved : goal.loop-first-preserved
loop-first-preserved c =
    let len : c.len.result ≡ length c.loop-first.path.items = omega arith in
    rw (c.in_ok-push.ensures.items, len)
    (IsTrace-push c.args.edges.now c.args.marks.now c.loop-first.path.items c.loop-first.met.items c.loop-first.at c.blocking_edge-edge.result
    c.blocking_edge-edge.ensures.found c.blocking_edge-edge.ensures.into c.blocking_edge-edge.ensures.unmarked c.loop-first.invariant)
