use Rattle.cycle_report.proofs.SpanLemmas.{spans_push}
use Rattle.cycle_report.proofs.spans.spans_of.Goals as goal

pub loop-at-preserved : goal.loop-at-preserved
loop-at-preserved c =
    rw c.in_ok-push.ensures.items
    (spans_push c.args.view.now.events.now c.loop-at.at c.loop-at.spans.items c.span_of-span.result c.span_of-span.ensures c.loop-at.invariant)
