use Rattle.cycle_report.proofs.SpanLemmas.{floor_on}
use Rattle.cycle_report.proofs.spans.floor_before.Goals as goal

pub returns : goal.returns
returns c =
    floor_on c.args.view.now.events.now c.top_of-last.result c.args.number c.span_in.result.floor
    (c.precedes_causally.ensures.0 c.if-not-precedes_causally.false) (c.requires.spans.each c.top_of-last.result c.span_in.result c.span_in.ensures).floor
