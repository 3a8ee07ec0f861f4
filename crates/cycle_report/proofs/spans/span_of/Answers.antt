use Rattle.cycle_report.proofs.SpanLemmas.{top_of_past}
use Rattle.cycle_report.proofs.spans.span_of.Goals as goal

pub returns : goal.returns
returns c = record {
  floor = c.raised.ensures;
  top = top_of_past c.args.view.now.events.now c.args.view.now.txns.now c.args.view.now.pasts.now.width c.args.number c.greatest-top.result c.past_of-past.result.now
      c.requires.view.txns_are c.past_of-past.ensures (rw c.deref.ensures.value at c.greatest-top.ensures);
}
