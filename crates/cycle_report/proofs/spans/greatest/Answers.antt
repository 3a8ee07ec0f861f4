use Rattle.cycle_report.proofs.SpanLemmas.{bound_all}
use Rattle.cycle_report.proofs.spans.greatest.Goals as goal

pub returns : goal.returns
returns c = bound_all c.args.numbers.now c.loop-at.at c.loop-at.top c.loop-at-test.false c.loop-at.invariant
