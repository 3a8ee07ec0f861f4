use Rattle.cycle_report.specs.Spans.{AreSpans}
use Rattle.cycle_report.proofs.spans.spans_of.Given as goal

abbrev pub invariant-loop-at : goal.invariant-loop-at
invariant-loop-at l = AreSpans l.view.events.now l.at l.spans.items
