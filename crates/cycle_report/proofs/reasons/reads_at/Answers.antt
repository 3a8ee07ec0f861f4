use Rattle.std.proofs.lemmas.Bool.{false≢true}
use Rattle.cycle_report.proofs.DemandLemmas.{no_read_at}
use Rattle.cycle_report.proofs.reasons.reads_at.Goals as goal

pub returns-in-None : goal.returns-in-None
returns-in-None c = (
  λ h. absurd (false≢true h),
  λ read.
      absurd (no_read_at c.args.view.now.events.now c.args.place c.event_at-event.result.now c.args.source c.args.reader c.event_at-event.ensures c.in-None.ensures.none read),
)
