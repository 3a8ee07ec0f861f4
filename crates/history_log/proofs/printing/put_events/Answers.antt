use Rattle.history_log.specs.declared.version.Version.TheVariants.{Two}
use Rattle.history_log.specs.Spelling.{event_line}
use Rattle.history_log.specs.Reading.{FitsEvent}
use Rattle.history_log.proofs.Said.{all_step}
use Rattle.history_log.proofs.Written.{lines_step}
use Rattle.history_log.proofs.printing.put_events.Goals as goal

pub loop-event-preserved : goal.loop-event-preserved
loop-event-preserved c = (
  lines_step (event_line Two) c.args.events.now c.loop-event.event-index c.event-item.result c.args.out.now.items c.loop-event.out.items c.put_event.new.out.items c.put.new.out.items
      c.loop-event-test.true c.event-item.is c.loop-event.invariant.0 c.in_ok-put_event.ensures.text c.in_ok-put.ensures,
  all_step FitsEvent c.args.events.now c.loop-event.event-index c.event-item.result c.loop-event-test.true c.event-item.is c.loop-event.invariant.1 c.in_ok-put_event.ensures.fits,
)
