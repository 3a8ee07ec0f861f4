use Rattle.std.proofs.Common.{◌++◌, arith}
use Rattle.history_log.specs.Cut.{cut_at}
use Rattle.history_log.specs.Draft.{said}
use Rattle.history_log.proofs.Taking.{event_taken, leading_shorter}
use Rattle.history_log.proofs.lines.take_leading.Goals as goal

pub loop-event-preserved : goal.loop-event-preserved
loop-event-preserved c =
    let at = c.loop-event in
    let got = c.in-Some in
    record {
      read = event_taken (said c.args.draft.now ++ cut_at 10 c.args.text.now) at.draft got.event at.last at.rest.now got.after.now c.push.new.self c.in_ok-push.ensures.ok
          at.invariant.read at.invariant.place at.invariant.initial got.ensures;
      place = at.invariant.place;
      initial = at.invariant.initial;
      shorter = omega (arith, leading_shorter got.event at.rest.now got.after.now got.ensures, at.invariant.shorter);
    }

pub loop-event-smaller : goal.loop-event-smaller
loop-event-smaller c = leading_shorter c.in-Some.event c.loop-event.rest.now c.in-Some.after.now c.in-Some.ensures
