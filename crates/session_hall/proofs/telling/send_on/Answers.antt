use Rattle.std.proofs.Common.{arith, refl, ap}
use Rattle.session_core.specs.Stands.{message_at}
use Rattle.session_hall.proofs.Turning.{alone_same, alone_then, keeps_then}
use Rattle.session_hall.proofs.telling.send_on.Goals as goal

pub loop-seat-init : goal.loop-seat-init
loop-seat-init c = record {
  grows = alone_same c.args.seat.now;
  fit = c.requires.fit;
  keeps = record { at = refl; stream = refl; end = refl };
  resting = λ resting. resting;
  work = omega arith;
  last = λ last. last;
}

pub loop-seat-preserved : goal.loop-seat-preserved
loop-seat-preserved c = record {
  grows = alone_then _ _ _ c.loop-seat.invariant.grows c.send.ensures.grows;
  fit = c.send.ensures.fit;
  keeps = keeps_then _ _ _ c.loop-seat.invariant.keeps c.send.ensures.keeps;
  resting = λ resting. c.in_ok-send.ensures.resting (c.loop-seat.invariant.resting resting);
  work = omega (arith, c.loop-seat.invariant.work, c.in_ok-send.ensures.work, ap message_at (c.is_telling.ensures.yes c.loop-seat-test.true).0);
  last = λ last. c.send.ensures.last (c.loop-seat.invariant.last last);
}

pub returns-in_err-send-clause-grows : goal.returns-in_err-send-clause-grows
returns-in_err-send-clause-grows c = alone_then _ _ _ c.loop-seat.invariant.grows c.send.ensures.grows
