use Rattle.std.proofs.Common.{refl}
use Rattle.session_hall.proofs.Turning.{alone_same, alone_then, keeps_then}
use Rattle.session_hall.proofs.telling.settle.Goals as goal

pub loop-init : goal.loop-init
loop-init c = record {
  grows = alone_same c.args.seat.now;
  fit = c.requires.fit;
  keeps = record { at = refl; stream = refl; end = refl };
  resting = λ resting. resting;
  last = λ last. last;
}

pub returns-in_err-turn_on-clause-grows : goal.returns-in_err-turn_on-clause-grows
returns-in_err-turn_on-clause-grows c = alone_then _ _ _ c.loop.invariant.grows c.turn_on.ensures.grows

pub loop-preserved : goal.loop-preserved
loop-preserved c = record {
  grows = alone_then _ _ _ c.loop.invariant.grows c.turn_on.ensures.grows;
  fit = c.turn_on.ensures.fit;
  keeps = keeps_then _ _ _ c.loop.invariant.keeps c.turn_on.ensures.keeps;
  resting = λ resting. c.in_ok-turn_on.ensures.resting (c.loop.invariant.resting resting);
  last = λ last. c.turn_on.ensures.last (c.loop.invariant.last last);
}

pub returns-clause-grows : goal.returns-clause-grows
returns-clause-grows c = alone_then _ _ _ c.loop.invariant.grows c.turn_on.ensures.grows
