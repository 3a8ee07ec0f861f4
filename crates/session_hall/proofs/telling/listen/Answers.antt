use Rattle.std.proofs.Common.{refl, ◌∙◌}
use Rattle.session_hall.proofs.Turning.{alone_same, alone_then}
use Rattle.session_hall.proofs.telling.listen.Goals as goal

pub loop-init : goal.loop-init
loop-init c = record {
  grows = alone_same c.args.seat.now;
  fit = c.requires.fit;
  end = refl;
  resting = λ resting. resting;
  settled = c.requires.settled;
}

pub returns-in_err-hear_on-clause-grows : goal.returns-in_err-hear_on-clause-grows
returns-in_err-hear_on-clause-grows c = alone_then _ _ _ c.loop.invariant.grows c.hear_on.ensures.grows

pub loop-preserved : goal.loop-preserved
loop-preserved c = record {
  grows = alone_then _ _ _ c.loop.invariant.grows c.hear_on.ensures.grows;
  fit = c.hear_on.ensures.fit;
  end = c.hear_on.ensures.end ∙ c.loop.invariant.end;
  resting = λ resting. c.in_ok-hear_on.ensures.resting (c.loop.invariant.resting resting);
  settled = c.in_ok-hear_on.ensures.settled;
}

pub returns-clause-grows : goal.returns-clause-grows
returns-clause-grows c = alone_then _ _ _ c.loop.invariant.grows c.hear_on.ensures.grows
