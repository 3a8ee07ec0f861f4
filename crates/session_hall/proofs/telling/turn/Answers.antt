use Rattle.std.proofs.Common.{rules, refl}
use Rattle.session_hall.proofs.Turning.{alone_same}
use Rattle.session_hall.proofs.telling.turn.Goals as goal

pub returns-in-Bytes : goal.returns-in-Bytes
returns-in-Bytes c = record {
  grows = alone_same c.args.seat.now;
  fit = c.requires.fit;
  keeps = record { at = refl; stream = refl; end = refl };
  resting = λ resting. resting;
  unsent = tt;
  work = λ is. absurd (cc is);
  settled = search rules;
  last = λ last. last;
}
