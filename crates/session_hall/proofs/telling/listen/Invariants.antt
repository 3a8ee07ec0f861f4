use Rattle.std.proofs.Common.{◌≡◌}
use Rattle.session_core.specs.Stands.{IsFit}
use Rattle.session_core.specs.Sessions.{wanted}
use Rattle.session_hall.specs.Seats.{GrowsAlone, IsResting, IsSettled, left_in}
use Rattle.session_hall.proofs.telling.listen.Given as goal

abbrev pub invariant-loop : goal.invariant-loop
invariant-loop l = record {
  grows : GrowsAlone l.initial.seat l.seat;
  fit : IsFit l.seat.session.runner;
  end : l.seat.end ≡ l.initial.seat.end;
  resting : IsResting l.initial.seat → IsResting l.seat;
  settled : IsSettled (wanted l.seat.session);
}

abbrev pub decreases-loop : goal.decreases-loop
decreases-loop l = left_in l.seat
