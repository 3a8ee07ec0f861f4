use Rattle.std.proofs.Common.{◌+◌, ◌≤◌}
use Rattle.session_core.specs.Stands.{IsFit, IsLast, message_at, message_work}
use Rattle.session_core.specs.Sessions.{work_of}
use Rattle.session_hall.specs.Seats.{GrowsAlone, Keeps, IsResting}
use Rattle.session_hall.proofs.telling.send_on.Given as goal

abbrev pub invariant-loop-seat : goal.invariant-loop-seat
invariant-loop-seat l = record {
  grows : GrowsAlone l.initial.seat l.seat;
  fit : IsFit l.seat.session.runner;
  keeps : Keeps l.initial.seat l.seat;
  resting : IsResting l.initial.seat → IsResting l.seat;
  work : work_of l.seat.session + message_at l.initial.seat.session.stage ≤ work_of l.initial.seat.session + message_at l.seat.session.stage;
  last : IsLast l.initial.seat.session.stage → IsLast l.seat.session.stage;
}

abbrev pub decreases-loop-seat : goal.decreases-loop-seat
decreases-loop-seat l = message_work l.seat.session.stage l.seat.session.runner
