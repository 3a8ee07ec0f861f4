use Rattle.session_core.specs.Stands.{IsFit, IsLast}
use Rattle.session_core.specs.Sessions.{work_of}
use Rattle.session_hall.specs.Seats.{GrowsAlone, Keeps, IsResting}
use Rattle.session_hall.proofs.telling.settle.Given as goal

abbrev pub invariant-loop : goal.invariant-loop
invariant-loop l = record {
  grows : GrowsAlone l.initial.seat l.seat;
  fit : IsFit l.seat.session.runner;
  keeps : Keeps l.initial.seat l.seat;
  resting : IsResting l.initial.seat → IsResting l.seat;
  last : IsLast l.initial.seat.session.stage → IsLast l.seat.session.stage;
}

abbrev pub decreases-loop : goal.decreases-loop
decreases-loop l = work_of l.seat.session
