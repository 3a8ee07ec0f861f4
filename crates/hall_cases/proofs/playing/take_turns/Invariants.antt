use Rattle.std.proofs.Common.{◌≡◌}
use Rattle.session_hall.specs.Halls.{IsHall, clients_of}
use Rattle.hall_cases.proofs.playing.take_turns.Given as goal

abbrev pub invariant-loop-event : goal.invariant-loop-event
invariant-loop-event l = record {
  hall : IsHall l.hall;
  range : clients_of l.hall ≡ clients_of l.initial.hall;
}
