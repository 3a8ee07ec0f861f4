use Rattle.std.proofs.Common.{◌≡◌, ◌<◌, All}
use Rattle.session_hall.specs.Halls.{IsHall, clients_of}
use Rattle.sim_command.specs.Simulations.{DrawsTo}
use Rattle.sim_command.specs.Playing.{Goes}
use Rattle.sim_command.proofs.playing.play.Given as goal

abbrev pub invariant-loop-hall : goal.invariant-loop-hall
invariant-loop-hall l = record {
  goes : Goes (λ picks. DrawsTo l.initial.words l.initial.going.items picks l.words l.going.items) l.initial.left l.initial.hall l.left l.hall;
  hall : IsHall l.hall;
  range : clients_of l.hall ≡ clients_of l.initial.hall;
  below : All (λ k. k < clients_of l.hall) l.going.items;
}

abbrev pub decreases-loop-hall : goal.decreases-loop-hall
decreases-loop-hall l = l.left
