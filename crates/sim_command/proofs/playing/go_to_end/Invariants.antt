use Rattle.std.proofs.Common.{◌≡◌, All}
use Rattle.session_hall.specs.Halls.{IsHall, clients_of}
use Rattle.sim_command.specs.Playing.{Goes}
use Rattle.sim_command.specs.Simulations.{GoesOn}
use Rattle.sim_command.proofs.playing.go_to_end.Given as goal

abbrev pub invariant-loop-fault : goal.invariant-loop-fault
invariant-loop-fault l = record {
  goes : Goes (GoesOn l.client) l.initial.left l.initial.hall l.left l.hall;
  hall : IsHall l.hall;
  range : clients_of l.hall ≡ clients_of l.initial.hall;
}

abbrev pub decreases-loop-fault : goal.decreases-loop-fault
decreases-loop-fault l = l.left
