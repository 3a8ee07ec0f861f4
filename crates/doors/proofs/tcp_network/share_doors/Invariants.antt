use Rattle.std.proofs.Common.{◌≡◌, ◌≤◌, replicate}
use Rattle.doors.specs.TcpDoors.{new_tcp_door}
use Rattle.doors.proofs.tcp_network.share_doors.Given as goal

abbrev pub invariant-loop : goal.invariant-loop
invariant-loop l = (l.doors.items ≡ replicate l.counter new_tcp_door) × (l.counter ≤ l.number)
