use Rattle.std.proofs.Common.{◌≡◌, take}
use Rattle.doors.proofs.mem_network.copy_doors.Given as goal

abbrev pub invariant-loop-door : goal.invariant-loop-door
invariant-loop-door l = l.copies.items ≡ take l.door-index l.doors
