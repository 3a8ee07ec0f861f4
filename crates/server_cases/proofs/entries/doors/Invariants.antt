use Rattle.std.specs.Prelude.{All}
use Rattle.doors.specs.Passage.{IsUnused}
use Rattle.doors.specs.MemDoors.{mem_passage}
use Rattle.server_cases.proofs.entries.doors.Given as goal

abbrev pub invariant-loop-entry : goal.invariant-loop-entry
invariant-loop-entry l = All (λ door. IsUnused (mem_passage door)) l.doors.items
