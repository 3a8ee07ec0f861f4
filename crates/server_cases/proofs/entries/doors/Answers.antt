use Rattle.std.specs.Prelude.{All, List}
use Rattle.std.proofs.Common.{subst, sym}
use Rattle.std.proofs.lemmas.List.Elements.{All-push}
use Rattle.doors.specs.MemDoors.{MemDoorState, mem_passage}
use Rattle.doors.specs.Passage.{IsUnused}
use Rattle.server_cases.proofs.entries.doors.Goals as goal

pub loop-entry-preserved : goal.loop-entry-preserved
loop-entry-preserved c =
    let unused : MemDoorState → Type 0 = λ door. IsUnused (mem_passage door) in
    subst (λ (doors : List MemDoorState). All unused doors) (sym c.in_ok-push.ensures.items)
    (All-push unused c.loop-entry.doors.items c.in_ok-one.one c.loop-entry.invariant c.in_ok-one.ensures)
