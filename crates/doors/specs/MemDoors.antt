-- What a door in memory shows.
use Rattle.std.specs.Prelude.{◌+◌, ℕ, List, [], ◌∷◌, ◌++◌, map, Some}
use Rattle.link_traits.specs.Faults.{counted}
use Rattle.link_traits.specs.Memory.{MemEnds, mem_sight}
use Rattle.doors.specs.Passage.{Passage}

-- a door in memory
pub record MemDoorState : Type 0 where
  -- the links that are still to come
  pub links : List MemEnds
  -- the links that were given back, in order
  pub returned : List MemEnds
  -- how many links came in
  pub entered : ℕ
  -- the numbers, from 1, of the calls of `accept` that are to fail
  pub fails : List ℕ
  -- the calls of `accept` so far
  pub asked : ℕ
  -- the calls of `accept` that failed
  pub failures : ℕ

-- a door of these links, of which none came in
abbrev pub mem_door : List MemEnds → List ℕ → MemDoorState
mem_door links fails = record { links = links; returned = []; entered = 0; fails = fails; asked = 0; failures = 0 }

-- what it tells as a door
abbrev pub mem_passage : MemDoorState → Passage
mem_passage door = record {
  accepted = door.entered;
  back = map mem_sight door.returned;
  to_come = Some (map mem_sight door.links);
  faults = door.failures;
}

-- a call of `accept`
abbrev pub mem_door_asked : MemDoorState → MemDoorState
mem_door_asked door = record door { asked = counted door.asked }

-- a call of `accept` by which a link came in, and these are left
abbrev pub mem_door_entered : List MemEnds → MemDoorState → MemDoorState
mem_door_entered links door = record (mem_door_asked door) { links = links; entered = door.entered + 1 }

-- a call of `accept` that failed
abbrev pub mem_door_failed : MemDoorState → MemDoorState
mem_door_failed door = record (mem_door_asked door) { failures = counted door.failures }

-- a link was given back
abbrev pub mem_door_returned : MemEnds → MemDoorState → MemDoorState
mem_door_returned link door = record door { returned = door.returned ++ link ∷ [] }
