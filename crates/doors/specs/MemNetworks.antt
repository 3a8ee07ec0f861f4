-- What a network in memory shows.
use Rattle.std.specs.Prelude.{◌+◌, ◌-◌, ◌<◌, ◌⊎◌, ℕ, List, [], ◌∷◌, ◌++◌, length, map, take, drop, Some, None, Bool, false}
use Rattle.std.specs.Option.{option_map}
use Rattle.link_traits.specs.Faults.{counted}
use Rattle.link_traits.specs.Memory.{FailsNext}
use Rattle.doors.specs.Network.{DoorsCall, Networked}
use Rattle.doors.specs.Returns.{Returns}
use Rattle.doors.specs.MemDoors.{MemDoorState, mem_passage}
use Rattle.doors.specs.declared.mem_doors_call.MemDoorsCall.{MemDoorsCall}
use Rattle.doors.specs.declared.stop_call.StopCall.{StopCall}

-- a network in memory
pub record MemNetworkState : Type 0 where
  -- the doors that can be opened
  pub doors : List MemDoorState
  -- the numbers, from 1, of the calls that are to fail, of `doors` and `ask_to_stop` together
  pub fails : List ℕ
  -- the calls of both so far
  pub asked : ℕ
  -- the calls of `doors` that it tells, with the doors as they were handed out
  pub told : List MemDoorsCall
  -- the doors of each call that came back
  pub returned : Returns (List MemDoorState)
  -- the calls of `ask_to_stop` that it tells
  pub stops : List StopCall
  -- the calls of both that failed
  pub failures : ℕ

-- a network that has these doors
abbrev pub mem_network : List MemDoorState → List ℕ → MemNetworkState
mem_network doors fails = record { doors = doors; fails = fails; asked = 0; told = []; returned = record { list = []; out = 0 }; stops = []; failures = 0 }

-- a call as it is told
abbrev pub mem_call_told : MemDoorsCall → DoorsCall
mem_call_told call = record { address = call.address; number = call.number; doors = option_map (map mem_passage) call.doors }

-- what it tells as a network
abbrev pub mem_networked : MemNetworkState → Networked
mem_networked network = record {
  calls = map mem_call_told network.told;
  back = map (map mem_passage) network.returned.list;
  lent = network.returned.out;
  stops = network.stops;
  faults = network.failures;
  to_open = Some (map mem_passage network.doors);
}

-- the next call for so many doors fails: it is to fail, or there are fewer
abbrev pub DoorsFail : MemNetworkState → ℕ → Type 0
DoorsFail network number = FailsNext network.fails network.asked ⊎ (length network.doors < number)

-- a call was made, which counts also where memory ran out in it
abbrev pub mem_network_asked : MemNetworkState → MemNetworkState
mem_network_asked network = record network { asked = counted network.asked }

-- the first so many doors went out
abbrev pub mem_doors_out : ℕ → MemNetworkState → MemNetworkState
mem_doors_out number network = record network {
  doors = drop number network.doors;
  returned = record network.returned { out = network.returned.out + 1 };
}

-- a call is told
abbrev pub mem_doors_told : MemDoorsCall → MemNetworkState → MemNetworkState
mem_doors_told call network = record network { told = network.told ++ call ∷ [] }

-- the first so many doors went out, and the call is told
abbrev pub mem_doors_opened : List ℕ → ℕ → MemNetworkState → MemNetworkState
mem_doors_opened address number network =
    mem_doors_told (record { address = address; number = number; doors = Some (take number network.doors) }) (mem_doors_out number network)

-- no doors went out, the call is told, and was counted
abbrev pub mem_open_failed : List ℕ → ℕ → MemNetworkState → MemNetworkState
mem_open_failed address number network =
    record (mem_doors_told (record { address = address; number = number; doors = None }) network) { failures = counted network.failures }

-- the doors of a call came back
abbrev pub mem_doors_returned : List MemDoorState → MemNetworkState → MemNetworkState
mem_doors_returned doors network =
    record network { returned = record network.returned { list = network.returned.list ++ doors ∷ []; out = network.returned.out - 1 } }

-- a call that asked the server at an address to stop is told, with whether the request was sent
abbrev pub mem_stop_told : List ℕ → Bool → MemNetworkState → MemNetworkState
mem_stop_told address sent network = record network { stops = network.stops ++ record { address = address; sent = sent } ∷ [] }

-- the request wasn't sent, and that was counted
abbrev pub mem_stop_failed : List ℕ → MemNetworkState → MemNetworkState
mem_stop_failed address network = record (mem_stop_told address false network) { failures = counted network.failures }
