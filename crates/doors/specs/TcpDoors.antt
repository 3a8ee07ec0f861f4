-- What doors and networks over sockets show: no bytes, and no link beforehand.
use Rattle.std.specs.Prelude.{◌+◌, ℕ, List, [], ◌∷◌, ◌++◌, map, replicate, Option, Some, None, Bool, false}
use Rattle.link_traits.specs.Faults.{counted}
use Rattle.link_traits.specs.Traffic.{Sight}
use Rattle.link_traits.specs.Hosts.{no_bytes}
use Rattle.doors.specs.Passage.{Passage}
use Rattle.doors.specs.Network.{DoorsCall, Networked}
use Rattle.doors.specs.Returns.{Returns}
use Rattle.doors.specs.declared.link_faults.LinkFaults.{LinkFaults}
use Rattle.doors.specs.declared.tcp_call.TcpDoorsCall.{TcpDoorsCall}
use Rattle.doors.specs.declared.tcp_call.Opening.{Opening}
use Rattle.doors.specs.declared.tcp_call.Opening.TheVariants as openings
use Rattle.doors.specs.declared.stop_call.StopCall.{StopCall}

-- the request to stop: a cancel request of 16 bytes with the process id 1398034256 and the same number as its secret key
abbrev pub stop_bytes : List ℕ
stop_bytes = 0 ∷ 0 ∷ 0 ∷ 16 ∷ 4 ∷ 210 ∷ 22 ∷ 46 ∷ 83 ∷ 84 ∷ 79 ∷ 80 ∷ 83 ∷ 84 ∷ 79 ∷ 80 ∷ []

-- a door over a socket
pub record TcpDoorState : Type 0 where
  -- the counts of the links that were given back, and how many links are out
  pub returned : Returns LinkFaults
  -- how many links came in
  pub entered : ℕ
  -- the calls of `accept` that failed
  pub failures : ℕ

-- a door by which no link came in
abbrev pub new_tcp_door : TcpDoorState
new_tcp_door = record { returned = record { list = []; out = 0 }; entered = 0; failures = 0 }

-- a link that was given back, as it is told
abbrev pub link_told : LinkFaults → Sight
link_told faults = no_bytes faults.read_faults faults.write_faults

-- what it tells as a door
abbrev pub tcp_passage : TcpDoorState → Passage
tcp_passage door = record {
  accepted = door.entered;
  back = map link_told door.returned.list;
  to_come = None;
  faults = door.failures;
}

-- a network over sockets
pub record TcpNetworkState : Type 0 where
  -- the calls of `doors` that it tells
  pub told : List TcpDoorsCall
  -- the doors of each call that came back
  pub returned : Returns (List TcpDoorState)
  -- the calls of `ask_to_stop` that it tells
  pub stops : List StopCall
  -- the calls of both that failed
  pub failures : ℕ

-- so many doors, as they were handed out, where the call opened them
abbrev pub opened_doors : Opening → ℕ → Option (List Passage)
opened_doors openings.Opened number = Some (replicate number (tcp_passage new_tcp_door))
opened_doors openings.Failed number = None

-- a call as it is told
abbrev pub tcp_call_told : TcpDoorsCall → DoorsCall
tcp_call_told call = record { address = call.address; number = call.number; doors = opened_doors call.opening call.number }

-- what it tells as a network
abbrev pub tcp_networked : TcpNetworkState → Networked
tcp_networked network = record {
  calls = map tcp_call_told network.told;
  back = map (map tcp_passage) network.returned.list;
  lent = network.returned.out;
  stops = network.stops;
  faults = network.failures;
  to_open = None;
}

-- a call is told
abbrev pub tcp_call_added : TcpDoorsCall → TcpNetworkState → TcpNetworkState
tcp_call_added call network = record network { told = network.told ++ call ∷ [] }

-- so many doors were opened at an address, and went out
abbrev pub tcp_doors_opened : List ℕ → ℕ → TcpNetworkState → TcpNetworkState
tcp_doors_opened address number network =
    record (tcp_call_added (record { address = address; number = number; opening = openings.Opened }) network) {
      returned = record network.returned { out = network.returned.out + 1 };
    }

-- no doors were opened, and that was counted
abbrev pub tcp_open_failed : List ℕ → ℕ → TcpNetworkState → TcpNetworkState
tcp_open_failed address number network =
    record (tcp_call_added (record { address = address; number = number; opening = openings.Failed }) network) {
      failures = counted network.failures;
    }

-- a call that asked the server at an address to stop is told, with whether the request was sent
abbrev pub tcp_stop_told : List ℕ → Bool → TcpNetworkState → TcpNetworkState
tcp_stop_told address sent network = record network { stops = network.stops ++ record { address = address; sent = sent } ∷ [] }

-- the request wasn't sent, and that was counted
abbrev pub tcp_stop_failed : List ℕ → TcpNetworkState → TcpNetworkState
tcp_stop_failed address network = record (tcp_stop_told address false network) { failures = counted network.failures }
