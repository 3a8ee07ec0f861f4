-- What a network tells: the calls that opened doors, the doors that came back, and the calls that asked a server to stop.
use Rattle.std.specs.Prelude.{◌+◌, ◌-◌, ℕ, List, ◌∷◌, [], ◌++◌, length, Option, None, Some, true, false}
use Rattle.link_traits.specs.Faults.{counted}
use Rattle.doors.specs.Passage.{Passage}
use Rattle.doors.specs.declared.stop_call.StopCall.{StopCall}

-- A call that opens so many doors at an address: nothing where it failed, else the doors as they were handed out.
pub record DoorsCall : Type 0 where
  pub address : List ℕ
  pub number : ℕ
  pub doors : Option (List Passage)

-- what a network tells at a moment
pub record Networked : Type 0 where
  -- the calls that opened doors so far, in order, but those that answered `Memory`
  pub calls : List DoorsCall
  -- the doors of each call that came back, in order, each as it came back
  pub back : List (List Passage)
  -- the number of calls whose doors are out
  pub lent : ℕ
  -- the calls so far that asked a server to stop, in order, but those that answered `Memory`
  pub stops : List StopCall
  -- how often a call failed
  pub faults : ℕ
  -- the doors that can be opened, where the network tells them beforehand
  pub to_open : Option (List Passage)

-- these doors were opened, and these can be opened next
abbrev pub doors_opened : List ℕ → List Passage → Option (List Passage) → Networked → Networked
doors_opened address doors next network = record network {
  calls = network.calls ++ record { address = address; number = length doors; doors = Some doors } ∷ [];
  lent = network.lent + 1;
  to_open = next;
}

-- no doors were opened, and that was counted
abbrev pub open_failed : List ℕ → ℕ → Networked → Networked
open_failed address number network = record network {
  calls = network.calls ++ record { address = address; number = number; doors = None } ∷ [];
  faults = counted network.faults;
}

-- the request to stop was sent to an address
abbrev pub stop_sent : List ℕ → Networked → Networked
stop_sent address network = record network { stops = network.stops ++ record { address = address; sent = true } ∷ [] }

-- it wasn't sent, and that was counted
abbrev pub stop_failed : List ℕ → Networked → Networked
stop_failed address network = record network {
  stops = network.stops ++ record { address = address; sent = false } ∷ [];
  faults = counted network.faults;
}

-- the doors of a call came back
abbrev pub doors_returned : List Passage → Networked → Networked
doors_returned doors network = record network {
  back = network.back ++ doors ∷ [];
  lent = network.lent - 1;
}
