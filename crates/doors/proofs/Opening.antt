-- What a network over sockets tells of a call that opened doors.
use Rattle.std.proofs.Common.{◌≡◌, ◌∙◌, ◌+◌, ◌++◌, ◌∷◌, [], ℕ, zero, suc, List, Some, None, map, length, replicate, refl, ap, sym}
use Rattle.std.proofs.lemmas.List.{map_push, length-replicate}
use Rattle.doors.specs.Passage.{Passage}
use Rattle.doors.specs.Network.{Networked, doors_opened}
use Rattle.doors.specs.TcpDoors.{TcpDoorState, TcpNetworkState, new_tcp_door, tcp_passage, tcp_call_told, tcp_networked, tcp_doors_opened}

-- doors by which no link came in, as they are told
new_passages : (n : ℕ) → map tcp_passage (replicate n new_tcp_door) ≡ replicate n (tcp_passage new_tcp_door)
new_passages zero = refl
new_passages (suc n) = ap (λ rest. tcp_passage new_tcp_door ∷ rest) (new_passages n)

-- what a network tells once so many doors, told by these passages, were opened
abbrev told_with : List ℕ → ℕ → List Passage → TcpNetworkState → Networked
told_with address number passages network = record {
  calls = map tcp_call_told network.told ++ record { address = address; number = number; doors = Some passages } ∷ [];
  back = map (map tcp_passage) network.returned.list;
  lent = network.returned.out + 1;
  stops = network.stops;
  faults = network.failures;
  to_open = None;
}

-- a call is told after the others
call_told : (address : List ℕ) (number : ℕ) (network : TcpNetworkState)
    → tcp_networked (tcp_doors_opened address number network) ≡ told_with address number (replicate number (tcp_passage new_tcp_door)) network
call_told address number network =
    ap (λ calls. record (tcp_networked (tcp_doors_opened address number network)) { calls = calls }) (map_push tcp_call_told network.told _)

-- so the call is told with the doors that it opened
pub opened_told : (address : List ℕ) (number : ℕ) (network : TcpNetworkState) (doors : List TcpDoorState)
    → doors ≡ replicate number new_tcp_door
    → tcp_networked (tcp_doors_opened address number network) ≡ doors_opened address (map tcp_passage doors) None (tcp_networked network)
opened_told address number network doors are =
    let passages : map tcp_passage doors ≡ replicate number (tcp_passage new_tcp_door) = ap (map tcp_passage) are ∙ new_passages number in
    let count : length (map tcp_passage doors) ≡ number = ap length passages ∙ length-replicate number (tcp_passage new_tcp_door) in
    call_told address number network
    ∙ sym (ap (λ p. told_with address number p network) passages)
    ∙ sym (ap (λ n. told_with address n (map tcp_passage doors) network) count)
