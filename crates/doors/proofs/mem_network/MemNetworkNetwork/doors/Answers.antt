use Rattle.std.proofs.Common.{◌∙◌, sym, ap, map, take}
use Rattle.std.proofs.lemmas.List.{take-map}
use Rattle.doors.specs.MemDoors.{mem_passage}
use Rattle.doors.specs.MemNetworks.{MemNetworkState}
use Rattle.doors.proofs.mem_network.MemNetworkNetwork.doors.Goals as goal

pub returns-clause-told : goal.returns-clause-told
returns-clause-told c =
    ap (map mem_passage) c.in_ok-doors.ensures.doors
    ∙ ap (λ (s : MemNetworkState). map mem_passage (take c.args.number s.doors)) c.begin_doors.ensures.same
    ∙ sym (take-map mem_passage c.args.number c.args.self.now.doors)
