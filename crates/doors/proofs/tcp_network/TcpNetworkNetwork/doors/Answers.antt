use Rattle.std.proofs.Common.{◌∙◌, ap}
use Rattle.doors.specs.TcpDoors.{tcp_networked}
use Rattle.doors.proofs.Opening.{opened_told}
use Rattle.doors.proofs.tcp_network.TcpNetworkNetwork.doors.Goals as goal

pub returns-clause-ok : goal.returns-clause-ok
returns-clause-ok g c =
    ap tcp_networked c.in_ok-doors.ensures.ok
    ∙ opened_told c.args.address.now c.args.number c.args.self.now c.in_ok-doors.doors.items c.in_ok-doors.ensures.doors
