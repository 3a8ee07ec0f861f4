use Rattle.session_hall.proofs.Stepping.{seat_known}
use Rattle.session_hall.proofs.hall.Hall.short.Goals as goal

pub returns : goal.returns
returns c = λ level history clients accounts stands.
    let (client, at, seated) = seat_known level history clients accounts c.args.self.now c.args.client c.index.result.now stands c.requires c.index.ensures in
    let a = accounts c.args.client in
    c.is_short.ensures a.taken a.entries a.calls a.sent seated.attends.follows.stands
