use Rattle.std.proofs.Common.{ℕ, List, ◌++◌, ◌∙◌, ap, sym}
use Rattle.session_hall.proofs.Stepping.{seat_known}
use Rattle.session_hall.proofs.hall.Hall.sent.Goals as goal

pub returns : goal.returns
returns c = λ level history clients accounts stands.
    let (client, at, seated) = seat_known level history clients accounts c.args.self.now c.args.client c.index.result.now stands c.requires c.index.ensures in
    seated.attends.carries.sent ∙ ap (λ (x : List ℕ). x ++ (accounts c.args.client).lost) (sym c.as_slice.ensures.value)
