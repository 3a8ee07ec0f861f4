use Rattle.std.proofs.Common.{sym, subst, Option, ℕ}
use Rattle.session_core.specs.Record.{events_of}
use Rattle.session_laws.specs.Openings.{AreOfOneSession}
use Rattle.session_laws.proofs.OneOpening.{one_session}
use Rattle.session_laws.proofs.links.link_opens_one_session.Goals as goal

pub returns : goal.returns
returns g c = record {
  serves = λ level before outcome after account serves.
      subst (λ (n : Option ℕ). AreOfOneSession n (events_of account.entries)) (sym serves.opened)
      (one_session g.W.Words.gives level serves.requests _ _ account.entries before.past before.words after.past after.words serves.told_is serves.valid);
  told = λ level requests said next entries before words after left is valid.
      one_session g.W.Words.gives level requests said next entries before words after left is valid;
}
