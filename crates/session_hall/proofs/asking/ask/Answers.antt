use Rattle.std.proofs.Common.{refl, subst, sym, ◌∙◌}
use Rattle.history_core.specs.Chronicle.{Chronicle}
use Rattle.session_hall.specs.Seats.{Grows, IsAttending}
use Rattle.session_hall.proofs.Going.{some_same}
use Rattle.session_hall.proofs.asking.ask.Goals as goal

pub ask_on-requires-clause-attending : goal.ask_on-requires-clause-attending
ask_on-requires-clause-attending c =
    let (history, is, attending) = c.requires.attending in
    subst (λ (x : Chronicle). IsAttending x c.args.seat.now)
    (some_same history c.in-Some.taken (sym is ∙ sym c.take.ensures.value ∙ c.in-Some.is)) attending

pub returns-clause-goes : goal.returns-clause-goes
returns-clause-goes c = λ history is. record {
  now = c.ask_on.result;
  store = refl;
  legal = c.ask_on.ensures.legal;
  grows = subst (λ (x : Chronicle). Grows x c.args.seat.now 1 c.ask_on.result c.ask_on.new.seat)
      (some_same c.in-Some.taken history (sym c.in-Some.is ∙ c.take.ensures.value ∙ is)) c.ask_on.ensures.grows;
}
