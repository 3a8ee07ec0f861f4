use Rattle.std.proofs.Common.{Option, None, arith, refl, ap, subst, sym, ◌∙◌, ◌≡◌}
use Rattle.block_machine.specs.declared.end.End.{End}
use Rattle.session_core.specs.Sessions.{wanted}
use Rattle.txn_buffer.proofs.Lists.{slice_get-set_other}
use Rattle.session_hall.specs.declared.seat.Seat.{Seat}
use Rattle.session_hall.specs.Seats.{IsResting, ShowsEnd}
use Rattle.session_hall.specs.Halls.{with_account}
use Rattle.session_hall.proofs.Going.{going_settled}
use Rattle.session_hall.proofs.Stepping.{resting_of, hall_rests, hall_steps, none_end, not_ended, same_seat, seat_known, some_end}
use Rattle.session_hall.proofs.hall.Hall.step.Goals as goal

pub returns-then-is_some-clause-step : goal.returns-then-is_some-clause-step
returns-then-is_some-clause-step c = λ level history clients accounts stands.
    let (client, at, seated) = seat_known level history clients accounts c.args.self.now c.args.client c.index.result.now stands c.requires.range c.index.ensures in
    hall_rests level history clients accounts c.args.self.now c.args.client c.index.result.now stands at
    (some_end c.index.result.now.end (sym c.if-is_some.true ∙ c.is_some.ensures))

pub step-requires-clause-attending : goal.step-requires-clause-attending
step-requires-clause-attending c =
    let (level, history, clients, accounts, stands) = c.requires.hall in
    let (client, at, seated) = seat_known level history clients accounts c.args.self.now c.args.client c.index_mut.result.now stands c.requires.range
    c.index_mut.ensures.value in
    (history, stands.store, stands.legal, (level, client, accounts c.args.client, seated.attends))

pub step-requires-clause-settled : goal.step-requires-clause-settled
step-requires-clause-settled c =
    let (level, history, clients, accounts, stands) = c.requires.hall in
    let (client, at, seated) = seat_known level history clients accounts c.args.self.now c.args.client c.index_mut.result.now stands c.requires.range
    c.index_mut.ensures.value in
    let none : c.index_mut.result.now.end ≡ None =
    ap (λ (s : Seat). s.end)
    (same_seat c.args.self.now.seats.items c.args.client c.index_mut.result.now c.index.result.now c.requires.range c.index_mut.ensures.value c.index.ensures)
    ∙ none_end c.index.result.now.end (sym c.if-is_some.false ∙ c.is_some.ensures) in
    going_settled (wanted c.index_mut.result.now.session)
    (subst (λ (o : Option End). ShowsEnd o (wanted c.index_mut.result.now.session)) none seated.shows)

pub step-requires-clause-resting : goal.step-requires-clause-resting
step-requires-clause-resting c =
    let (level, history, clients, accounts, stands) = c.requires.hall in
    let (client, at, seated) = seat_known level history clients accounts c.args.self.now c.args.client c.index_mut.result.now stands c.requires.range
    c.index_mut.ensures.value in
    seated.resting
    (ap (λ (s : Seat). s.end)
    (same_seat c.args.self.now.seats.items c.args.client c.index_mut.result.now c.index.result.now c.requires.range c.index_mut.ensures.value c.index.ensures)
    ∙ none_end c.index.result.now.end (sym c.if-is_some.false ∙ c.is_some.ensures))

pub returns-clause-step : goal.returns-clause-step
returns-clause-step c = λ level history clients accounts stands.
    let (client, at, seated) = seat_known level history clients accounts c.args.self.now c.args.client c.index_mut.result.now stands c.requires.range
    c.index_mut.ensures.value in
    let none : c.index_mut.result.now.end ≡ None =
    ap (λ (s : Seat). s.end)
    (same_seat c.args.self.now.seats.items c.args.client c.index_mut.result.now c.index.result.now c.requires.range c.index_mut.ensures.value c.index.ensures)
    ∙ none_end c.index.result.now.end (sym c.if-is_some.false ∙ c.is_some.ensures) in
    let (many, count, goes) = c.step.ensures.goes history stands.store in
    hall_steps c.step.result level history clients accounts c.args.self.now _ c.args.client c.index_mut.result.now c.step.new.seat many stands
    (omega (arith, c.requires.range, stands.count)) at refl (seated.resting none) count goes c.step.ensures.shows c.step.ensures.by c.step.ensures.told
    (resting_of c.step.result c.step.new.seat.end (IsResting c.step.new.seat) c.step.ensures.by c.step.ensures.resting) c.step.ensures.resting c.step.ensures.unsent

pub returns-clause-others : goal.returns-clause-others
returns-clause-others c = λ k apart. slice_get-set_other c.args.self.now.seats.items c.args.client k c.step.new.seat apart

pub returns-clause-ended : goal.returns-clause-ended
returns-clause-ended c =
    let (level, history, clients, accounts, stands) = c.requires.hall in
    let (client, at, seated) = seat_known level history clients accounts c.args.self.now c.args.client c.index.result.now stands c.requires.range c.index.ensures in
    λ ended. absurd (not_ended c.args.self.now c.args.client c.index.result.now at (none_end c.index.result.now.end (sym c.if-is_some.false ∙ c.is_some.ensures)) ended)

pub returns-clause-hall : goal.returns-clause-hall
returns-clause-hall c =
    let (level, history, clients, accounts, stands) = c.requires.hall in
    let step = returns-clause-step c level history clients accounts stands in
    (level, step.now, clients, with_account accounts c.args.client step.after, step.stands)
