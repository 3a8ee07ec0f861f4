use Rattle.std.proofs.Common.{◌≡◌, ℕ, ◌⊎◌, ◌↔◌, ap, ◌∙◌, subst}
use Rattle.std.specs.List.{Contains}
use Rattle.std.proofs.lemmas.List.{get_or_default}
use Rattle.forced_rows.specs.declared.seats.Seat.{Seat}
use Rattle.forced_rows.specs.Seats.{empty_seat, seat_at, GainsSource}
use Rattle.forced_rows.proofs.SeatLists.{changed}
use Rattle.forced_rows.proofs.seats.add_source.Goals as goal

pub returns : goal.returns
returns c =
    let seats = c.args.seats.now.items in
    let seat = c.index_mut.result.now in
    let same : seat ≡ seat_at seats c.args.session = c.index_mut.ensures.value ∙ get_or_default seats c.args.session seat empty_seat c.requires.session in
    let gains = subst (λ (s : Seat). (n : ℕ) → Contains c.set.new.self n ↔ (Contains s.sources n ⊎ (n ≡ c.args.source))) same c.set.ensures in
    changed seats c.args.session record { last = seat.last; sources = c.set.new.self } (GainsSource c.args.source) c.requires.session
    (ap (λ (s : Seat). s.last) same, gains)
