use Rattle.std.proofs.Common.{refl, subst, sym}
use Rattle.history_book.specs.Book.{SessionState}
use Rattle.shared_book.specs.Places.{IsAt}
use Rattle.shared_book.proofs.Seating.{at_place, seat_open, seat_state, turned_is, turned_adds}
use Rattle.shared_book.proofs.seat.run_on.Goals as goal

pub seat-book-requires : goal.seat-book-requires
seat-book-requires g c =
    let needs = c.requires c.args.store refl c.history.ensures.legal in
    seat_open c.args.place _ c.args.store.events c.session.ensures needs.0

pub make-place-requires-clause-may : goal.make-place-requires-clause-may
make-place-requires-clause-may g c =
    let needs = c.requires c.args.store refl c.history.ensures.legal in
    let seat = c.seat-book.ensures in
    let state = seat_state c.args.place _ c.args.store.events _ c.session.ensures needs.0 seat.none seat.idle seat.pending in
    rw seat.seen (rw state needs.1)

pub make-place-requires-clause-place : goal.make-place-requires-clause-place
make-place-requires-clause-place g c =
    let needs = c.requires c.args.store refl c.history.ensures.legal in
    let seat = c.seat-book.ensures in
    let state = seat_state c.args.place _ c.args.store.events _ c.session.ensures needs.0 seat.none seat.idle seat.pending in
    subst (λ (s : SessionState). IsAt c.args.place s) (sym state) (at_place c.args.place c.args.store.events)

pub returns-clause-turned : goal.returns-clause-turned
returns-clause-turned g c =
    let needs = c.requires c.args.store refl c.history.ensures.legal in
    let seat = c.seat-book.ensures in
    let state = seat_state c.args.place _ c.args.store.events _ c.session.ensures needs.0 seat.none seat.idle seat.pending in
    let made = c.make-place.ensures in
    turned_is c.args.place _ (λ old a new. g.C.SeatCall.does c.args.call old c.args.beside.now a new c.make-place.new.beside) c.args.store _ _ _ _ seat.seen state c.into_store.ensures.is made.place c.into_store.ensures.stands
    c.history.ensures.legal c.history-2.ensures.legal made.adds made.does

pub returns-clause-adds : goal.returns-clause-adds
returns-clause-adds g c = turned_adds _ _ _ _ _ _ (returns-clause-turned g c)
