use Rattle.std.proofs.Common.{◌<◌, length, refl, sym, subst}
use Rattle.history_book.specs.Book.{SessionState, IsIdle}
use Rattle.history_core.specs.Chronicle.{Chronicle}
use Rattle.seat_samples.specs.SessionStates.{MayBegin}
use Rattle.seat_samples.proofs.seats.idle_seat.Goals as goal

pub seat-book-requires : goal.seat-book-requires
seat-book-requires c =
    let may : MayBegin c.args.store c.args.session =
    subst (λ (h : Chronicle). MayBegin h c.args.session) c.history.ensures.is (c.may_begin.ensures c.if-not-may_begin.false)
    in
    may.open_is

pub returns : goal.returns
returns c =
    let may : MayBegin c.args.store c.args.session =
    subst (λ (h : Chronicle). MayBegin h c.args.session) c.history.ensures.is (c.may_begin.ensures c.if-not-may_begin.false)
    in
    record {
      idle = subst (λ (state : SessionState). IsIdle state) (sym (c.seat-book.ensures.idle c.args.session refl may.free)) tt;
      table = subst (λ (h : Chronicle). 0 < length h.tables) (sym c.seat-book.ensures.seen) may.table;
    }
