use Rattle.std.proofs.Common.{◌<◌, length, refl, sym, subst}
use Rattle.history_book.specs.Book.{SessionState, IsInTransaction}
use Rattle.history_core.specs.Chronicle.{Chronicle}
use Rattle.seat_samples.specs.SessionStates.{MayGoOn}
use Rattle.seat_samples.proofs.seats.busy_seat.Goals as goal

pub seat-book-requires : goal.seat-book-requires
seat-book-requires c =
    let may : MayGoOn c.args.store c.args.session =
    subst (λ (h : Chronicle). MayGoOn h c.args.session) c.history.ensures.is (c.may_go_on.ensures c.if-not-may_go_on.false)
    in
    may.open_is

pub returns : goal.returns
returns c =
    let may : MayGoOn c.args.store c.args.session =
    subst (λ (h : Chronicle). MayGoOn h c.args.session) c.history.ensures.is (c.may_go_on.ensures c.if-not-may_go_on.false)
    in
    record {
      pending = subst (λ (state : SessionState). IsInTransaction state) (sym (c.seat-book.ensures.pending c.args.session refl may.pending)) tt;
      table = subst (λ (h : Chronicle). 0 < length h.tables) (sym c.seat-book.ensures.seen) may.table;
    }
