use Rattle.std.proofs.Common.{refl, subst, sym}
use Rattle.history_core.specs.Chronicle.{IsLegalChronicle}
use Rattle.session_core.specs.Sessions.{wanted}
use Rattle.session_hall.proofs.Asked.{asked_grows, asked_sits, seat_open}
use Rattle.session_hall.proofs.Going.{call_is}
use Rattle.session_hall.proofs.asking.ask_on.Goals as goal

pub seat-book-requires : goal.seat-book-requires
seat-book-requires c =
    let (level, client, a, attends) = c.requires.attending in
    let (k, is) = call_is (wanted c.args.seat.now.session) c.requires.call in
    seat_open c.args.seat.now c.args.store c.number-number.result k level client a attends
    (c.number-number.ensures a.taken a.entries a.calls a.sent attends.follows.stands) is

pub make_call-requires-clause-wanted : goal.make_call-requires-clause-wanted
make_call-requires-clause-wanted c = call_is (wanted c.args.seat.now.session) c.requires.call

pub make_call-requires-clause-sits : goal.make_call-requires-clause-sits
make_call-requires-clause-sits c =
    let (level, client, a, attends) = c.requires.attending in
    let (k, is) = call_is (wanted c.args.seat.now.session) c.requires.call in
    asked_sits c.args.seat.now c.args.store c.number-number.result c.seat-book.result k level client a attends
    (c.number-number.ensures a.taken a.entries a.calls a.sent attends.follows.stands) is
    (record {
      seen = c.seat-book.ensures.seen;
      own = c.seat-book.ensures.own;
      none = c.seat-book.ensures.none;
      idle = c.seat-book.ensures.idle;
      busy = c.seat-book.ensures.pending;
    })

pub returns-clause-grows : goal.returns-clause-grows
returns-clause-grows c =
    asked_grows c.args.seat.now _ c.args.store c.into_store.result c.number-number.result c.seat-book.result c.make_call.new.book c.number-number.ensures
    (record {
      seen = c.seat-book.ensures.seen;
      own = c.seat-book.ensures.own;
      none = c.seat-book.ensures.none;
      idle = c.seat-book.ensures.idle;
      busy = c.seat-book.ensures.pending;
    }) c.make_call.ensures.made c.make_call.ensures.sits c.make_call.ensures.stays
    (c.make_call.ensures.legal (subst IsLegalChronicle (sym c.seat-book.ensures.seen) c.history.ensures.legal)) c.into_store.ensures.stands
    c.make_call.ensures.served c.make_call.ensures.outer c.make_call.ensures.lacks c.make_call.ensures.last c.into_store.ensures.is refl refl refl
