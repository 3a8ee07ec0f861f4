use Rattle.std.proofs.Common.{rules, subst}
use Rattle.session_core.specs.Sessions.{wanted}
use Rattle.session_core.specs.declared.session.Session.{Session}
use Rattle.session_hall.specs.Seats.{ShowsEnd}
use Rattle.session_hall.proofs.Going.{around_alone, count_none, count_one, goes_alone, goes_between, legal_at}
use Rattle.session_hall.proofs.Turning.{alone_then}
use Rattle.session_hall.proofs.asking.go_on.Goals as goal

pub returns-in_err-listen-clause-goes : goal.returns-in_err-listen-clause-goes
returns-in_err-listen-clause-goes c = λ history is.
    (0, search rules, goes_alone history _ _ _ is (legal_at c.args.store.now c.args.seat.now history c.requires.attending is) c.listen.ensures.grows)

pub returns-then-not-wants_call-clause-goes : goal.returns-then-not-wants_call-clause-goes
returns-then-not-wants_call-clause-goes c = λ history is. (
  0,
  count_none c.note_end.result c.note_end.new.seat.end (wanted c.listen.new.seat.session) c.note_end.ensures.by
      (subst (λ (x : Session). ShowsEnd c.note_end.new.seat.end (wanted x)) c.note_end.ensures.session c.note_end.ensures.shows)
      c.in_ok-listen.ensures.call (c.wants_call.ensures.no c.if-not-wants_call.true),
  goes_alone history _ _ _ is (legal_at c.args.store.now c.args.seat.now history c.requires.attending is)
      (alone_then _ _ _ c.listen.ensures.grows c.note_end.ensures.grows),
)

pub ask-requires-clause-attending : goal.ask-requires-clause-attending
ask-requires-clause-attending c =
    let (history, is, legal, attending) =
    around_alone c.args.store.now c.args.seat.now c.listen.new.seat c.listen.ensures.grows c.requires.attending in
    (history, is, attending)

pub returns-in_err-settle-clause-goes : goal.returns-in_err-settle-clause-goes
returns-in_err-settle-clause-goes c = λ history is.
    (1, search rules, goes_between history _ _ _ _ 1 _ c.listen.ensures.grows (c.ask.ensures.goes history is) c.settle.ensures.grows)

pub returns-clause-goes : goal.returns-clause-goes
returns-clause-goes c = λ history is. (
  1,
  count_one c.note_end-2.result,
  goes_between history _ _ _ _ 1 _ c.listen.ensures.grows (c.ask.ensures.goes history is)
      (alone_then _ _ _ c.settle.ensures.grows c.note_end-2.ensures.grows),
)
