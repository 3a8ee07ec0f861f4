use Rattle.std.proofs.Common.{refl}
use Rattle.right_logs.proofs.Still.{idle_in_place}
use Rattle.right_logs.proofs.SessionLemmas.{close_goes}
use Rattle.right_logs.proofs.sessions.take_close.Goals as goal

pub close_session-requires-clause-some : goal.close_session-requires-clause-some
close_session-requires-clause-some c = (idle_in_place c.args.pass.now.session_notes.items c.args.session (rw c.deref.ensures.value at (c.is_idle.ensures c.if-not-is_idle.false))).0

pub close_session-requires-clause-opened : goal.close_session-requires-clause-opened
close_session-requires-clause-opened c = (idle_in_place c.args.pass.now.session_notes.items c.args.session (rw c.deref.ensures.value at (c.is_idle.ensures c.if-not-is_idle.false))).1

pub returns : goal.returns
returns c = λ goes order events stands.
    close_goes order c.args.places.now.at.items events c.args.session c.args.pass.now _ (rw c.deref.ensures.value at (c.is_idle.ensures c.if-not-is_idle.false)) (record {
      session_notes = c.close_session.ensures;
      pending = refl;
      names_are = refl;
      last = refl;
      sights = record { txns = refl; clocked = refl; highest = refl; reads = refl; met = refl };
      place = record {
        committed = refl;
        keys = refl;
        of_events = c.in_ok-note_place.ensures.number;
        notes = refl;
        values = c.in_ok-note_place.ensures.value;
      };
    }) stands
