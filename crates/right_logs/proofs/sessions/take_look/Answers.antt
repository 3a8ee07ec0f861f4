use Rattle.std.proofs.Common.{refl, arith}
use Rattle.right_logs.proofs.SessionLemmas.{look_goes}
use Rattle.right_logs.proofs.sessions.take_look.Goals as goal

pub returns : goal.returns
returns c = λ goes order events stands.
    look_goes order c.args.places.now.at.items events c.args.session c.args.tables c.args.pass.now _
    (rw c.deref.ensures.value at (c.is_open.ensures c.if-not-is_open.false)) (omega arith) (record {
      place = record {
        committed = refl;
        keys = refl;
        of_events = c.in_ok-note_place.ensures.number;
        notes = refl;
        values = c.in_ok-note_place.ensures.value;
      };
      session_notes = refl;
      pending = refl;
      names_are = refl;
      last = refl;
      sights = record { txns = refl; clocked = refl; highest = refl; reads = refl; met = refl };
    }) stands
