use Rattle.std.proofs.Common.{None, true, arith, refl}
use Rattle.right_logs.proofs.SessionLemmas.{open_goes}
use Rattle.right_logs.proofs.sessions.take_open.Goals as goal

pub returns : goal.returns
returns c = λ goes order events stands.
    open_goes order c.args.places.now.at.items events c.args.session c.args.pass.now _ (omega arith) (record {
      note = record { is_open = true; pending = None };
      is_open = refl;
      none_pending = refl;
      session_notes = c.in_ok-push.ensures.items;
      blank = record { places = c.new.result };
      no_place = c.new.ensures.items;
      pending = c.in_ok-push-2.ensures.items;
      names_are = refl;
      last = c.in_ok-push-3.ensures.items;
      sights = record {
        blank = record { notes = c.new-2.result };
        no_read = c.new-2.ensures.items;
        reads = c.in_ok-push-4.ensures.items;
        txns = refl;
        clocked = c.keeps_clocks-pass.ensures;
        highest = refl;
        met = refl;
      };
      place = record {
        committed = refl;
        keys = refl;
        of_events = c.in_ok-note_place.ensures.number;
        notes = refl;
        values = c.in_ok-note_place.ensures.value;
      };
    }) stands
