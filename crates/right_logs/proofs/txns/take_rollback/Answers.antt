use Rattle.std.proofs.Common.{refl}
use Rattle.right_logs.proofs.Still.{session_in_place}
use Rattle.right_logs.proofs.TxnLemmas.{pending_room, reads_room, rollback_goes}
use Rattle.right_logs.proofs.txns.take_rollback.Goals as goal

pub still_met-met-requires-clause-stands : goal.still_met-met-requires-clause-stands
still_met-met-requires-clause-stands c = c.requires.stands

pub still_met-met-requires-clause-some : goal.still_met-met-requires-clause-some
still_met-met-requires-clause-some c =
    (reads_room c.args.places.now.at.items c.args.pass.now c.args.session c.in-Some.number c.requires.stands (rw c.deref.ensures.value at c.in-Some.ensures)).0

pub still_met-met-requires-clause-opened : goal.still_met-met-requires-clause-opened
still_met-met-requires-clause-opened c =
    (reads_room c.args.places.now.at.items c.args.pass.now c.args.session c.in-Some.number c.requires.stands (rw c.deref.ensures.value at c.in-Some.ensures)).1

pub clear_pending-requires-clause-some : goal.clear_pending-requires-clause-some
clear_pending-requires-clause-some c =
    (pending_room c.args.places.now.at.items c.args.pass.now c.args.session c.in-Some.number c.requires.stands (rw c.deref.ensures.value at c.in-Some.ensures)).0

pub clear_pending-requires-clause-opened : goal.clear_pending-requires-clause-opened
clear_pending-requires-clause-opened c =
    (pending_room c.args.places.now.at.items c.args.pass.now c.args.session c.in-Some.number c.requires.stands (rw c.deref.ensures.value at c.in-Some.ensures)).1

pub clear_reads-requires-clause-some : goal.clear_reads-requires-clause-some
clear_reads-requires-clause-some c =
    (reads_room c.args.places.now.at.items c.args.pass.now c.args.session c.in-Some.number c.requires.stands (rw c.deref.ensures.value at c.in-Some.ensures)).0

pub clear_reads-requires-clause-opened : goal.clear_reads-requires-clause-opened
clear_reads-requires-clause-opened c =
    (reads_room c.args.places.now.at.items c.args.pass.now c.args.session c.in-Some.number c.requires.stands (rw c.deref.ensures.value at c.in-Some.ensures)).1

pub set_pending-requires-clause-some : goal.set_pending-requires-clause-some
set_pending-requires-clause-some c = (session_in_place c.args.pass.now.session_notes.items c.args.session c.in-Some.number (rw c.deref.ensures.value at c.in-Some.ensures)).0

pub set_pending-requires-clause-opened : goal.set_pending-requires-clause-opened
set_pending-requires-clause-opened c = (session_in_place c.args.pass.now.session_notes.items c.args.session c.in-Some.number (rw c.deref.ensures.value at c.in-Some.ensures)).1

pub returns : goal.returns
returns c = λ goes order events stands.
    rollback_goes order c.args.places.now.at.items events c.args.session c.in-Some.number c.args.pass.now _ (rw c.deref.ensures.value at c.in-Some.ensures)
    (record {
      place = record {
        committed = refl;
        keys = refl;
        of_events = c.in_ok-note_place.ensures.number;
        notes = refl;
        values = c.in_ok-note_place.ensures.value;
      };
      names_are = refl;
      session_notes = c.set_pending.ensures;
      pending = c.clear_pending.ensures;
      last = refl;
      sights = record { txns = refl; clocked = refl; highest = refl; reads = c.clear_reads.ensures; met = c.still_met-met.ensures };
    }) stands
