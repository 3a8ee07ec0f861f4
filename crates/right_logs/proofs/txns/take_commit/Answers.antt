use Rattle.std.proofs.Common.{refl, ◌∙◌}
use Rattle.right_logs.proofs.Still.{session_in_place}
use Rattle.right_logs.proofs.TxnLemmas.{pending_room, reads_room, flag_room, notes_ascending, writes_within, writes_noted, commit_goes}
use Rattle.right_logs.proofs.txns.take_commit.Goals as goal

pub still_met-met-requires-clause-stands : goal.still_met-met-requires-clause-stands
still_met-met-requires-clause-stands c = c.requires.stands

pub still_met-met-requires-clause-some : goal.still_met-met-requires-clause-some
still_met-met-requires-clause-some c =
    (reads_room c.args.places.now.at.items c.args.pass.now c.args.session c.in-Some.number c.requires.stands (rw c.deref.ensures.value at c.in-Some.ensures)).0

pub still_met-met-requires-clause-opened : goal.still_met-met-requires-clause-opened
still_met-met-requires-clause-opened c =
    (reads_room c.args.places.now.at.items c.args.pass.now c.args.session c.in-Some.number c.requires.stands (rw c.deref.ensures.value at c.in-Some.ensures)).1

pub places_in-writes-requires-clause-some : goal.places_in-writes-requires-clause-some
places_in-writes-requires-clause-some c =
    (pending_room c.args.places.now.at.items c.args.pass.now c.args.session c.in-Some.number c.requires.stands (rw c.deref.ensures.value at c.in-Some.ensures)).0

pub places_in-writes-requires-clause-opened : goal.places_in-writes-requires-clause-opened
places_in-writes-requires-clause-opened c =
    rw c.deref-2.ensures.value
    (pending_room c.args.places.now.at.items c.args.pass.now c.args.session c.in-Some.number c.requires.stands (rw c.deref.ensures.value at c.in-Some.ensures)).1

pub note_all_committed-requires-clause-ascending : goal.note_all_committed-requires-clause-ascending
note_all_committed-requires-clause-ascending c = notes_ascending c.args.places.now.at.items c.args.pass.now c.requires.stands

pub note_all_committed-requires-clause-numbered : goal.note_all_committed-requires-clause-numbered
note_all_committed-requires-clause-numbered c =
    writes_within c.args.places.now.at.items c.args.pass.now c.args.session c.places_in-writes.result.now c.as_slice-of_events.result.now c.requires.stands
    (rw c.deref-2.ensures.value at c.places_in-writes.ensures) (c.as_slice-of_events.ensures.value ∙ c.in_ok-note_place.ensures.number)

pub note_all_committed-requires-clause-within : goal.note_all_committed-requires-clause-within
note_all_committed-requires-clause-within c =
    writes_noted c.args.places.now.at.items c.args.pass.now c.args.session c.places_in-writes.result.now c.as_slice-of_events.result.now c.requires.stands
    (rw c.deref-2.ensures.value at c.places_in-writes.ensures) (c.as_slice-of_events.ensures.value ∙ c.in_ok-note_place.ensures.number)

pub clear_pending-requires-clause-some : goal.clear_pending-requires-clause-some
clear_pending-requires-clause-some c =
    (pending_room c.args.places.now.at.items c.args.pass.now c.args.session c.in-Some.number c.requires.stands (rw c.deref.ensures.value at c.in-Some.ensures)).0

pub clear_pending-requires-clause-opened : goal.clear_pending-requires-clause-opened
clear_pending-requires-clause-opened c =
    (pending_room c.args.places.now.at.items c.args.pass.now c.args.session c.in-Some.number c.requires.stands (rw c.deref.ensures.value at c.in-Some.ensures)).1

pub set_committed-requires-clause-some : goal.set_committed-requires-clause-some
set_committed-requires-clause-some c =
    (flag_room c.args.places.now.at.items c.args.pass.now c.args.session c.in-Some.number c.requires.stands (rw c.deref.ensures.value at c.in-Some.ensures)).0

pub set_committed-requires-clause-begun : goal.set_committed-requires-clause-begun
set_committed-requires-clause-begun c =
    (flag_room c.args.places.now.at.items c.args.pass.now c.args.session c.in-Some.number c.requires.stands (rw c.deref.ensures.value at c.in-Some.ensures)).1

pub clear_reads-requires-clause-some : goal.clear_reads-requires-clause-some
clear_reads-requires-clause-some c =
    (reads_room c.args.places.now.at.items c.args.pass.now c.args.session c.in-Some.number c.requires.stands (rw c.deref.ensures.value at c.in-Some.ensures)).0

pub clear_reads-requires-clause-opened : goal.clear_reads-requires-clause-opened
clear_reads-requires-clause-opened c =
    (reads_room c.args.places.now.at.items c.args.pass.now c.args.session c.in-Some.number c.requires.stands (rw c.deref.ensures.value at c.in-Some.ensures)).1

pub set_pending-requires-clause-some : goal.set_pending-requires-clause-some
set_pending-requires-clause-some c = (session_in_place c.args.pass.now.session_notes.items c.args.session c.in-Some.number (rw c.deref.ensures.value at c.in-Some.ensures)).0

pub set_pending-requires-clause-opened : goal.set_pending-requires-clause-opened
set_pending-requires-clause-opened c = (session_in_place c.args.pass.now.session_notes.items c.args.session c.in-Some.number (rw c.deref.ensures.value at c.in-Some.ensures)).1

pub returns : goal.returns
returns c = λ goes order events stands.
    commit_goes order c.args.places.now.at.items events c.args.session c.in-Some.number c.places_in-writes.result.now c.args.pass.now _
    (rw c.deref.ensures.value at c.in-Some.ensures) (rw c.deref-2.ensures.value at c.places_in-writes.ensures)
    (record {
      notes = record { names_are = refl; keys = refl; of_events = c.in_ok-note_place.ensures.number; values = c.in_ok-note_place.ensures.value };
      session_notes = c.set_pending.ensures;
      pending = c.clear_pending.ensures;
      committed = c.set_committed.ensures;
      cells = rw c.as_slice-of_events.ensures.value at c.in_ok-note_all_committed.ensures;
      last = refl;
      sights = record { txns = refl; clocked = refl; highest = refl; reads = c.clear_reads.ensures; met = c.still_met-met.ensures };
    }) stands
