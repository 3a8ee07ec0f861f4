use Rattle.std.proofs.Common.{refl}
use Rattle.right_logs.proofs.Still.{idle_in_place}
use Rattle.right_logs.proofs.TxnLemmas.{idle_room, txns_few, last_noted, begin_goes}
use Rattle.right_logs.proofs.txns.take_begin.Goals as goal

pub last_of-last-requires : goal.last_of-last-requires
last_of-last-requires c =
    idle_room c.args.places.now.at.items c.args.pass.now c.args.session c.requires.stands (rw c.deref.ensures.value at (c.is_idle.ensures c.if-not-is_idle.false))

pub next_number-number-requires : goal.next_number-number-requires
next_number-number-requires c = txns_few c.args.places.now.at.items c.args.pass.now c.requires.stands c.requires.few

pub add_txn-requires : goal.add_txn-requires
add_txn-requires c =
    last_noted c.args.places.now.at.items c.args.pass.now c.args.session c.last_of-last.result c.requires.stands
    (idle_room c.args.places.now.at.items c.args.pass.now c.args.session c.requires.stands (rw c.deref.ensures.value at (c.is_idle.ensures c.if-not-is_idle.false)))
    c.last_of-last.ensures

pub set_last-requires : goal.set_last-requires
set_last-requires c =
    idle_room c.args.places.now.at.items c.args.pass.now c.args.session c.requires.stands (rw c.deref.ensures.value at (c.is_idle.ensures c.if-not-is_idle.false))

pub set_pending-requires-clause-some : goal.set_pending-requires-clause-some
set_pending-requires-clause-some c =
    (idle_in_place c.args.pass.now.session_notes.items c.args.session (rw c.deref.ensures.value at (c.is_idle.ensures c.if-not-is_idle.false))).0

pub set_pending-requires-clause-opened : goal.set_pending-requires-clause-opened
set_pending-requires-clause-opened c =
    (idle_in_place c.args.pass.now.session_notes.items c.args.session (rw c.deref.ensures.value at (c.is_idle.ensures c.if-not-is_idle.false))).1

pub returns : goal.returns
returns c = λ goes order events stands.
    begin_goes order c.args.places.now.at.items events c.args.session c.last_of-last.result c.next_number-number.result c.args.level c.args.pass.now _
    (rw c.deref.ensures.value at (c.is_idle.ensures c.if-not-is_idle.false))
    (record {
      last_is = c.last_of-last.ensures;
      number_is = c.next_number-number.ensures;
      stands = c.stands_before.ensures c.if-not-stands_before.false;
    })
    (record {
      notes = record { names_are = refl; keys = refl; of_events = c.in_ok-note_place.ensures.number; values = c.in_ok-note_place.ensures.value };
      session_notes = c.set_pending.ensures;
      pending = refl;
      committed = c.in_ok-push.ensures.items;
      cells = refl;
      last_set = c.set_last.ensures;
      sights = record { txns = c.in_ok-add_txn.ensures; clocked = refl; highest = refl; reads = refl; met = refl };
    }) stands
