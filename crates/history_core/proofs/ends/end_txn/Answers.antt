use Rattle.std.proofs.Common.{refl, arith}
use Rattle.history_core.proofs.Numbers.{pending_opened}
use Rattle.history_core.proofs.KeptEnds.{kept_ends, owed_for_pending}
use Rattle.history_core.proofs.ends.end_txn.Goals as goal

pub session_index-place-requires-clause-opened : goal.session_index-place-requires-clause-opened
session_index-place-requires-clause-opened c =
    pending_opened c.args.kept.now.initial c.args.kept.now.events.items c.requires.kept.formed.formed _ c.args.session c.pending_index-at.ensures.pending

pub append-requires : goal.append-requires
append-requires c =
    let one = owed_for_pending c.args.kept.now c.args.session _ c.session_index-place.result c.requires.kept c.pending_index-at.ensures.pending
    c.session_index-place.ensures.number c.session_index-place.ensures.within in
    let room = c.requires.kept.room in omega arith

pub overflow_sub-kept : goal.overflow_sub-kept
overflow_sub-kept c =
    owed_for_pending c.args.kept.now c.args.session _ c.session_index-place.result c.requires.kept c.pending_index-at.ensures.pending
    c.session_index-place.ensures.number c.session_index-place.ensures.within

pub returns-clause-kept : goal.returns-clause-kept
returns-clause-kept c =
    kept_ends c.args.kept.now _ c.args.event c.args.session c.pending_index-at.result c.session_index-place.result c.args.state c.requires.kept
    c.requires.may c.requires.ends c.pending_index-at.ensures.pending c.session_index-place.ensures.number c.set_state.ensures c.set_pending.ensures
    refl c.append.ensures.items refl refl refl c.append.ensures.capacity
