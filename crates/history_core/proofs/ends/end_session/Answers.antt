use Rattle.std.proofs.Common.{refl, arith}
use Rattle.history_core.proofs.KeptEnds.{kept_closes, owed_for_open}
use Rattle.history_core.proofs.ends.end_session.Goals as goal

pub append-requires : goal.append-requires
append-requires c =
    let one = owed_for_open c.args.kept.now c.args.session c.session_index-place.result c.requires.kept c.requires.may.follows.0
    c.session_index-place.ensures.number c.session_index-place.ensures.within in
    let room = c.requires.kept.room in omega arith

pub overflow_sub-kept : goal.overflow_sub-kept
overflow_sub-kept c =
    owed_for_open c.args.kept.now c.args.session c.session_index-place.result c.requires.kept c.requires.may.follows.0
    c.session_index-place.ensures.number c.session_index-place.ensures.within

pub returns-clause-kept : goal.returns-clause-kept
returns-clause-kept c =
    kept_closes c.args.kept.now _ c.args.session c.session_index-place.result c.requires.kept c.requires.may c.session_index-place.ensures.number
    c.close.ensures refl c.append.ensures.items refl refl refl refl c.append.ensures.capacity
