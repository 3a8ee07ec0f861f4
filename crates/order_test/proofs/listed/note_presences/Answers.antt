use Rattle.std.proofs.Common.{◌<◌, ℕ, length, refl, sym, subst}
use Rattle.std.proofs.lemmas.Option.{slice_get_read}
use Rattle.order_test.proofs.listed.note_presences.Goals as goal

pub note_firsts-requires-clause-rising : goal.note_firsts-requires-clause-rising
note_firsts-requires-clause-rising c =
    let here = slice_get_read c.args.lists.now (length c.args.lists.now) c.args.session c.index-lists-session.result refl c.requires.within c.index-lists-session.is in
    let tables =
    slice_get_read c.args.firsts.now.items (length c.args.firsts.now.items) c.args.session c.index_mut-tables.result.now refl (subst (λ (n : ℕ). c.args.session < n) (sym c.requires.count) c.requires.within)
    c.index_mut-tables.ensures.value in
    (c.requires.indexes.each c.args.session c.index-lists-session.result c.index_mut-tables.result.now here tables).rising

pub note_firsts-requires-clause-listed : goal.note_firsts-requires-clause-listed
note_firsts-requires-clause-listed c =
    let here = slice_get_read c.args.lists.now (length c.args.lists.now) c.args.session c.index-lists-session.result refl c.requires.within c.index-lists-session.is in
    let tables =
    slice_get_read c.args.firsts.now.items (length c.args.firsts.now.items) c.args.session c.index_mut-tables.result.now refl (subst (λ (n : ℕ). c.args.session < n) (sym c.requires.count) c.requires.within)
    c.index_mut-tables.ensures.value in
    (c.requires.indexes.each c.args.session c.index-lists-session.result c.index_mut-tables.result.now here tables).listed

pub note_firsts-requires-clause-up : goal.note_firsts-requires-clause-up
note_firsts-requires-clause-up c =
    c.requires.up c.index-lists-session.result
    (slice_get_read c.args.lists.now (length c.args.lists.now) c.args.session c.index-lists-session.result refl c.requires.within c.index-lists-session.is)
