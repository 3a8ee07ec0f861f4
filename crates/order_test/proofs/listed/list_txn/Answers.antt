use Rattle.std.proofs.Common.{◌≡◌, Some, ℕ, List, ◌+◌, sym, ◌∙◌, subst, arith}
use Rattle.std.specs.List.{slice_get}
use Rattle.cell_writers.specs.declared.writers.CellWriters.{CellWriters}
use Rattle.std.proofs.lemmas.Bool.{false≢true}
use Rattle.std.proofs.lemmas.Result.{on_ok_weaker}
use Rattle.order_test.specs.Firsts.{AreIndexes}
use Rattle.order_test.proofs.ListedLemmas.{lists_skip, lists_note, notes_as, changed_width}
use Rattle.order_test.proofs.FirstLemmas.{indexes_more, indexes_note, listed_up}
use Rattle.order_test.proofs.listed.list_txn.Goals as goal

pub note_presences-requires-clause-indexes : goal.note_presences-requires-clause-indexes
note_presences-requires-clause-indexes c =
    subst (λ (ls : List CellWriters). AreIndexes ls c.args.number c.args.firsts.now.items) (sym c.deref.ensures.value)
    (let next = c.requires.number in indexes_more c.args.lists.now.items c.args.at c.args.number c.args.firsts.now.items (omega arith) c.requires.firsts)

pub note_presences-requires-clause-up : goal.note_presences-requires-clause-up
note_presences-requires-clause-up c = λ writers is.
    let next = c.requires.number in
    listed_up c.args._txns.now c.args.at c.args.lists.now.items c.requires.lists c.args.txn.now.session writers
    (subst (λ (ls : List CellWriters). slice_get ls c.args.txn.now.session ≡ Some writers) c.deref.ensures.value is) c.args.number (omega arith)

pub note_session-requires-clause-ascending : goal.note_session-requires-clause-ascending
note_session-requires-clause-ascending c = c.requires.lists.ascending c.args.txn.now.session

pub returns-then-not-is_committed-clause-lists : goal.returns-then-not-is_committed-clause-lists
returns-then-not-is_committed-clause-lists c =
    lists_skip c.args._txns.now c.args.at c.args.txn.now c.args.lists.now.items c.requires.is
    (λ state. false≢true (sym c.if-not-is_committed.true ∙ c.is_committed.ensures.1 state)) c.requires.lists

pub returns-then-not-is_committed-clause-firsts : goal.returns-then-not-is_committed-clause-firsts
returns-then-not-is_committed-clause-firsts c = indexes_more c.args.lists.now.items c.args.at (c.args.at + 1) c.args.firsts.now.items (omega arith) c.requires.firsts

pub returns-clause-lists : goal.returns-clause-lists
returns-clause-lists c =
    on_ok_weaker c.note_session.result
    (λ changes. lists_note c.args._txns.now c.args.at c.args.txn.now c.args.lists.now.items c.note_session.new.lists.items c.requires.is c.requires.lists
    (notes_as c.args.lists.now.items c.note_session.new.lists.items c.args.txn.now.session c.writes-written.result.now c.args.txn.now.buffer.writes c.args.number (c.args.at + 1)
    c.writes-written.ensures.items c.requires.number changes))
    c.note_session.ensures

pub returns-clause-firsts : goal.returns-clause-firsts
returns-clause-firsts c =
    on_ok_weaker c.note_session.result
    (λ changes. subst (λ (n : ℕ). AreIndexes c.note_session.new.lists.items n c.note_presences.new.firsts.items) c.requires.number
    (indexes_note c.args.lists.now.items c.note_session.new.lists.items c.args.firsts.now.items c.note_presences.new.firsts.items c.args.txn.now.session c.args.number c.writes-written.result.now
    c.in_ok-note_presences.ensures changes
    (let next = c.requires.number in indexes_more c.args.lists.now.items c.args.at c.args.number c.args.firsts.now.items (omega arith) c.requires.firsts)))
    c.note_session.ensures

pub returns-clause-width : goal.returns-clause-width
returns-clause-width c = on_ok_weaker c.note_session.result (λ changes. changed_width c.args.lists.now.items c.note_session.new.lists.items c.args.txn.now.session changes) c.note_session.ensures
