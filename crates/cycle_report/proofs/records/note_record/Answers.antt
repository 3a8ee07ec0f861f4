use Rattle.std.proofs.Common.{refl}
use Rattle.history_core.specs.declared.event.Event.TheVariants.{Commit, Rollback}
use Rattle.history_core.specs.declared.txn.TxnState.TheVariants.{Committed, RolledBack}
use Rattle.std.proofs.lemmas.Result.{on_ok_weaker}
use Rattle.cycle_report.proofs.PastSteps.{sound_from}
use Rattle.order_test.proofs.RecordLemmas.{txns_begins, txns_write, txns_end, txns_leave}
use Rattle.cycle_report.proofs.records.note_record.Goals as goal

pub returns-in-Begin : goal.returns-in-Begin
returns-in-Begin c =
    on_ok_weaker c.begin_record.result
    (λ fresh. rw c.in-Begin.is (rw fresh.1
    (txns_begins c.args.before.now c.in-Begin.session c.in-Begin.level c.args.txns.now.items fresh.0 fresh.2 c.requires.txns)))
    c.begin_record.ensures

pub returns-in-Write : goal.returns-in-Write
returns-in-Write c =
    on_ok_weaker c.note_write.result
    (λ changes. rw c.in-Write.is (txns_write c.args.before.now (sound_from c.args.before.now c.requires.comes.settled) c.in-Write.session c.record_place-at.result c.in-Write.cell c.in-Write.value c.args.txns.now.items c.note_write.new.txns.items
    c.requires.txns (rw c.in-Write.is at c.record_place-at.ensures.pending) changes))
    c.note_write.ensures

pub returns-in-Commit : goal.returns-in-Commit
returns-in-Commit c =
    rw c.in-Commit.is (txns_end c.args.before.now (sound_from c.args.before.now c.requires.comes.settled) (Commit c.in-Commit.session) c.in-Commit.session c.record_place-at-in-Commit.result Committed c.args.txns.now.items c.set_state.new.txns.items
    c.requires.txns (refl, refl) (rw c.in-Commit.is at c.record_place-at-in-Commit.ensures.pending) c.set_state.ensures)

pub returns-in-Rollback : goal.returns-in-Rollback
returns-in-Rollback c =
    rw c.in-Rollback.is (txns_end c.args.before.now (sound_from c.args.before.now c.requires.comes.settled) (Rollback c.in-Rollback.session) c.in-Rollback.session c.record_place-at-in-Rollback.result RolledBack c.args.txns.now.items c.set_state-in-Rollback.new.txns.items
    c.requires.txns (refl, refl) (rw c.in-Rollback.is at c.record_place-at-in-Rollback.ensures.pending) c.set_state-in-Rollback.ensures)

pub returns-in-Open : goal.returns-in-Open
returns-in-Open c = rw c.in-Open.is (txns_leave c.args.before.now _ c.args.txns.now.items tt c.requires.txns)

pub returns-in-Close : goal.returns-in-Close
returns-in-Close c = rw c.in-Close.is (txns_leave c.args.before.now _ c.args.txns.now.items tt c.requires.txns)

pub returns-in-Define : goal.returns-in-Define
returns-in-Define c = rw c.in-Define.is (txns_leave c.args.before.now _ c.args.txns.now.items tt c.requires.txns)

pub returns-in-Look : goal.returns-in-Look
returns-in-Look c = rw c.in-Look.is (txns_leave c.args.before.now _ c.args.txns.now.items tt c.requires.txns)

pub returns-in-Own : goal.returns-in-Own
returns-in-Own c = rw c.in-Own.is (txns_leave c.args.before.now _ c.args.txns.now.items tt c.requires.txns)

pub returns-in-Show : goal.returns-in-Show
returns-in-Show c = rw c.in-Show.is (txns_leave c.args.before.now _ c.args.txns.now.items tt c.requires.txns)
