use Rattle.std.proofs.Common.{refl}
use Rattle.std.proofs.lemmas.Result.{on_ok_weaker}
use Rattle.history_core.specs.declared.event.Event.TheVariants.{Commit, Rollback}
use Rattle.history_check.proofs.PendingLemmas.{pending_open, pending_write, pending_end, pending_other, leaves_pending, list_within}
use Rattle.history_check.proofs.pending_writes.note_pending.Goals as goal

pub add_place-requires-clause-some : goal.add_place-requires-clause-some
add_place-requires-clause-some c =
    (list_within c.args.before.now c.args.lists.now.items c.in-Write.session c.requires.sessions c.requires.lists (rw c.in-Write.is at c.requires.shape).0).0

pub add_place-requires-clause-opened : goal.add_place-requires-clause-opened
add_place-requires-clause-opened c =
    (list_within c.args.before.now c.args.lists.now.items c.in-Write.session c.requires.sessions c.requires.lists (rw c.in-Write.is at c.requires.shape).0).1

pub clear_pending-requires-clause-some : goal.clear_pending-requires-clause-some
clear_pending-requires-clause-some c =
    (list_within c.args.before.now c.args.lists.now.items c.in-Commit.session c.requires.sessions c.requires.lists (rw c.in-Commit.is at c.requires.shape)).0

pub clear_pending-requires-clause-opened : goal.clear_pending-requires-clause-opened
clear_pending-requires-clause-opened c =
    (list_within c.args.before.now c.args.lists.now.items c.in-Commit.session c.requires.sessions c.requires.lists (rw c.in-Commit.is at c.requires.shape)).1

pub clear_pending-requires-in-Rollback-clause-some : goal.clear_pending-requires-in-Rollback-clause-some
clear_pending-requires-in-Rollback-clause-some c =
    (list_within c.args.before.now c.args.lists.now.items c.in-Rollback.session c.requires.sessions c.requires.lists (rw c.in-Rollback.is at c.requires.shape)).0

pub clear_pending-requires-in-Rollback-clause-opened : goal.clear_pending-requires-in-Rollback-clause-opened
clear_pending-requires-in-Rollback-clause-opened c =
    (list_within c.args.before.now c.args.lists.now.items c.in-Rollback.session c.requires.sessions c.requires.lists (rw c.in-Rollback.is at c.requires.shape)).1

pub returns-in_ok-push-in-Open : goal.returns-in_ok-push-in-Open
returns-in_ok-push-in-Open c =
    rw (c.in-Open.is, c.in_ok-push-in-Open.ensures.items)
    (pending_open c.args.before.now c.in-Open.session c.args.lists.now.items (record { places = c.new.result }) c.requires.sessions c.new.ensures.items c.requires.lists)

pub returns-in-Write : goal.returns-in-Write
returns-in-Write c =
    on_ok_weaker c.add_place.result
    (λ changed. rw c.in-Write.is (pending_write c.args.before.now c.in-Write.session (rw c.in-Write.is at c.requires.shape).0.0 c.in-Write.cell c.in-Write.value c.args.lists.now.items
    c.add_place.new.lists.items (rw c.in-Write.is at c.requires.shape).0.1 changed c.requires.lists))
    c.add_place.ensures

pub returns-in-Commit : goal.returns-in-Commit
returns-in-Commit c =
    rw c.in-Commit.is (pending_end c.args.before.now (Commit c.in-Commit.session) c.in-Commit.session c.args.lists.now.items c.clear_pending.new.lists.items refl refl refl (λ t x v same. cc)
    c.clear_pending.ensures c.requires.lists)

pub returns-in-Rollback : goal.returns-in-Rollback
returns-in-Rollback c =
    rw c.in-Rollback.is (pending_end c.args.before.now (Rollback c.in-Rollback.session) c.in-Rollback.session c.args.lists.now.items c.clear_pending-in-Rollback.new.lists.items refl refl refl (λ t x v same. cc)
    c.clear_pending-in-Rollback.ensures c.requires.lists)

pub returns-in_default : goal.returns-in_default
returns-in_default c =
    pending_other c.args.before.now c.args.event.now c.args.lists.now.items
    (leaves_pending c.args.event.now c.in_default.not-Open c.in_default.not-Write c.in_default.not-Commit c.in_default.not-Rollback) c.requires.lists
