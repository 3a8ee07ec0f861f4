use Rattle.std.proofs.Common.{refl}
use Rattle.history_check.proofs.SessionNoteLemmas.{session_notes_plain, session_notes_open, session_notes_begin, session_notes_close, session_notes_commit, session_notes_rollback, plain_look, plain_define, plain_show, plain_scan, plain_read, plain_own, plain_write, open_within, pending_within}
use Rattle.history_check.proofs.session_notes.note_session.Goals as goal

pub close_session-requires-clause-some : goal.close_session-requires-clause-some
close_session-requires-clause-some c =
    (open_within c.args.before.now c.args.session_notes.now.items c.in-Close.session c.requires.sessions c.requires.session_notes (rw c.in-Close.is at c.requires.shape).0).0

pub close_session-requires-clause-opened : goal.close_session-requires-clause-opened
close_session-requires-clause-opened c =
    (open_within c.args.before.now c.args.session_notes.now.items c.in-Close.session c.requires.sessions c.requires.session_notes (rw c.in-Close.is at c.requires.shape).0).1

pub set_pending-requires-clause-some : goal.set_pending-requires-clause-some
set_pending-requires-clause-some c =
    (open_within c.args.before.now c.args.session_notes.now.items c.in-Begin.session c.requires.sessions c.requires.session_notes (rw c.in-Begin.is at c.requires.shape).0).0

pub set_pending-requires-clause-opened : goal.set_pending-requires-clause-opened
set_pending-requires-clause-opened c =
    (open_within c.args.before.now c.args.session_notes.now.items c.in-Begin.session c.requires.sessions c.requires.session_notes (rw c.in-Begin.is at c.requires.shape).0).1

pub set_pending-requires-in-Commit-clause-some : goal.set_pending-requires-in-Commit-clause-some
set_pending-requires-in-Commit-clause-some c =
    (pending_within c.args.before.now c.args.session_notes.now.items c.in-Commit.session c.requires.sessions c.requires.session_notes (rw c.in-Commit.is at c.requires.shape)).0

pub set_pending-requires-in-Commit-clause-opened : goal.set_pending-requires-in-Commit-clause-opened
set_pending-requires-in-Commit-clause-opened c =
    (pending_within c.args.before.now c.args.session_notes.now.items c.in-Commit.session c.requires.sessions c.requires.session_notes (rw c.in-Commit.is at c.requires.shape)).1

pub set_pending-requires-in-Rollback-clause-some : goal.set_pending-requires-in-Rollback-clause-some
set_pending-requires-in-Rollback-clause-some c =
    (pending_within c.args.before.now c.args.session_notes.now.items c.in-Rollback.session c.requires.sessions c.requires.session_notes (rw c.in-Rollback.is at c.requires.shape)).0

pub set_pending-requires-in-Rollback-clause-opened : goal.set_pending-requires-in-Rollback-clause-opened
set_pending-requires-in-Rollback-clause-opened c =
    (pending_within c.args.before.now c.args.session_notes.now.items c.in-Rollback.session c.requires.sessions c.requires.session_notes (rw c.in-Rollback.is at c.requires.shape)).1

pub returns-in_ok-push-in-Open : goal.returns-in_ok-push-in-Open
returns-in_ok-push-in-Open c =
    rw c.in-Open.is (rw c.in_ok-push-in-Open.ensures.items (session_notes_open c.args.before.now c.in-Open.session c.args.session_notes.now.items _ c.requires.sessions (rw c.in-Open.is at c.requires.shape) refl refl c.requires.session_notes))

pub returns-in-Close : goal.returns-in-Close
returns-in-Close c =
    rw c.in-Close.is (session_notes_close c.args.before.now c.in-Close.session c.args.session_notes.now.items _ c.close_session.ensures c.requires.session_notes)

pub returns-in-Begin : goal.returns-in-Begin
returns-in-Begin c =
    rw c.in-Begin.is (session_notes_begin c.args.before.now c.in-Begin.session c.in-Begin.level c.args.session_notes.now.items _ (rw c.in-Begin.is at c.requires.shape).1 (rw c.requires.started at c.set_pending.ensures) c.requires.session_notes)

pub returns-in-Commit : goal.returns-in-Commit
returns-in-Commit c =
    rw c.in-Commit.is (session_notes_commit c.args.before.now c.in-Commit.session c.args.session_notes.now.items _ c.set_pending-in-Commit.ensures c.requires.session_notes)

pub returns-in-Rollback : goal.returns-in-Rollback
returns-in-Rollback c =
    rw c.in-Rollback.is (session_notes_rollback c.args.before.now c.in-Rollback.session c.args.session_notes.now.items _ c.set_pending-in-Rollback.ensures c.requires.session_notes)

pub returns-in-Define : goal.returns-in-Define
returns-in-Define c =
    rw c.in-Define.is (session_notes_plain c.args.before.now _ c.args.session_notes.now.items (plain_define c.in-Define.session c.in-Define.name) c.requires.session_notes)

pub returns-in-Look : goal.returns-in-Look
returns-in-Look c =
    rw c.in-Look.is (session_notes_plain c.args.before.now _ c.args.session_notes.now.items (plain_look c.in-Look.session c.in-Look.tables) c.requires.session_notes)

pub returns-in-Show : goal.returns-in-Show
returns-in-Show c =
    rw c.in-Show.is (session_notes_plain c.args.before.now _ c.args.session_notes.now.items (plain_show c.in-Show.session c.in-Show.number) c.requires.session_notes)

pub returns-in-Scan : goal.returns-in-Scan
returns-in-Scan c =
    rw c.in-Scan.is (session_notes_plain c.args.before.now _ c.args.session_notes.now.items (plain_scan c.in-Scan.session c.in-Scan.table c.in-Scan.keys) c.requires.session_notes)

pub returns-in-Read : goal.returns-in-Read
returns-in-Read c =
    rw c.in-Read.is (session_notes_plain c.args.before.now _ c.args.session_notes.now.items (plain_read c.in-Read.session c.in-Read.cell c.in-Read.source c.in-Read.count c.in-Read.word c.in-Read.value) c.requires.session_notes)

pub returns-in-Own : goal.returns-in-Own
returns-in-Own c =
    rw c.in-Own.is (session_notes_plain c.args.before.now _ c.args.session_notes.now.items (plain_own c.in-Own.session c.in-Own.cell c.in-Own.value) c.requires.session_notes)

pub returns-in-Write : goal.returns-in-Write
returns-in-Write c =
    rw c.in-Write.is (session_notes_plain c.args.before.now _ c.args.session_notes.now.items (plain_write c.in-Write.session c.in-Write.cell c.in-Write.value) c.requires.session_notes)
