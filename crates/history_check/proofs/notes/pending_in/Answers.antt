use Rattle.std.proofs.Common.{◌≡◌, Some, None, arith}
use Rattle.history_check.proofs.Rights.{pending_bounds}
use Rattle.history_check.proofs.SessionNoteLemmas.{not_pending_beyond, session_note_read}
use Rattle.history_check.proofs.notes.pending_in.Goals as goal

pub returns-then-session-eq0 : goal.returns-then-session-eq0
returns-then-session-eq0 c = λ txn. (
  λ h. let both : None ≡ Some txn = h in cc,
  λ is. let b = (pending_bounds c.args.before.now txn c.args.session c.requires.sessions is).0 in absurd (omega arith),
)

pub returns-then-session-len : goal.returns-then-session-len
returns-then-session-len c = λ txn. (
  λ h. let both : None ≡ Some txn = h in cc,
  λ is. absurd (not_pending_beyond c.args.before.now c.args.notes.now.session_notes.items txn c.args.session c.requires.sessions c.requires.session_notes (omega arith) is),
)

pub returns : goal.returns
returns c =
    let r = session_note_read c.args.before.now c.args.notes.now.session_notes.items c.requires.session_notes _ c.args.session c.index.result.now (omega arith) (omega arith) c.index.ensures in
    r.pending
