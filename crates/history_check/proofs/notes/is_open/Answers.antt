use Rattle.std.proofs.Common.{arith}
use Rattle.std.proofs.lemmas.Bool.{false≢true}
use Rattle.history_check.proofs.Rights.{open_bounds}
use Rattle.history_check.proofs.SessionNoteLemmas.{not_open_beyond, session_note_read}
use Rattle.history_check.proofs.notes.is_open.Goals as goal

pub returns-then-session-eq0 : goal.returns-then-session-eq0
returns-then-session-eq0 c = (
  λ h. absurd (false≢true h),
  λ is. let b = (open_bounds c.args.before.now c.args.session c.requires.sessions is.0).0 in absurd (omega arith),
)

pub returns-then-session-len : goal.returns-then-session-len
returns-then-session-len c = (
  λ h. absurd (false≢true h),
  λ is. absurd (not_open_beyond c.args.before.now c.args.notes.now.session_notes.items c.args.session c.requires.sessions c.requires.session_notes (omega arith) is),
)

pub returns : goal.returns
returns c =
    let r = session_note_read c.args.before.now c.args.notes.now.session_notes.items c.requires.session_notes _ c.args.session c.index.result.now (omega arith) (omega arith) c.index.ensures in
    r.open_is
