use Rattle.std.proofs.Common.{◌≡◌, ◌-◌, Some, None, arith}
use Rattle.history_core.proofs.Numbers.{opened_bounds, pending_opened, session_read}
use Rattle.history_core.proofs.kept.pending_of.Goals as goal

pub returns-then-session-eq0 : goal.returns-then-session-eq0
returns-then-session-eq0 c = λ number. (
  λ h. let both : None ≡ Some number = h in cc,
  λ pending.
      let h = opened_bounds c.args.kept.now.initial c.args.kept.now.events.items c.requires.formed.formed c.args.session
      (pending_opened c.args.kept.now.initial c.args.kept.now.events.items c.requires.formed.formed number c.args.session pending) in absurd (omega arith),
)

pub returns-then-session-count_opened : goal.returns-then-session-count_opened
returns-then-session-count_opened c = λ number. (
  λ h. let both : None ≡ Some number = h in cc,
  λ pending.
      let h = opened_bounds c.args.kept.now.initial c.args.kept.now.events.items c.requires.formed.formed c.args.session
      (pending_opened c.args.kept.now.initial c.args.kept.now.events.items c.requires.formed.formed number c.args.session pending) in absurd (omega arith),
)

pub returns : goal.returns
returns c =
    let count = c.requires.sessions.count in
    let r = session_read _ _ c.requires.sessions (c.args.session - 1) c.args.session c.index.result.now (omega arith) (omega arith) c.index.ensures in
    λ number. r.pending number
