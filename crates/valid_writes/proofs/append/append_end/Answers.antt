use Rattle.std.proofs.Common.{ap, refl}
use Rattle.history_core.specs.Chronicle.{Chronicle}
use Rattle.valid_writes.proofs.Legality.{legal_with, end_offered, end_no_definition, fits_end}
use Rattle.valid_writes.proofs.Keeping.{store_still, end_forces_none, end_opens_none}
use Rattle.valid_writes.proofs.append.append_end.Goals as goal

pub returns-clause-kept : goal.returns-clause-kept
returns-clause-kept c =
    store_still c.args.store.now (record { alloc = c.args.store.now.alloc; history = c.end.new.self; rows = c.args.store.now.rows; sessions = c.args.store.now.sessions }) c.args.event c.requires.kept
    c.requires.follows (end_forces_none c.args.event c.requires.end) (end_opens_none c.args.event c.requires.end)
    (ap (λ (h : Chronicle). h.events) c.end.ensures) refl refl
    (rw c.end.ensures (legal_with c.args.store.now.history c.args.event c.requires.kept.legal c.requires.follows
    (fits_end c.args.store.now.history.initial c.args.store.now.history.events c.args.event c.requires.end) (end_offered c.args.store.now.history.events c.args.event c.requires.end)
    (end_no_definition c.args.event c.requires.end)))
