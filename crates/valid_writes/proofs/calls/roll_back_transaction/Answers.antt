use Rattle.std.proofs.Common.{refl}
use Rattle.history_core.specs.declared.event.Event.TheVariants.{Rollback}
use Rattle.valid_writes.specs.declared.desk.Stage.TheVariants.{InSession, Pending}
use Rattle.valid_writes.proofs.Standing.{desk_ends, at_stage}
use Rattle.valid_writes.proofs.calls.roll_back_transaction.Goals as goal

pub returns-clause-kept : goal.returns-clause-kept
returns-clause-kept c =
    desk_ends c.args.desk.now (record { store = c.append_end.new.store; given = c.args.desk.now.given; from = c.args.desk.now.from; session = c.args.desk.now.session; stage = InSession }) (Rollback c.args.desk.now.session) refl refl (λ s is. cc) (λ s is. cc) (λ s l is. cc)
    c.requires.pending c.requires.kept c.append_end.ensures.kept
    (record { history = c.append_end.ensures.adds; given = refl; from = refl; session = refl; stands = refl })

pub append_end-requires-clause-follows : goal.append_end-requires-clause-follows
append_end-requires-clause-follows c = (at_stage c.args.desk.now.store.history c.args.desk.now.session c.args.desk.now.stage Pending c.requires.pending c.requires.kept.served).stands.1
