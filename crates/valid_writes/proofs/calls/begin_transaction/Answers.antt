use Rattle.std.proofs.Common.{refl}
use Rattle.valid_writes.specs.declared.desk.Stage.TheVariants.{InSession, Pending}
use Rattle.valid_writes.proofs.Standing.{desk_begins, at_stage}
use Rattle.valid_writes.proofs.calls.begin_transaction.Goals as goal

pub returns-clause-kept : goal.returns-clause-kept
returns-clause-kept c =
    desk_begins c.args.desk.now (record { store = c.append_begin.new.store; given = c.args.desk.now.given; from = c.args.desk.now.from; session = c.args.desk.now.session; stage = Pending }) c.args.level c.requires.idle c.requires.kept c.append_begin.ensures.kept
    (record { history = c.in_ok-append_begin.ensures.ok; given = refl; from = refl; session = refl; stands = refl })

pub append_begin-requires-clause-follows : goal.append_begin-requires-clause-follows
append_begin-requires-clause-follows c = (at_stage c.args.desk.now.store.history c.args.desk.now.session c.args.desk.now.stage InSession c.requires.idle c.requires.kept.served).stands
