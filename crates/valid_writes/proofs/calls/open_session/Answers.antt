use Rattle.std.proofs.Common.{refl}
use Rattle.valid_writes.specs.declared.desk.Stage.TheVariants.{InSession}
use Rattle.valid_writes.proofs.Standing.{desk_opens}
use Rattle.valid_writes.proofs.calls.open_session.Goals as goal

pub returns-clause-kept : goal.returns-clause-kept
returns-clause-kept c =
    desk_opens c.args.desk.now (record { store = c.append_open.new.store; given = c.args.desk.now.given; from = c.args.desk.now.from; session = c.in_ok-session.session; stage = InSession }) c.in_ok-session.session c.in_ok-session.ensures.number c.requires c.append_open.ensures.kept
    (record { history = c.in_ok-session.ensures.ok; given = refl; from = refl; session = refl; stands = refl })
