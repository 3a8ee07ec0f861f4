use Rattle.std.proofs.Common.{refl}
use Rattle.valid_writes.proofs.Standing.{desk_plain, quiet_look}
use Rattle.valid_writes.proofs.tables.append_look.Goals as goal

pub returns-clause-kept : goal.returns-clause-kept
returns-clause-kept c =
    desk_plain c.args.desk.now (record { store = c.append.new.store; given = c.args.desk.now.given; from = c.args.desk.now.from; session = c.args.desk.now.session; stage = c.args.desk.now.stage }) _ (quiet_look c.args.desk.now.session _).plain c.requires.kept c.append.ensures.kept
    (record { history = c.in_ok-append.ensures.ok; given = refl; from = refl; session = refl; stands = refl })
