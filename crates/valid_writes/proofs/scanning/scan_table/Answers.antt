use Rattle.std.proofs.Common.{refl}
use Rattle.valid_writes.proofs.Standing.{desk_plain, quiet_scan}
use Rattle.valid_writes.proofs.scanning.scan_table.Goals as goal

pub returns-in-Ok-append-clause-kept : goal.returns-in-Ok-append-clause-kept
returns-in-Ok-append-clause-kept c =
    desk_plain c.args.desk.now (record { store = c.append.new.store; given = c.args.desk.now.given; from = c.args.desk.now.from; session = c.args.desk.now.session; stage = c.args.desk.now.stage }) _ (quiet_scan c.args.desk.now.session c.args.table c.in-Ok.keys).plain c.requires.kept c.append.ensures.kept
    (record { history = c.in-Ok-append.ensures.ok; given = refl; from = refl; session = refl; stands = refl })
