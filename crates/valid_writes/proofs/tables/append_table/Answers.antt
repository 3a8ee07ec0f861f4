use Rattle.std.proofs.Common.{refl}
use Rattle.valid_writes.proofs.Standing.{desk_defines}
use Rattle.valid_writes.proofs.tables.append_table.Goals as goal

pub returns-in-Ok-append_define-clause-kept : goal.returns-in-Ok-append_define-clause-kept
returns-in-Ok-append_define-clause-kept c =
    desk_defines c.args.desk.now (record { store = c.append_define.new.store; given = c.args.desk.now.given; from = c.args.desk.now.from; session = c.args.desk.now.session; stage = c.args.desk.now.stage }) c.args.table.now c.requires.kept c.append_define.ensures.kept
    (record { history = rw (← c.in-Ok.ensures) c.in-Ok-append_define.ensures.ok; given = refl; from = refl; session = refl; stands = refl })
