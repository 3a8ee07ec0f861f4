use Rattle.std.proofs.Common.{refl}
use Rattle.valid_writes.proofs.Standing.{desk_either}
use Rattle.valid_writes.proofs.Told.{on_ok, on_err}
use Rattle.valid_writes.proofs.calls.write_cell.Goals as goal

pub returns-clause-kept : goal.returns-clause-kept
returns-clause-kept c =
    desk_either c.args.desk.now (record { store = c.append_write.new.store; given = c.args.desk.now.given; from = c.args.desk.now.from; session = c.args.desk.now.session; stage = c.args.desk.now.stage }) c.args.cell c.args.value c.append_write.result c.requires.pending
    (on_ok _ _ c.append_write.result (λ is. record { history = is; given = refl; from = refl; session = refl; stands = c.requires.pending }) c.append_write.ensures.ok)
    (on_err _ _ c.append_write.result (λ leaves. record { history = leaves.history; given = refl; from = refl; session = refl; stands = refl }) c.append_write.ensures.err)
    c.append_write.ensures.kept c.requires.kept
