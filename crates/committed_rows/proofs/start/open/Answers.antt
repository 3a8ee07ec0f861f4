use Rattle.committed_rows.proofs.Steps.{opens, open_has_room}
use Rattle.valid_writes.proofs.Legality.{fault_is}
use Rattle.committed_rows.proofs.start.open.Goals as goal

pub returns-clause-ok : goal.returns-clause-ok
returns-clause-ok c =
    opens c.args.seat.now c.open.new.self c.open.result c.requires c.open.ensures.stays c.open.ensures.ok c.open.ensures.state c.open.ensures.legal
    c.in_ok-open.field-0 c.in_ok-open.was

pub returns-in_err-open-clause-room : goal.returns-in_err-open-clause-room
returns-in_err-open-clause-room c = λ limit same.
    open_has_room c.args.seat.now c.open.new.self limit c.requires c.open.ensures.stays c.in_err-open.ensures.err
    (c.open.ensures.full limit (fault_is c.open.result c.from_residual.result c.in_err-open.field-0.0 limit c.in_err-open.was c.from_residual.ensures.1 same))
