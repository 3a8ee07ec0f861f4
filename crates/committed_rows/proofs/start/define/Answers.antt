use Rattle.committed_rows.proofs.Steps.{defines, define_full}
use Rattle.valid_writes.proofs.Legality.{fault_is}
use Rattle.committed_rows.proofs.start.define.Goals as goal

pub returns-clause-ok : goal.returns-clause-ok
returns-clause-ok c =
    defines c.args.seat.now c.define.new.self c.args.table.now c.define.result c.in_ok-define.field-0 c.in_ok-define.was c.requires.defined c.requires.may
    c.define.ensures.stays c.define.ensures.ok c.define.ensures.state c.define.ensures.legal

pub returns-in_err-define-clause-full : goal.returns-in_err-define-clause-full
returns-in_err-define-clause-full c = λ limit same.
    define_full c.args.seat.now c.define.new.self c.args.table.now limit c.requires.defined c.requires.may c.define.ensures.stays c.in_err-define.ensures.err
    (c.define.ensures.full limit (fault_is c.define.result c.from_residual.result c.in_err-define.field-0.0 limit c.in_err-define.was c.from_residual.ensures.1 same))
