use Rattle.std.proofs.Common.{sym}
use Rattle.std.proofs.lemmas.Bool.{false≢true}
use Rattle.history_core.proofs.WholeRows.{field_absent}
use Rattle.history_core.proofs.whole.has_field.Goals as goal

pub returns-in-None : goal.returns-in-None
returns-in-None c = (
  λ h. absurd (false≢true h),
  λ field. absurd (field_absent c.args.cells.now c.args.table c.args.key.now c.args.of_key c.args.column c.if-column-of_key.false c.in-None.ensures.absent field),
)
