use Rattle.std.proofs.lemmas.Bool.{false≢true}
use Rattle.std.proofs.Common.{sym, ◌∙◌}
use Rattle.history_log.proofs.RowLemmas.{state_next, next_above, next_fits}
use Rattle.history_log.proofs.rows.fits_next.Goals as goal

pub returns-then-is_above : goal.returns-then-is_above
returns-then-is_above c = (
  λ yes. state_next c.args.initial.now (c.args.cell.now, c.args.value.now) c.requires (c.is_above.ensures.0 c.if-is_above.true) (c.may_stand.ensures.0 yes),
  λ state. c.may_stand.ensures.1 (next_fits c.args.initial.now (c.args.cell.now, c.args.value.now) state),
)

pub returns-else-is_above : goal.returns-else-is_above
returns-else-is_above c = (
  λ yes. absurd (false≢true (sym c.if-is_above.false ∙ yes)),
  λ state. c.is_above.ensures.1 (next_above c.args.initial.now (c.args.cell.now, c.args.value.now) state),
)
