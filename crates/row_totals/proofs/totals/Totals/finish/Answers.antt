use Rattle.std.proofs.Common.{subst}
use Rattle.typing_rules.specs.Gives.{Gives}
use Rattle.row_totals.proofs.Rows.{finish_is}
use Rattle.row_totals.proofs.totals.Totals.finish.Goals as goal

pub returns : goal.returns
returns c rows s = subst (λ o. Gives o c.values_of.result) (finish_is c.args.exprs.now rows c.args.self s) c.values_of.ensures
