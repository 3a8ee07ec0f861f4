use Rattle.std.proofs.Common.{subst}
use Rattle.history_core.specs.Chronicle.{Chronicle}
use Rattle.forced_rows.specs.Sights.{AreRivals}
use Rattle.forced_rows.proofs.rows.ForcedRows.rivals.Goals as goal

pub returns : goal.returns
returns c =
    subst (λ (h : Chronicle). AreRivals c.args.sight h.events c.args.reader c.args.cell.now c.args.except c.in_ok-numbers.numbers.items)
    c.history-own.ensures c.in_ok-numbers.ensures
