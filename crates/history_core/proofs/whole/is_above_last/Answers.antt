use Rattle.std.proofs.Common.{arith}
use Rattle.std.proofs.lemmas.Option.{slice_get-get_or}
use Rattle.history_core.proofs.WholeRows.{above_last}
use Rattle.history_core.proofs.whole.is_above_last.Goals as goal

pub returns : goal.returns
returns c =
    let above = above_last c.args.cells.now _ c.args.at _ _ (omega arith)
    (slice_get-get_or c.args.cells.now _ c.index-cells-at.result (omega arith))
    (slice_get-get_or c.args.cells.now _ c.index-cells-at-2.result (omega arith)) in
    (λ yes. above.0 (c.is_below.ensures.0 yes), λ is. c.is_below.ensures.1 (above.1 is))
