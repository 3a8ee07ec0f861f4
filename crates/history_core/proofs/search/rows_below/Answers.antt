use Rattle.std.proofs.Common.{sym, ◌∙◌, arith}
use Rattle.std.proofs.lemmas.Option.{slice_get-get_or}
use Rattle.history_core.proofs.Searches.{cutting_above, cutting_below, cut_is}
use Rattle.history_core.proofs.search.rows_below.Goals as goal

pub loop-low-preserved-then-is_below : goal.loop-low-preserved-then-is_below
loop-low-preserved-then-is_below c =
    let within = c.loop-low.invariant.within in
    cutting_above _ _ _ _ _ _ c.requires c.loop-low.invariant (omega arith)
    (slice_get-get_or c.args.cells.now _ c.index-cells-middle.result (omega arith)) (sym c.is_below.ensures ∙ c.if-is_below.true)

pub loop-low-preserved : goal.loop-low-preserved
loop-low-preserved c =
    let within = c.loop-low.invariant.within in
    cutting_below _ _ _ _ _ _ c.requires c.loop-low.invariant (omega arith) (omega arith)
    (slice_get-get_or c.args.cells.now _ c.index-cells-middle.result (omega arith)) (sym c.is_below.ensures ∙ c.if-is_below.false)
