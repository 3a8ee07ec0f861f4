use Rattle.std.proofs.Common.{sym, ◌∙◌, arith}
use Rattle.std.proofs.lemmas.Option.{slice_get-get_or}
use Rattle.history_core.proofs.Searches.{sought_above, sought_below, sought_nowhere, stands}
use Rattle.history_core.proofs.search.place_of.Goals as goal

pub loop-low-preserved-in-Less : goal.loop-low-preserved-in-Less
loop-low-preserved-in-Less c =
    let within = c.loop-low.invariant.within in
    sought_above _ _ _ _ _ _ c.requires c.loop-low.invariant (omega arith)
    (slice_get-get_or c.args.cells.now _ c.index-cells-middle.result (omega arith)) (sym c.order.ensures ∙ c.in-Less.is)

pub returns-in-Equal-clause-found : goal.returns-in-Equal-clause-found
returns-in-Equal-clause-found c =
    let within = c.loop-low.invariant.within in
    stands _ _ _ _ (slice_get-get_or c.args.cells.now _ c.index-cells-middle.result (omega arith)) (sym c.order.ensures ∙ c.in-Equal.is)

pub loop-low-preserved : goal.loop-low-preserved
loop-low-preserved c =
    let within = c.loop-low.invariant.within in
    sought_below _ _ _ _ _ _ c.requires c.loop-low.invariant (omega arith) (omega arith)
    (slice_get-get_or c.args.cells.now _ c.index-cells-middle.result (omega arith)) (sym c.order.ensures ∙ c.in-Greater.is)

pub returns-clause-absent : goal.returns-clause-absent
returns-clause-absent c = sought_nowhere _ _ _ _ c.loop-low.invariant (omega arith)
