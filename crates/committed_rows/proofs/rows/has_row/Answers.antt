use Rattle.std.proofs.Common.{◌+◌, ◌-◌, ◌/◌, refl, sym, ◌∙◌, arith}
use Rattle.std.proofs.lemmas.Bool.{false≢true}
use Rattle.std.proofs.lemmas.Option.{slice_get-get_or}
use Rattle.history_core.proofs.Searches.{sought_above, sought_below, sought_nowhere}
use Rattle.committed_rows.proofs.Gathered.{row_found}
use Rattle.committed_rows.proofs.rows.has_row.Goals as goal

pub loop-low-preserved-in-Less : goal.loop-low-preserved-in-Less
loop-low-preserved-in-Less c =
    let within = c.loop-low.invariant.within in
    sought_above _ _ _ _ _ _ c.requires c.loop-low.invariant (omega arith)
    (slice_get-get_or c.args.cells.now _ c.index-cells-middle.result (omega arith)) (sym c.order.ensures ∙ c.in-Less.is)

pub returns-in-Equal : goal.returns-in-Equal
returns-in-Equal c =
    let within = c.loop-low.invariant.within in
    let middle = c.loop-low.low + (c.loop-low.high - c.loop-low.low) / 2 in (
      λ holds. row_found c.args.cells.now c.args.table c.args.key.now middle _
          (slice_get-get_or c.args.cells.now middle c.index-cells-middle.result (omega arith)) (sym c.order.ensures ∙ c.in-Equal.is),
      λ there. refl,
    )

pub loop-low-preserved : goal.loop-low-preserved
loop-low-preserved c =
    let within = c.loop-low.invariant.within in
    sought_below _ _ _ _ _ _ c.requires c.loop-low.invariant (omega arith) (omega arith)
    (slice_get-get_or c.args.cells.now _ c.index-cells-middle.result (omega arith)) (sym c.order.ensures ∙ c.in-Greater.is)

pub returns : goal.returns
returns c = (
  λ no. absurd (false≢true no),
  λ there. absurd (sought_nowhere _ _ _ _ c.loop-low.invariant (omega arith) there.0 there.1),
)
