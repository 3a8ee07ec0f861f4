use Rattle.std.proofs.Common.{true, sym, ◌∙◌, arith, refl}
use Rattle.std.proofs.lemmas.Bool.{false≢true}
use Rattle.std.proofs.lemmas.Option.{slice_get-get_or}
use Rattle.cell_base.specs.declared.value.Value.TheVariants.{Flag}
use Rattle.history_core.proofs.Searches.{sought_above, sought_below, sought_nowhere, stands}
use Rattle.history_log.proofs.RowLemmas.{there_from}
use Rattle.history_log.proofs.rows.has_row.Goals as goal

pub loop-low-preserved-in-Less : goal.loop-low-preserved-in-Less
loop-low-preserved-in-Less c =
    let within = c.loop-low.invariant.within in
    sought_above _ _ _ _ _ _ c.requires.ascending c.loop-low.invariant (omega arith)
    (slice_get-get_or c.args.cells.now _ c.index-cells-middle.result (omega arith)) (sym c.order.ensures ∙ c.in-Less.is)

pub returns-in-Equal : goal.returns-in-Equal
returns-in-Equal c =
    let within = c.loop-low.invariant.within in
    (λ yes. there_from _ c.requires _ _ _ (stands _ _ _ _ (slice_get-get_or c.args.cells.now _ c.index-cells-middle.result (omega arith)) (sym c.order.ensures ∙ c.in-Equal.is)), λ there. refl)

pub loop-low-preserved : goal.loop-low-preserved
loop-low-preserved c =
    let within = c.loop-low.invariant.within in
    sought_below _ _ _ _ _ _ c.requires.ascending c.loop-low.invariant (omega arith) (omega arith)
    (slice_get-get_or c.args.cells.now _ c.index-cells-middle.result (omega arith)) (sym c.order.ensures ∙ c.in-Greater.is)

pub returns : goal.returns
returns c = (λ h. absurd (false≢true h), λ there. absurd (sought_nowhere _ _ _ _ c.loop-low.invariant (omega arith) (Flag true) there))
