use Rattle.forced_rows.specs.Stars.{GainsEdges, IsDemandOfFirst}
use Rattle.forced_rows.proofs.rows.ForcedRows.add_all_late.Given as goal

abbrev pub invariant-loop-seen : goal.invariant-loop-seen
invariant-loop-seen l = GainsEdges (IsDemandOfFirst l.history.events l.reader l.source l.all l.seen-index) l.fn.stars.items l.stars.items
