use Rattle.std.proofs.Common.{◌-◌}
use Rattle.cell_base.specs.declared.cell.Cell.TheVariants.{Presence}
use Rattle.history_core.proofs.Searches.{IsSought}
use Rattle.history_log.proofs.rows.has_row.Given as goal

abbrev pub invariant-loop-low : goal.invariant-loop-low
invariant-loop-low l = IsSought l.cells (Presence l.table l.key) l.low l.high

abbrev pub decreases-loop-low : goal.decreases-loop-low
decreases-loop-low l = l.high - l.low
