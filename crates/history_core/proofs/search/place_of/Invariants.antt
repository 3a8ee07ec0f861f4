use Rattle.std.proofs.Common.{◌-◌}
use Rattle.history_core.specs.Judged.{cell_at}
use Rattle.history_core.proofs.Searches.{IsSought}
use Rattle.history_core.proofs.search.place_of.Given as goal

abbrev pub invariant-loop-low : goal.invariant-loop-low
invariant-loop-low l = IsSought l.cells (cell_at l.table l.key l.column) l.low l.high

abbrev pub decreases-loop-low : goal.decreases-loop-low
decreases-loop-low l = l.high - l.low
