use Rattle.std.proofs.Common.{◌-◌}
use Rattle.history_core.proofs.Searches.{IsCutting}
use Rattle.history_core.proofs.search.rows_below.Given as goal

abbrev pub invariant-loop-low : goal.invariant-loop-low
invariant-loop-low l = IsCutting l.cells l.bound l.low l.high

abbrev pub decreases-loop-low : goal.decreases-loop-low
decreases-loop-low l = l.high - l.low
