use Rattle.std.proofs.Common.{◌≡◌, ◌<◌, take}
use Rattle.history_core.specs.Initial.{initial_load}
use Rattle.history_core.proofs.whole.small_load.Given as goal

abbrev pub invariant-loop-cell : goal.invariant-loop-cell
invariant-loop-cell l = (l.load ≡ initial_load (take l.cell-index l.cells)) × (l.load < 1048576)
