use Rattle.std.proofs.Common.{◌<◌, length}
use Rattle.cycle_report.specs.Rings.{IsLeastBelow}
use Rattle.cycle_report.proofs.rings.least_at.Given as goal

abbrev pub invariant-loop-at : goal.invariant-loop-at
invariant-loop-at l = IsLeastBelow l.cycle l.least l.at × (l.least < length l.cycle)
