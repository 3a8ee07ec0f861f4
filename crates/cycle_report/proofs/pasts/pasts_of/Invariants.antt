use Rattle.std.proofs.Common.{take}
use Rattle.cycle_report.specs.Pasts.{AreRows}
use Rattle.cycle_report.proofs.pasts.pasts_of.Given as goal

abbrev pub invariant-loop-at : goal.invariant-loop-at
invariant-loop-at l = AreRows (take l.at l.events) l.width l.rows.items
