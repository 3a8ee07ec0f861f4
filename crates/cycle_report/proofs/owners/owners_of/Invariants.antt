use Rattle.std.proofs.Common.{take}
use Rattle.cycle_report.specs.Owned.{AreOwnedBy}
use Rattle.cycle_report.proofs.owners.owners_of.Given as goal

abbrev pub invariant-loop-at : goal.invariant-loop-at
invariant-loop-at l = AreOwnedBy (take l.at l.events) l.owners
