use Rattle.std.proofs.Common.{take}
use Rattle.history_core.specs.Kept.{StandsForTxns}
use Rattle.cycle_report.proofs.records.txns_of.Given as goal

abbrev pub invariant-loop-at : goal.invariant-loop-at
invariant-loop-at l = StandsForTxns (take l.at l.events) l.txns.items
