use Rattle.history_check.proofs.ScanLemmas.{IsScanPart}
use Rattle.history_check.proofs.keys.lists_all.Given as goal

abbrev pub invariant-loop-key : goal.invariant-loop-key
invariant-loop-key l = IsScanPart l.initial' l.before l.session l.table l.keys l.among l.key-iterator
