use Rattle.indexed_history.proofs.Scans.{IsScanPart}
use Rattle.indexed_history.proofs.scanning.listed_among.Given as goal

abbrev pub invariant-loop-key : goal.invariant-loop-key
invariant-loop-key l = IsScanPart l.parts.history.initial l.parts.history.events l.session l.table l.keys l.key-iterator l.listed
