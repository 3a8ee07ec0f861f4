use Rattle.forced_rows.proofs.LateScans.{AreLateBelow}
use Rattle.forced_rows.proofs.rows.ForcedRows.late_to_scan.Given as goal

abbrev pub invariant-loop-number : goal.invariant-loop-number
invariant-loop-number l = AreLateBelow l.history.events l.reader l.source l.table l.keys l.number l.numbers.items
