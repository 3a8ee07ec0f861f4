use Rattle.forced_rows.specs.Sights.{AreCounted}
use Rattle.forced_rows.proofs.rows.ForcedRows.counted.Given as goal

abbrev pub invariant-loop-number : goal.invariant-loop-number
invariant-loop-number l = AreCounted l.sight l.history.events l.reader l.except l.writers l.number-index l.numbers.items
