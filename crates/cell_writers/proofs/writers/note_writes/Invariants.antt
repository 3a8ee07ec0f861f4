use Rattle.cell_writers.proofs.Noted.{GainsPart}
use Rattle.cell_writers.proofs.writers.note_writes.Given as goal

abbrev pub invariant-loop-entry : goal.invariant-loop-entry
invariant-loop-entry l = GainsPart l.fn.writers l.writes l.entry-index l.number l.writers
