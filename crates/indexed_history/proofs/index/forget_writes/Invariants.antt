use Rattle.indexed_history.proofs.Forgotten.{ForgetsPart}
use Rattle.indexed_history.proofs.index.forget_writes.Given as goal

abbrev pub invariant-loop-entry : goal.invariant-loop-entry
invariant-loop-entry l = ForgetsPart l.fn.index l.writes l.entry-index l.number l.index
