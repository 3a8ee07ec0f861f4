use Rattle.history_check.proofs.KeyLists.{KeepsPart}
use Rattle.history_check.proofs.table_keys.note_keys.Given as goal

abbrev pub invariant-loop-entry : goal.invariant-loop-entry
invariant-loop-entry l = KeepsPart l.fn.keys l.cells l.entry-index l.keys
