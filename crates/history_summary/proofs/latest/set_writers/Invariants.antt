use Rattle.std.proofs.Common.{take}
use Rattle.history_summary.specs.Walk.{SetsWriters}
use Rattle.history_summary.proofs.latest.set_writers.Given as goal

abbrev pub invariant-loop-entry : goal.invariant-loop-entry
invariant-loop-entry l = SetsWriters l.fn.latest (take l.entry-index l.writes) l.number l.latest
