use Rattle.std.proofs.Common.{ℕ, ◌<◌}
use Rattle.history_core.specs.Judged.{HasField}
use Rattle.history_core.proofs.whole.has_fields.Given as goal

abbrev pub invariant-loop-column : goal.invariant-loop-column
invariant-loop-column l = (k : ℕ) → k < l.column → HasField l.cells l.table l.key l.of_table.key k
