-- The column is found among those that are left.
use Rattle.std.proofs.Common.{◌≡◌, drop}
use Rattle.typing_rules.specs.Tables.{target_from}
use Rattle.typing_parts.proofs.tables.column_named.Given as goal

abbrev pub invariant-loop-i : goal.invariant-loop-i
invariant-loop-i l = target_from l.name l.i (drop l.i l.columns) ≡ target_from l.name 0 l.columns
