-- The table is found among those that are left.
use Rattle.std.proofs.Common.{◌≡◌, drop}
use Rattle.typing_rules.specs.Tables.{table_from}
use Rattle.typing_parts.proofs.tables.table_named.Given as goal

abbrev pub invariant-loop-i : goal.invariant-loop-i
invariant-loop-i l = table_from l.name l.i (drop l.i l.tables) ≡ table_from l.name 0 l.tables
