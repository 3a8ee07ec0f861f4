use Rattle.std.proofs.Common.{◌≡◌, drop}
use Rattle.typing_rules.specs.Building.{key_from}
use Rattle.table_schema.proofs.keys.place_of.Given as goal

abbrev pub invariant-loop-i : goal.invariant-loop-i
invariant-loop-i l = key_from l.name l.i (drop l.i l.columns) ≡ key_from l.name 0 l.columns
