use Rattle.std.proofs.Common.{◌≡◌, drop}
use Rattle.typing_rules.specs.Names.{column_from}
use Rattle.expr_typing.proofs.names.column_of.Given as goal

abbrev pub invariant-loop-i : goal.invariant-loop-i
invariant-loop-i l = column_from l.name l.entry l.i (drop l.i l.columns) ≡ column_from l.name l.entry 0 l.columns
