-- The number is among the columns that are left, or none.
use Rattle.std.proofs.Common.{◌≡◌, drop}
use Rattle.typing_rules.specs.Tables.{is_among}
use Rattle.change_typing.specs.Targets.{targets}
use Rattle.change_typing.proofs.targets.is_among.Given as goal

abbrev pub invariant-loop-column : goal.invariant-loop-column
invariant-loop-column l = is_among l.number (targets (drop l.column-index l.columns)) ≡ is_among l.number (targets l.columns)
