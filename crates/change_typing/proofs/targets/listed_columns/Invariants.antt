-- The names that are left, after the columns so far.
use Rattle.std.proofs.Common.{◌≡◌, [], drop}
use Rattle.typing_rules.specs.Insert.{listed_from}
use Rattle.change_typing.specs.Targets.{targets}
use Rattle.change_typing.proofs.targets.listed_columns.Given as goal

abbrev pub invariant-loop-name : goal.invariant-loop-name
invariant-loop-name l = listed_from l.columns (targets l.listed) (drop l.name-index l.names) ≡ listed_from l.columns [] l.names
