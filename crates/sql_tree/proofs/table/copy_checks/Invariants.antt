use Rattle.std.proofs.Common.{◌≡◌, take}
use Rattle.sql_tree.proofs.table.copy_checks.Given as goal

abbrev pub invariant-loop-check : goal.invariant-loop-check
invariant-loop-check l = l.copies ≡ take l.check-index l.check-items
