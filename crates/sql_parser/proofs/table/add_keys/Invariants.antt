use Rattle.std.proofs.Common.{◌≡◌, ◌++◌, length}
use Rattle.sql_parser.proofs.table.add_keys.Given as goal

abbrev pub invariant-loop-names : goal.invariant-loop-names
invariant-loop-names l = l.keys ++ l.names ≡ l.fn.keys ++ l.initial.names

abbrev pub decreases-loop-names : goal.decreases-loop-names
decreases-loop-names l = length l.names
