use Rattle.std.proofs.Common.{◌≡◌, length, ◌++◌}
use Rattle.sql_grammar.specs.Statements.{checks_of}
use Rattle.sql_parser.proofs.table.add_checks.Given as goal

abbrev pub invariant-loop-constraints : goal.invariant-loop-constraints
invariant-loop-constraints l = l.checks ++ checks_of l.constraints ≡ l.fn.checks ++ checks_of l.initial.constraints

abbrev pub decreases-loop-constraints : goal.decreases-loop-constraints
decreases-loop-constraints l = length l.constraints
