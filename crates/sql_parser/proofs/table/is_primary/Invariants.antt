use Rattle.std.proofs.Common.{◌≡◌, length}
use Rattle.sql_grammar.specs.Statements.{is_primary}
use Rattle.sql_parser.proofs.table.is_primary.Given as goal

abbrev pub invariant-loop-constraints : goal.invariant-loop-constraints
invariant-loop-constraints l = is_primary l.constraints ≡ is_primary l.initial.constraints

abbrev pub decreases-loop-constraints : goal.decreases-loop-constraints
decreases-loop-constraints l = length l.constraints
