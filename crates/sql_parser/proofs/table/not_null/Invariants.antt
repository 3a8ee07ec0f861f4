use Rattle.std.proofs.Common.{◌≡◌, length, false}
use Rattle.sql_grammar.specs.Statements.{not_null}
use Rattle.sql_parser.proofs.table.not_null.Given as goal

abbrev pub invariant-loop-constraints : goal.invariant-loop-constraints
invariant-loop-constraints l = not_null l.last l.constraints ≡ not_null false l.initial.constraints

abbrev pub decreases-loop-constraints : goal.decreases-loop-constraints
decreases-loop-constraints l = length l.constraints
