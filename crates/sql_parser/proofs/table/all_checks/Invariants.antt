use Rattle.std.proofs.Common.{◌≡◌, length, ◌++◌}
use Rattle.sql_grammar.specs.Statements.{all_checks}
use Rattle.sql_parser.proofs.table.all_checks.Given as goal

abbrev pub invariant-loop-elements : goal.invariant-loop-elements
invariant-loop-elements l = l.checks ++ all_checks l.elements ≡ all_checks l.initial.elements

abbrev pub decreases-loop-elements : goal.decreases-loop-elements
decreases-loop-elements l = length l.elements
