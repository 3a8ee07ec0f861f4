use Rattle.std.proofs.Common.{◌≡◌, length, ◌++◌}
use Rattle.sql_grammar.specs.Statements.{all_columns}
use Rattle.sql_parser.proofs.table.all_columns.Given as goal

abbrev pub invariant-loop-elements : goal.invariant-loop-elements
invariant-loop-elements l = l.columns ++ all_columns l.elements ≡ all_columns l.initial.elements

abbrev pub decreases-loop-elements : goal.decreases-loop-elements
decreases-loop-elements l = length l.elements
