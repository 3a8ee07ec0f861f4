use Rattle.std.proofs.Common.{◌≡◌, length, ◌++◌}
use Rattle.sql_grammar.specs.Statements.{all_keys}
use Rattle.sql_parser.proofs.table.all_keys.Given as goal

abbrev pub invariant-loop-elements : goal.invariant-loop-elements
invariant-loop-elements l = l.keys ++ all_keys l.elements ≡ all_keys l.initial.elements

abbrev pub decreases-loop-elements : goal.decreases-loop-elements
decreases-loop-elements l = length l.elements
