use Rattle.std.proofs.Common.{◌≡◌, length, None}
use Rattle.std.specs.Option.{option_copied}
use Rattle.sql_grammar.specs.Statements.{default}
use Rattle.sql_parser.proofs.defaults.last.Given as goal

abbrev pub invariant-loop-constraints : goal.invariant-loop-constraints
invariant-loop-constraints l = default (option_copied l.last) l.constraints ≡ default None l.initial.constraints

abbrev pub decreases-loop-constraints : goal.decreases-loop-constraints
decreases-loop-constraints l = length l.constraints
