use Rattle.std.proofs.Common.{◌≡◌, length, map}
use Rattle.std.specs.Option.{option_copied}
use Rattle.sql_grammar.specs.Syntax.{kind}
use Rattle.sql_grammar.specs.Steps.{any}
use Rattle.sql_refusal.specs.Tables.{pattern_of}
use Rattle.sql_refusal.proofs.pass.is_any.Given as goal

abbrev pub invariant-loop-patterns : goal.invariant-loop-patterns
invariant-loop-patterns l = any (map pattern_of l.patterns) (kind (option_copied l.next)) ≡ any (map pattern_of l.initial.patterns) (kind (option_copied l.next))

abbrev pub decreases-loop-patterns : goal.decreases-loop-patterns
decreases-loop-patterns l = length l.patterns
