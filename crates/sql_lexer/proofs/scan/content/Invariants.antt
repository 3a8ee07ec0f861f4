use Rattle.std.proofs.Common.{◌≡◌, ◌++◌, length, false}
use Rattle.sql_lexer.specs.Scan.{content}
use Rattle.sql_lexer.proofs.scan.content.Given as goal

abbrev pub invariant-loop-z : goal.invariant-loop-z
invariant-loop-z l = l.found.items ++ content l.quote false l.z ≡ content l.quote false l.initial.z

abbrev pub decreases-loop-z : goal.decreases-loop-z
decreases-loop-z l = length l.z
