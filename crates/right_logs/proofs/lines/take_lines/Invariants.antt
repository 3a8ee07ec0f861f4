use Rattle.std.proofs.Common.{ℕ, List, [], length}
use Rattle.right_logs.specs.Passes.{StandsFor}
use Rattle.right_logs.specs.Endings.{AreTaken}
use Rattle.right_logs.proofs.lines.take_lines.Given as goal

abbrev pub invariant-loop-rest : goal.invariant-loop-rest
invariant-loop-rest l = (order : List ℕ) → StandsFor order l.places.at.items [] l.initial.pass → AreTaken l.version l.level order l.places.at.items l.text l.rest l.pass

abbrev pub decreases-loop-rest : goal.decreases-loop-rest
decreases-loop-rest l = length l.rest
