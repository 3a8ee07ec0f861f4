-- One entry less.
use Rattle.std.proofs.Common.{length}
use Rattle.cell_compile.proofs.parts.+with_parts.Given as goal

abbrev pub decreases-with_parts : goal.decreases-with_parts
decreases-with_parts l = length l.numbers.now
