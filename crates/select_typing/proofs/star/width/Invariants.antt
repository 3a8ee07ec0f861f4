-- So many columns so far, where so many are left.
use Rattle.std.proofs.Common.{drop}
use Rattle.expr_typing.specs.Scope.{sources}
use Rattle.select_typing.proofs.Stars.{IsCounted, star_width}
use Rattle.select_typing.proofs.star.width.Given as goal

abbrev pub invariant-loop-entry : goal.invariant-loop-entry
invariant-loop-entry l = IsCounted l.width (star_width (sources (drop l.entry-index l.scope))) (star_width (sources l.scope))
