use Rattle.std.proofs.Common.{take}
use Rattle.committed_rows.specs.Walk.{Fills}
use Rattle.committed_rows.proofs.newest.fill.Given as goal

abbrev pub invariant-loop-write : goal.invariant-loop-write
invariant-loop-write l = Fills l.fn.newest (take l.write-index l.writes) l.newest
