use Rattle.axiom_base.specs.Sights.{Sees}
use Rattle.axiom_base.proofs.Gathering.{AreAllBelow}
use Rattle.axiom_base.proofs.sight.visible_by.Given as goal

abbrev pub invariant-loop-writer : goal.invariant-loop-writer
invariant-loop-writer l = AreAllBelow (Sees l.sight.since.items l.number) l.writer l.writers.items
