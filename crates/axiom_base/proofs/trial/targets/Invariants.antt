use Rattle.axiom_base.specs.Sights.{IsTarget}
use Rattle.axiom_base.proofs.Gathering.{AreAllBelow}
use Rattle.axiom_base.proofs.trial.targets.Given as goal

abbrev pub invariant-loop-number : goal.invariant-loop-number
invariant-loop-number l = AreAllBelow (IsTarget l.history.events l.read.reader l.read.seen) l.number l.numbers.items
