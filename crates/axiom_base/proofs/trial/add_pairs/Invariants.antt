use Rattle.axiom_base.specs.Sights.{IsTrialIn, AreGathered}
use Rattle.axiom_base.proofs.Gathering.{IsReached}
use Rattle.axiom_base.proofs.trial.add_pairs.Given as goal

abbrev pub invariant-loop-number : goal.invariant-loop-number
invariant-loop-number l =
    AreGathered (IsTrialIn l.history.events l.read.reader l.read.seen l.before.since.items l.after.since.items) (IsReached l.first l.seconds l.number-index) l.edges.items
