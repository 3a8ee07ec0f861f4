use Rattle.axiom_base.specs.Sights.{IsTrialIn, AreGathered, IsFirstBelow}
use Rattle.axiom_base.proofs.trial.trial_by.Given as goal

abbrev pub invariant-loop-first : goal.invariant-loop-first
invariant-loop-first l =
    AreGathered (IsTrialIn l.history.events l.read.reader l.read.seen l.before.since.items l.after.since.items) (IsFirstBelow l.first) l.edges.items
