use Rattle.history_cases.specs.Pairs.{IsBetween}
use Rattle.history_cases.proofs.limit.commit_many.Given as goal

abbrev pub invariant-loop : goal.invariant-loop
invariant-loop l = IsBetween l.history.events
