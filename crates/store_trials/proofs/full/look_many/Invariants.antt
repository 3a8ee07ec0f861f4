use Rattle.seat_samples.specs.SessionStates.{IsReady}
use Rattle.store_trials.proofs.full.look_many.Given as goal

abbrev pub invariant-loop : goal.invariant-loop
invariant-loop l = IsReady l.book
