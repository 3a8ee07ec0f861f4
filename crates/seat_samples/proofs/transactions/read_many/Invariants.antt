use Rattle.seat_samples.specs.SessionStates.{IsReady}
use Rattle.seat_samples.proofs.transactions.read_many.Given as goal

abbrev pub invariant-loop : goal.invariant-loop
invariant-loop l = IsReady l.book
