-- The book stays ready, and its pass the same.
use Rattle.shared_book.specs.Books.{past_of}
use Rattle.seat_samples.specs.SessionStates.{IsReady}
use Rattle.shared_cases.specs.Passes.{SamePass}
use Rattle.shared_cases.proofs.tests.write_many.Given as goal

abbrev pub invariant-loop : goal.invariant-loop
invariant-loop g l = IsReady (past_of l.book) × SamePass l.fn.book.pass l.book.pass
