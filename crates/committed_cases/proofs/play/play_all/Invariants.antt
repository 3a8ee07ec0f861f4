use Rattle.history_book.specs.Book.{IsIdle}
use Rattle.committed_cases.proofs.play.play_all.Given as goal

abbrev pub invariant-loop-transaction : goal.invariant-loop-transaction
invariant-loop-transaction l = IsIdle l.book.state
