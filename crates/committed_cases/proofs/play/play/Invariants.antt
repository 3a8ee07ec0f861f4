use Rattle.history_book.specs.Book.{IsInTransaction}
use Rattle.committed_cases.proofs.play.play.Given as goal

abbrev pub invariant-loop-put : goal.invariant-loop-put
invariant-loop-put l = IsInTransaction l.book.state
