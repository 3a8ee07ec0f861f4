use Rattle.history_book.specs.Book.{IsIdle}
use Rattle.committed_cases.proofs.full.define_many.Given as goal

abbrev pub invariant-loop-at : goal.invariant-loop-at
invariant-loop-at l = IsIdle l.book.state
