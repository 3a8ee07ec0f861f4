use Rattle.history_book.specs.Book.{IsIdle}
use Rattle.committed_cases.proofs.full.define_further.Given as goal

abbrev pub invariant-loop-row : goal.invariant-loop-row
invariant-loop-row l = IsIdle l.book.state
