use Rattle.std.specs.Prelude.{◌≡◌}
use Rattle.history_book.specs.Book.{no_session}
use Rattle.session_cases.proofs.full.opened.Given as goal

abbrev pub invariant-loop : goal.invariant-loop
invariant-loop l = l.book.state ≡ no_session
