use Rattle.std.proofs.Common.{refl, []}
use Rattle.history_core.specs.declared.event.Event.TheVariants as events
use Rattle.history_book.specs.Book.{session_of, pending}
use Rattle.shared_book.proofs.Making.{added_or_none, idle_has, on_same}
use Rattle.shared_book.proofs.calls.BeginSeatCallUnit.make.Goals as goal

pub returns-clause-adds : goal.returns-clause-adds
returns-clause-adds c =
    added_or_none _ _ c.begin-answer.ensures.stays c.begin-answer.result (λ n. events.Begin (session_of c.args.book.now.state) c.args.self.level) c.begin-answer.ensures.ok c.begin-answer.ensures.err
    (idle_has _ c.requires.may) (λ n. refl) (on_same c.begin-answer.result c.args.book.now.state _ (pending (session_of c.args.book.now.state) []) refl c.begin-answer.ensures.state)
