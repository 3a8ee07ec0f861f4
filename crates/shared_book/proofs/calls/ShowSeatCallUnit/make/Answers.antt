use Rattle.std.proofs.Common.{refl, ap}
use Rattle.history_core.specs.declared.event.Event.TheVariants as events
use Rattle.history_book.specs.Book.{session_of}
use Rattle.shared_book.proofs.Making.{added_or_none, on_any}
use Rattle.shared_book.proofs.calls.ShowSeatCallUnit.make.Goals as goal

pub returns-clause-adds : goal.returns-clause-adds
returns-clause-adds c =
    added_or_none _ _ c.show.ensures.stays c.show.result (λ number. events.Show (session_of c.args.book.now.state) number) c.show.ensures.ok c.show.ensures.err
    c.requires.may (λ number. refl) (on_any _ _ (ap session_of c.show.ensures.state))
