use Rattle.std.proofs.Common.{refl, ap}
use Rattle.history_core.specs.declared.event.Event.TheVariants as events
use Rattle.history_book.specs.Book.{session_of}
use Rattle.shared_book.proofs.Making.{added_or_none, pending_has, on_any}
use Rattle.shared_book.proofs.calls.ScanSeatCallUnit.make.Goals as goal

pub returns-clause-adds : goal.returns-clause-adds
returns-clause-adds c =
    added_or_none _ _ c.scan.ensures.stays c.scan.result (λ keys. events.Scan (session_of c.args.book.now.state) c.args.self.table keys) c.scan.ensures.ok c.scan.ensures.err
    (pending_has _ c.requires.may.0) (λ keys. refl) (on_any _ _ (ap session_of c.scan.ensures.state))
